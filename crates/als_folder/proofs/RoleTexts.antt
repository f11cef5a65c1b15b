-- A text is that of one epoch alone.
use Rattle.std.proofs.Common.{◌≡◌, ◌≤◌, ℕ, List, [], ◌∷◌, ◌++◌, sym, ap, ◌∙◌, arith, Some}
use Rattle.std.specs.Prelude.{codes}
use Rattle.std.specs.Fmt.{decimal}
use Rattle.std.specs.Str.Parse.{digits_value}
use Rattle.std.proofs.lemmas.Fmt.{decimal_is_IsNumeral}
use Rattle.std.proofs.lemmas.List.{append_cancel_left, append_cancel_right}
use Rattle.als_folder.specs.Roles.{role_text}
use Rattle.als_folder.specs.declared.role.Role.{Role}

pub role_text_apart : (a b : ℕ) → a ≤ 32 → b ≤ 32 → role_text a ≡ role_text b → a ≡ b
unfolding role_text
role_text_apart a b small_a small_b is =
    let ends : decimal a ++ 10 ∷ [] ≡ decimal b ++ 10 ∷ [] = append_cancel_left (codes "primary epoch=") (decimal a ++ 10 ∷ []) (decimal b ++ 10 ∷ []) is in
    let digits : decimal a ≡ decimal b = append_cancel_right (decimal a) (decimal b) (10 ∷ []) ends in
    sym (decimal_is_IsNumeral a (omega arith)).1 ∙ ap (digits_value 10) digits ∙ (decimal_is_IsNumeral b (omega arith)).1

-- the role of an epoch
abbrev pub role_of : ℕ → Role
role_of epoch = record { epoch = epoch }

-- the text of an epoch is that of no other one
pub found_once : (text : List ℕ) (a : ℕ) → a ≤ 32 → text ≡ role_text a → (epoch : ℕ) → epoch ≤ 32 → text ≡ role_text epoch → Some (role_of a) ≡ Some (role_of epoch)
found_once text a small is epoch small_epoch also = ap (λ (e : ℕ). Some (role_of e)) (role_text_apart a epoch small small_epoch (sym is ∙ also))
