-- A reader goes on from itself, and the fields of a response are added a few at a time.
use Rattle.std.specs.Prelude.{◌≡◌, ℕ, List, [], ◌∷◌, ◌++◌, Option, Some, None}
use Rattle.std.proofs.Common.{refl, sym, subst, ap, ◌∙◌, append_assoc}
use Rattle.http1.specs.Fields.{Header}
use Rattle.als_record.specs.Commits.{Commit}
use Rattle.als_view.specs.declared.reader.Reader.{Reader}
use Rattle.als_view.specs.Entries.{Begins}
use Rattle.als_view.specs.Views.{known_to}
use Rattle.als_view.proofs.Fronts.{prefix_self}
use Rattle.als_http.specs.declared.reply.Reply.{Reply}
use Rattle.als_http.specs.Replies.{GoesOn, HasText}

pub begins_self : (known : Option (List Commit)) → Begins known known
begins_self None = tt
begins_self (Some commits) = prefix_self commits

pub goes_on_self : (r : Reader) → GoesOn r r
goes_on_self r = ((refl, refl), begins_self (known_to r))

pub text_same : (reply : Reply) (text sent old : List ℕ) → HasText reply text → sent ≡ old ++ text → old ≡ [] → HasText reply sent
text_same reply text sent old has is none = subst (HasText reply) (sym (is ∙ ap (λ (o : List ℕ). o ++ text) none)) has

-- three fields, one after the other
pub three_fields : (start mid late end : List Header) (a b c : Header) → mid ≡ start ++ a ∷ [] → late ≡ mid ++ b ∷ [] → end ≡ late ++ c ∷ []
    → end ≡ start ++ (a ∷ b ∷ c ∷ [])
three_fields start mid late end a b c p q r = rw (r, q, p, append_assoc, append_assoc)

-- a field whose name and value are other names of those that are added
pub field_is : (end start : List Header) (n m v w : List ℕ) → end ≡ start ++ (n, v) ∷ [] → n ≡ m → v ≡ w → end ≡ start ++ (m, w) ∷ []
field_is end start n m v w p q r = p ∙ ap (λ (k : List ℕ). start ++ (k, v) ∷ []) q ∙ ap (λ (k : List ℕ). start ++ (m, k) ∷ []) r
