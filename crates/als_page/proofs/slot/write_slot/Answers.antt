use Rattle.std.proofs.Common.{◌≡◌, ◌<◌, ℕ, suc, ◌++◌, ◌∷◌, [], List, length, get_or, ap, ap₂, subst, ◌∙◌, arith, Fits, w8}
use Rattle.als_page.proofs.SlotLaws.{set-one, slot_bytes-kept, IsImage-kept}
use Rattle.als_page.proofs.slot.write_slot.Goals as goal

pub returns-clause-written : goal.returns-clause-written
returns-clause-written c =
    let front : length c.split_at_mut-first.result.0.now ≡ 1 = c.split_at_mut-first.ensures.front_len in
    let one : ℕ → List ℕ = λ b. b ∷ [] in
    ap₂ (λ xs ys. xs ++ ys) (set-one c.split_at_mut-first.result.0.now c.first.result front ∙ ap one c.first.ensures) (c.copy_from_slice.ensures.after ∙ c.rest.ensures)
    ∙ slot_bytes-kept c.args.image.now

pub returns-clause-fits : goal.returns-clause-fits
returns-clause-fits c =
    let front : length c.split_at_mut-first.result.0.now ≡ 1 = c.split_at_mut-first.ensures.front_len in
    let len : length c.rest.result.now ≡ 31 =
    omega (arith, ap length c.copy_from_slice.ensures.after, c.copy_from_slice.ensures.len, c.split_at_mut-first.ensures.back_len, c.requires) in
    let all : (i : ℕ) → Fits w8 (get_or (c.first.result ∷ c.rest.result.now) i 0) =
    subst (λ (xs : List ℕ). (i : ℕ) → Fits w8 (get_or xs i 0))
    (ap₂ (λ xs ys. xs ++ ys) (set-one c.split_at_mut-first.result.0.now c.first.result front) c.copy_from_slice.ensures.after) c.type_inv.into in
    let bytes : (k : ℕ) → get_or c.rest.result.now k 0 < 256 = λ k. omega (arith, all (suc k)) in
    IsImage-kept c.args.image.now c.rest.result.now c.rest.ensures len bytes
