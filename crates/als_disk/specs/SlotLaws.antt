-- What is among the candidates and the readable contents of a block, before and after a change.
use Rattle.std.specs.Prelude.{◌≡◌, ◌⊎◌, ℕ, List, [], ◌∷◌, Contains, slice_index_or}
use Rattle.std.proofs.Common.{arith, subst, inl, inr, sym}
use Rattle.std.proofs.lemmas.List.Elements.{Contains-append_left, Contains-push_cases}
use Rattle.als_disk.specs.Slot.{Slot, written, FailsToWrite}

-- the one element of a list
pub Contains-one : {X : Type 0} {x y : X} → Contains (x ∷ []) y → x ≡ y
Contains-one {X} {x} {y} (k, below, is) = let first : k ≡ 0 = omega arith in subst (λ (n : ℕ). slice_index_or (x ∷ []) n y ≡ y) first is

module _ (old new : Slot) (content x : List ℕ) where
  -- A write adds its content to the candidates, and nothing else: one that succeeds,
  pub candidates-write : new ≡ written old content → Contains new.candidates x → Contains old.candidates x ⊎ (content ≡ x)
  candidates-write is has = Contains-push_cases old.candidates content x (subst (λ (s : Slot). Contains s.candidates x) is has)

  pub readable-write : new ≡ written old content → Contains new.readable x → content ≡ x
  readable-write is has = Contains-one (subst (λ (s : Slot). Contains s.readable x) is has)

  -- and one that fails.
  pub candidates-fail : FailsToWrite old new content → Contains new.candidates x → Contains old.candidates x ⊎ (content ≡ x)
  candidates-fail (inl same) has = inl (subst (λ (s : Slot). Contains s.candidates x) same has)
  candidates-fail (inr (inl in_doubt)) has = Contains-push_cases old.candidates content x (subst (λ (s : Slot). Contains s.candidates x) in_doubt has)
  candidates-fail (inr (inr done)) has = candidates-write done has

  pub readable-fail : FailsToWrite old new content → Contains new.readable x → Contains old.readable x ⊎ (content ≡ x)
  readable-fail (inl same) has = inl (subst (λ (s : Slot). Contains s.readable x) same has)
  readable-fail (inr (inl in_doubt)) has = Contains-push_cases old.readable content x (subst (λ (s : Slot). Contains s.readable x) in_doubt has)
  readable-fail (inr (inr done)) has = inr (readable-write done has)

  -- No candidate goes away before a sync.
  pub candidates-kept : FailsToWrite old new content → Contains old.candidates x → Contains new.candidates x
  candidates-kept (inl same) has = subst (λ (s : Slot). Contains s.candidates x) (sym same) has
  candidates-kept (inr (inl in_doubt)) has = subst (λ (s : Slot). Contains s.candidates x) (sym in_doubt) (Contains-append_left old.candidates (content ∷ []) x has)
  candidates-kept (inr (inr done)) has = subst (λ (s : Slot). Contains s.candidates x) (sym done) (Contains-append_left old.candidates (content ∷ []) x has)
