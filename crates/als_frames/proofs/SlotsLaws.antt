-- Laws of what stands in the blocks of pages.
use Rattle.std.proofs.Common.{◌≡◌, ◌≢◌, ℕ, zero, suc, ◌<◌, ◌≤◌, ◌+◌, [], ◌∷◌, inl, inr, refl, sym, ap, ap₂, ◌∙◌, arith}
use Rattle.std.proofs.lemmas.Bool.{cases_lt}
use Rattle.als_disk.specs.Slot.{Slot, only, SameBlocks, SameBlocksBut}
use Rattle.als_frames.specs.Frames.{slots_from, slot_in}

-- where each block is as it was, so is their list
pub slots_from-same : (i count : ℕ) (old new : ℕ → Slot) → ((k : ℕ) → i ≤ k → k < i + count → new k ≡ old k) → slots_from i count new ≡ slots_from i count old
unfolding slots_from
slots_from-same i zero old new same = refl
slots_from-same i (suc count) old new same =
    ap₂ (λ s rest. s ∷ rest) (same i (omega arith) (omega arith))
    (slots_from-same (suc i) count old new (λ k from below. same k (omega (arith, from)) (omega (arith, below))))

pub slots_from-all : (count : ℕ) (old new : ℕ → Slot) → SameBlocks old new → slots_from 0 count new ≡ slots_from 0 count old
slots_from-all count old new same = slots_from-same 0 count old new (λ k from below. same k)

-- what stands at a place
slots_from-at : (i count k : ℕ) (slot : ℕ → Slot) → k < count → slot_in (slots_from i count slot) k ≡ slot (i + k)
unfolding slots_from slot_in
slots_from-at i zero k slot lt = absurd (omega arith)
slots_from-at i (suc count) zero slot lt = ap slot (let e : i ≡ i + 0 = omega arith in e)
slots_from-at i (suc count) (suc k) slot lt =
    slots_from-at (suc i) count k slot (omega (arith, lt)) ∙ ap slot (let e : suc i + k ≡ i + suc k = omega arith in e)

-- and past the last one
slots_from-past : (i count k : ℕ) (slot : ℕ → Slot) → count ≤ k → slot_in (slots_from i count slot) k ≡ only []
unfolding slots_from slot_in
slots_from-past i zero k slot le = refl
slots_from-past i (suc count) zero slot le = absurd (omega arith)
slots_from-past i (suc count) (suc k) slot le = slots_from-past (suc i) count k slot (omega (arith, le))

pub slot_at : (count k : ℕ) (slot : ℕ → Slot) → k < count → slot_in (slots_from 0 count slot) k ≡ slot k
slot_at count k slot lt = slots_from-at 0 count k slot lt ∙ ap slot (let e : 0 + k ≡ k = omega arith in e)

-- a page of which the block is as it was
pub slot_same : (count k : ℕ) (old new : ℕ → Slot) → new k ≡ old k → slot_in (slots_from 0 count new) k ≡ slot_in (slots_from 0 count old) k
slot_same count k old new same =
    elim (cases_lt k count) [
      | inl lt ↦ slot_at count k new lt ∙ same ∙ sym (slot_at count k old lt)
      | inr le ↦ slots_from-past 0 count k new le ∙ sym (slots_from-past 0 count k old le)
    ]

pub slot_others : (count at k : ℕ) (old new : ℕ → Slot) → SameBlocksBut at old new → k ≢ at → slot_in (slots_from 0 count new) k ≡ slot_in (slots_from 0 count old) k
slot_others count at k old new same apart = slot_same count k old new (same k apart)
