-- Laws of blocks.
use Rattle.std.proofs.Common.{◌≡◌, ◌≢◌, ℕ, ◌<◌, ◌+◌, List, replicate, inl, inr, refl, sym, ap, subst, ◌∙◌, arith}
use Rattle.std.specs.Prelude.{Contains}
use Rattle.std.proofs.lemmas.Bool.{cases_lt}
use Rattle.als_disk.specs.Slot.{Slot, only, written, KeepsReadable, SameBlocksBut}
use Rattle.als_disk.specs.SlotLaws.{readable-write}
use Rattle.als_disk.specs.Store.{zeros}

pub zeros-replicate : replicate 512 0 ≡ zeros
unfolding zeros
zeros-replicate = refl

-- one more block was written with zeros
pub zeros-more : (old new : ℕ → Slot) (i at : ℕ) → at ≡ i → new at ≡ written (old at) (replicate 512 0) → SameBlocksBut at old new
    → ((k : ℕ) → k < i → (x : List ℕ) → Contains (old k).readable x → zeros ≡ x)
    → (k : ℕ) → k < i + 1 → (x : List ℕ) → Contains (new k).readable x → zeros ≡ x
zeros-more old new i at here is others before k lt x has =
    elim (cases_lt k i) [
      | inl below ↦
          let apart : k ≢ at = λ e. omega (arith, e, here, below) in
          before k below x (subst (λ (s : Slot). Contains s.readable x) (others k apart) has)
      | inr above ↦
          let same : k ≡ at = omega (arith, above, lt, here) in
          sym zeros-replicate ∙ readable-write (old at) (new at) (replicate 512 0) x is (subst (λ (n : ℕ). Contains (new n).readable x) same has)
    ]

-- a block that gives zeros alone is left with them by a sync
pub zeros-synced : (old new : Slot) → KeepsReadable old new → ((x : List ℕ) → Contains old.readable x → zeros ≡ x) → new ≡ only zeros
zeros-synced old new keeps all = keeps.left ∙ ap only (sym (all keeps.content keeps.was_readable))
