-- What a write and a sync leave in a block.
use Rattle.std.proofs.Common.{◌≡◌, ℕ, List, replicate, refl, sym, ap, subst, ◌∙◌}
use Rattle.std.specs.Prelude.{Contains, ◌⊎◌}
use Rattle.als_disk.specs.Slot.{Slot, only, written, IsSettled, KeepsReadable}
use Rattle.als_disk.specs.SlotLaws.{Contains-one, candidates-write, readable-write}
use Rattle.als_disk.specs.Store.{zeros}
use Rattle.als_ckpt.specs.declared.control_state.ControlState.{ControlState}
use Rattle.als_ckpt.specs.Control.{Spells, HoldsState}
use Rattle.als_ckpt.proofs.PartLaws.{settled_is}

pub zeros-replicate : replicate 512 0 ≡ zeros
unfolding zeros
zeros-replicate = refl

module _ (old between new : Slot) (content : List ℕ) (is : between ≡ written old content) where
  -- a sync after a write leaves what was written
  pub only-synced : KeepsReadable between new → new ≡ only content
  only-synced keeps = keeps.left ∙ ap only (sym (readable-write old between content keeps.content is keeps.was_readable))

  -- a sync that failed after a write leaves what the write left
  pub candidates-unsynced : new ≡ between → (x : List ℕ) → Contains new.candidates x → Contains old.candidates x ⊎ (content ≡ x)
  candidates-unsynced same x has = candidates-write old new content x (same ∙ is) has

-- a settled block spells a state where what is read of it does
module _ (pages : ℕ) (slot : Slot) (block : List ℕ) (s : ControlState) (read : Contains slot.readable block) where
  pub HoldsState-read : IsSettled slot → Spells pages s block → HoldsState pages slot s
  HoldsState-read settled spelled = record { content = block; block = settled_is slot block settled read; spelled = spelled }

  pub Spells-held : HoldsState pages slot s → Spells pages s block
  Spells-held holds =
      subst (Spells pages s) (Contains-one (subst (λ (x : Slot). Contains x.readable block) holds.block read)) holds.spelled
