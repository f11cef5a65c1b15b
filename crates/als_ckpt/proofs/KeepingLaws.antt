-- What is kept true of the whole device, from one call to the next.
use Rattle.std.proofs.Common.{◌≡◌, ℕ, ◌+◌, ◌≤◌, Bool, true, false, IsTrue, List, [], ◌∷◌, ◌++◌, Option, None, Some, IsSomeAnd, arith, sym, ap, subst, ◌∙◌}
use Rattle.std.specs.Prelude.{Contains, ◌⊎◌}
use Rattle.als_disk.specs.Slot.{Slot, written, FailsToWrite, KeepsReadable, SameBlocks, SameBlocksBut, GivesCandidates}
use Rattle.als_ckpt_codec.specs.declared.checkpoint.Checkpoint.{Checkpoint}
use Rattle.als_ckpt_codec.specs.Checkpoint.{checkpoint_bytes}
use Rattle.als_ckpt.specs.declared.region.Region.{Region}
use Rattle.als_ckpt.specs.declared.control_state.ControlState.{ControlState}
use Rattle.als_ckpt.specs.Regions.{first_block, next_region, part_of, Held, held_at, with_held, block_written, blocks_synced, Begun, IsBegun, IsWhole, HasBlockLeft, IsPublished, blocks_of, position_of}
use Rattle.als_ckpt.specs.Control.{Controlled, newest, control_block, with_whole, IsControlState, Continues, IsControlled, IsApartIf, IsBeginning}
use Rattle.als_ckpt.specs.Kept.{IsKept, IsKeeping, AreHeld}
use Rattle.als_ckpt.proofs.KeptLaws.{IsKept-written, IsKept-failed, IsKept-synced}
use Rattle.als_ckpt.proofs.RegionLaws.{block-above}
use Rattle.als_ckpt.proofs.StateLaws.{Continues-same, Contains-last_state}
use Rattle.als_record.specs.declared.lsn.Lsn.{Lsn}
use Rattle.als_ckpt.proofs.HeldLaws.{AreHeld-same, AreHeld-written, AreHeld-tried, AreHeld-block, AreHeld-synced, AreHeld-begun, AreHeld-whole}

module _ (old new : ℕ → Slot) (pages log_bytes blocks : ℕ) (synced newest : ControlState) (since : List ControlState) (sure : Bool) (held : Held) (begun : Option Begun)
    (kept : IsKeeping old pages log_bytes blocks synced newest since sure held begun) where
  -- nothing was written
  pub IsKeeping-same : SameBlocks old new → IsKeeping new pages log_bytes blocks synced newest since sure held begun
  IsKeeping-same same = record {
    states = subst (λ (s : Slot). IsKept s pages log_bytes blocks synced newest since sure) (sym (same 0)) kept.states;
    checkpoints = AreHeld-same old new pages synced newest since held begun kept.checkpoints same;
  }

  -- a sync, where no write of the control block had failed
  pub IsKeeping-synced : IsTrue sure → GivesCandidates old → ((k : ℕ) → KeepsReadable (old k) (new k)) → IsKeeping new pages log_bytes blocks newest newest [] true held (blocks_synced begun)
  IsKeeping-synced is_sure gives keeps = record {
    states = IsKept-synced pages log_bytes blocks (old 0) (new 0) synced newest since sure kept.states is_sure (keeps 0);
    checkpoints = AreHeld-synced old new pages synced newest since held begun kept.checkpoints kept.states.last gives keeps;
  }

  -- a write of the control block
  module _ (s : ControlState) (fits : IsControlState log_bytes s) (rises : newest.mark.0 ≤ s.mark.0) (grows : Continues newest s) (others : SameBlocksBut 0 old new)
      (named : IsPublished pages s.published s.position.0 (held_at held s.published))
      (place : (s.published ≡ newest.published) ⊎ ((begun ≡ None) × (newest.published ≡ synced.published))) where
    pub IsKeeping-written : new 0 ≡ written (old 0) (control_block pages s) → IsKeeping new pages log_bytes blocks synced s (since ++ s ∷ []) sure held begun
    IsKeeping-written is = record {
      states = IsKept-written pages log_bytes blocks (old 0) (new 0) synced newest s since sure kept.states fits rises grows is;
      checkpoints = AreHeld-written old new pages synced newest since held s begun kept.checkpoints others named place;
    }

    pub IsKeeping-failed : FailsToWrite (old 0) (new 0) (control_block pages s) → IsKeeping new pages log_bytes blocks synced s (since ++ s ∷ []) false held begun
    IsKeeping-failed fails = record {
      states = IsKept-failed pages log_bytes blocks (old 0) (new 0) synced newest s since sure kept.states fits rises grows fails;
      checkpoints = AreHeld-written old new pages synced newest since held s begun kept.checkpoints others named place;
    }

-- where the next block of a checkpoint goes, and what it holds
abbrev IsNext : ℕ → List ℕ → Begun → Type 0
IsNext place block b = IsBegun b × HasBlockLeft b × (place ≡ first_block b.region + b.written) × (block ≡ part_of (checkpoint_bytes b.checkpoint) b.written)

-- a write of a checkpoint's next block
module _ (old new : ℕ → Slot) (pages log_bytes blocks : ℕ) (synced newest : ControlState) (since : List ControlState) (sure : Bool) (held : Held) (place : ℕ) (block : List ℕ) where
  control_block-same : (b : Begun) → place ≡ first_block b.region + b.written → SameBlocksBut place old new → IsKept (old 0) pages log_bytes blocks synced newest since sure
      → IsKept (new 0) pages log_bytes blocks synced newest since sure
  control_block-same b at others was =
      subst (λ (s : Slot). IsKept s pages log_bytes blocks synced newest since sure) (sym (others 0 (λ (e : 0 ≡ place). block-above b.region b.written (sym (e ∙ at))))) was

  pub IsKeeping-tried : (begun : Option Begun) → IsKeeping old pages log_bytes blocks synced newest since sure held begun → IsSomeAnd begun (λ b. IsNext place block b) → SameBlocksBut place old new
      → IsKeeping new pages log_bytes blocks synced newest since sure held begun
  IsKeeping-tried None kept next others = absurd next
  IsKeeping-tried (Some b) kept next others = record {
    states = control_block-same b next.2 others kept.states;
    checkpoints = AreHeld-tried old new pages synced newest since held b kept.checkpoints next.1 (subst (λ (n : ℕ). SameBlocksBut n old new) next.2 others);
  }

  pub IsKeeping-block : (begun : Option Begun) → IsKeeping old pages log_bytes blocks synced newest since sure held begun → IsSomeAnd begun (λ b. IsNext place block b) → SameBlocksBut place old new
      → new place ≡ written (old place) block → IsKeeping new pages log_bytes blocks synced newest since sure held (block_written begun)
  IsKeeping-block None kept next others is = absurd next
  IsKeeping-block (Some b) kept next others is = record {
    states = control_block-same b next.2 others kept.states;
    checkpoints = AreHeld-block old new pages synced newest since held b kept.checkpoints next.1 (subst (λ (n : ℕ). SameBlocksBut n old new) next.2 others)
        (subst (λ (n : ℕ). new n ≡ written (old n) (part_of (checkpoint_bytes b.checkpoint) b.written)) next.2
        (is ∙ ap (λ (xs : List ℕ). written (old place) xs) next.3));
  }

module _ (slots : ℕ → Slot) (pages log_bytes blocks : ℕ) (synced newest : ControlState) (since : List ControlState) (sure : Bool) (held after : Held) where
  -- a checkpoint is begun
  pub IsKeeping-begun : (begun : Option Begun) (r : Region) (c : Checkpoint) (b : Begun) → IsKeeping slots pages log_bytes blocks synced newest since sure held begun
      → begun ≡ None → newest.published ≡ synced.published → r ≡ next_region newest.published → b ≡ record { region = r; checkpoint = c; written = 0; synced = 0 }
      → after ≡ with_held held r None → blocks_of b.checkpoint ≤ 160 → IsBeginning pages c → IsKeeping slots pages log_bytes blocks synced newest since sure after (Some b)
  IsKeeping-begun begun r c b kept none same next is changed few beginning = record {
    states = kept.states;
    checkpoints = rw (changed, is) (AreHeld-begun slots pages synced newest since held r c
        (subst (λ (x : Option Begun). AreHeld slots pages synced newest since held x) none kept.checkpoints) same next
        (subst (λ (x : Begun). blocks_of x.checkpoint ≤ 160) is few) beginning);
  }

  -- a checkpoint is whole
  pub IsKeeping-whole : (begun now : Option Begun) (b : Begun) (r : Region) (c : Checkpoint) → IsKeeping slots pages log_bytes blocks synced newest since sure held begun
      → begun ≡ Some b → now ≡ None → IsSomeAnd begun IsWhole → r ≡ b.region → c ≡ b.checkpoint → after ≡ with_held held r (Some c)
      → IsKeeping slots pages log_bytes blocks synced newest since sure after now
  IsKeeping-whole begun now b r c kept is none whole same_region same changed = record {
    states = kept.states;
    checkpoints = rw (changed, none, same_region, same) (AreHeld-whole slots pages synced newest since held b
        (subst (λ (x : Option Begun). AreHeld slots pages synced newest since held x) is kept.checkpoints) (subst (λ (x : Option Begun). IsSomeAnd x IsWhole) is whole));
  }

-- ---- a publish

position-published : (pages : ℕ) (synced newest : ControlState) (held : Held) (begun : Option Begun) (region : Region) (position : Lsn) (mark : ℕ) → IsApartIf pages synced newest held begun
    → IsSomeAnd begun (λ b. IsWhole b × (position_of b ≤ mark) × (region ≡ b.region) × (position ≡ b.checkpoint.numbers.position)) → (16 ≤ position.0) × (position.0 ≤ mark)
position-published pages synced last held None region position mark apart ready = absurd ready
position-published pages synced last held (Some b) region position mark apart ready =
    let at : position.0 ≡ b.checkpoint.numbers.position.0 = ap (λ (l : Lsn). l.0) ready.3 in
    let from : 16 ≤ b.checkpoint.numbers.position.0 = apart.1.beginning.position in
    let to : b.checkpoint.numbers.position.0 ≤ mark = ready.1 in
    (omega (arith, at, from), omega (arith, at, to))

log_bytes-whole : (old new : Controlled) (begun : Option Begun) → IsSomeAnd begun (λ b. new ≡ with_whole old b) → new.log_bytes ≡ old.log_bytes
log_bytes-whole old new None is = absurd is
log_bytes-whole old new (Some b) is = ap (λ (v : Controlled). v.log_bytes) is

-- a publish keeps the history
pub Continues-whole : (old new : Controlled) (begun : Option Begun) (last : ControlState) (region : Region) (position : Lsn) → last ≡ newest old → IsSomeAnd begun (λ b. new ≡ with_whole old b)
    → Continues (newest new) (record { phase = last.phase; published = Some region; mark = last.mark; position = position; seal = last.seal; history = last.history })
Continues-whole old new None last region position same is = absurd is
Continues-whole old new (Some b) last region position same is =
    let still : newest new ≡ newest old = ap newest is in
    Continues-same (newest new) _ (ap (λ (t : ControlState). t.history) (same ∙ sym still))

-- the format admits the state that is published
pub publishing-fits : (old new : Controlled) (begun : Option Begun) (last : ControlState) (region : Region) (position mark : Lsn) → IsControlled old → begun ≡ old.begun → last ≡ newest old → mark ≡ old.synced.mark
    → IsSomeAnd begun (λ b. IsWhole b × (position_of b ≤ mark.0) × (region ≡ b.region) × (position ≡ b.checkpoint.numbers.position)) → IsSomeAnd old.begun (λ b. new ≡ with_whole old b)
    → IsControlState new.log_bytes (record { phase = last.phase; published = Some region; mark = last.mark; position = position; seal = last.seal; history = last.history })
publishing-fits old new begun last region position mark facts same_begun same_last same_mark ready is =
    let among : Contains (old.synced ∷ old.since) last = subst (Contains (old.synced ∷ old.since)) (sym same_last) (Contains-last_state old.synced old.since) in
    let fits : IsControlState old.log_bytes last = facts.fits last among in
    let place : (16 ≤ position.0) × (position.0 ≤ mark.0) =
    position-published old.pages old.synced (newest old) old.held begun region position mark.0 (subst (λ (x : Option Begun). IsApartIf old.pages old.synced (newest old) old.held x) (sym same_begun) facts.apart) ready in
    let at_mark : mark.0 ≡ old.synced.mark.0 = ap (λ (l : Lsn). l.0) same_mark in
    let to_last : old.synced.mark.0 ≤ last.mark.0 = facts.from_synced last among in
    let low : position.0 ≤ mark.0 = place.1 in
    rw (log_bytes-whole old new old.begun is) (record {
      begins = fits.begins;
      in_log = fits.in_log;
      position = (place.0, omega (arith, low, at_mark, to_last));
      seal = fits.seal;
      history = fits.history;
      lsns = fits.lsns;
      last = fits.last;
    })
