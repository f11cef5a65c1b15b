-- What making a page resident does, by its parts.
use Rattle.std.proofs.Common.{true≢false, false, is_some, ◌≡◌, ℕ, Bool, ◌<◌, ◌≤◌, ◌+◌, min, List, length, Option, Some, None, refl, ap, subst, ◌∙◌, arith}
use Rattle.std.specs.Prelude.{Result, Ok, Err, IfOk, IfErr}
use Rattle.std.specs.Result.{IsErrOf}
use Rattle.als_record.specs.Pages.{PageState}
use Rattle.als_disk.specs.Slot.{Slot}
use Rattle.als_page.specs.Block.{block_of}
use Rattle.als_frames.proofs.PageBlocks.{block_of-injective}
use Rattle.als_frames.specs.declared.fault.Fault.{Fault}
use Rattle.als_frames.specs.declared.fault.Fault.TheVariants.{PoolFull, NothingToDo, Device, Memory, BadPage}
use Rattle.als_frames.specs.Frames.{Framed, clean_frame, Paged, frame_of, slot_of}
use Rattle.als_frames.specs.Outcomes.{IsFound, IsBad, IsBadBelow, FailsToRead, RefusesReading, RefusesFetch, IsFetched, IsFull, PutsIn}
use Rattle.als_frames.specs.Table.{IsPlace, NoneIsFree, Puts, Replaces}

-- what callers see, by its parts
abbrev pub paged : ℕ → ℕ → List (ℕ × Framed) → List Slot → ℕ → ℕ → ℕ → Bool → Paged
paged pages most frames slots blocks failures attempts sure = record {
  pages = pages;
  most = most;
  frames = frames;
  slots = slots;
  blocks = blocks;
  failures = failures;
  attempts = attempts;
  sure = sure;
}

-- the same but for what is given, where the device counts nothing
pub same_device : (old : Paged) (slots : List Slot) (blocks failures attempts : ℕ) → slots ≡ old.slots → blocks ≡ old.blocks
    → failures ≡ old.failures → attempts ≡ old.attempts
    → ◌≡◌ {A = Paged} (record old { slots = slots; blocks = blocks; failures = failures; attempts = attempts }) old
same_device old slots blocks failures attempts es eb ef ea =
    λ j. record old { slots = es j; blocks = eb j; failures = ef j; attempts = ea j }

pub same_but_failures : (old : Paged) (slots : List Slot) (blocks failures attempts : ℕ) → slots ≡ old.slots → blocks ≡ old.blocks → attempts ≡ old.attempts
    → ◌≡◌ {A = Paged} (record old { slots = slots; blocks = blocks; failures = failures; attempts = attempts }) (record old { failures = failures })
same_but_failures old slots blocks failures attempts es eb ea = λ j. record old { slots = es j; blocks = eb j; failures = failures; attempts = ea j }

-- where one more frame can go, not all are used and dirty
pub not_full : (v : Paged) (page : ℕ) (place : Option ℕ) → IsPlace v.frames v.most place → IsFull v page → ⊥
not_full v page None can full = omega (arith, can, full.used)
not_full v page (Some i) can full = let at = can.2 in full.dirty at.page at.f at.found at.free

-- a read that failed, by the device's failures
pub refused_reading : (e : Fault) (old new : Paged) (page : ℕ) → new ≡ record old { failures = new.failures }
    → FailsToRead e (slot_of old page) page old.failures new.failures → RefusesReading e old new page
refused_reading Device old new page same failed = record { failed = failed; same = same }
refused_reading (BadPage p) old new page same failed = (failed.0, failed.1, same ∙ ap (λ n. record old { failures = n }) failed.2)
refused_reading PoolFull old new page same failed = failed
refused_reading NothingToDo old new page same failed = failed
refused_reading Memory old new page same failed = failed

-- no page at all is no page below an end
bad_below : (slot : Slot) (page end : ℕ) → IsBad slot page → IsBadBelow slot page end
bad_below slot page end bad = record { block = bad.block; given = bad.given; no_page = λ content possible is. absurd (bad.no_page content possible is) }

pub refused_fetch : (e : Fault) (old new : Paged) (page end : ℕ) → (IsFull old page → ⊥) → RefusesReading e old new page → RefusesFetch e old new page end
refused_fetch Device old new page end room failed = (room, failed)
refused_fetch (BadPage p) old new page end room failed = (room, failed.0, bad_below (slot_of old page) page end failed.1, failed.2)
refused_fetch PoolFull old new page end room failed = absurd failed
refused_fetch NothingToDo old new page end room failed = absurd failed
refused_fetch Memory old new page end room failed = absurd failed

-- a page whose page_LSN is not below an end is no page below it
pub past_end : (slot : Slot) (page end : ℕ) (content : PageState) → IsFound slot page content → end ≤ content.lsn → IsBadBelow slot page end
past_end slot page end content found le = record {
  block = block_of page content;
  given = found.given;
  no_page = λ other possible is. subst (λ (p : PageState). end ≤ p.lsn) (block_of-injective page content other found.possible possible is) le;
}

-- a page is put into a frame
pub puts_in : (old new : Paged) (page : ℕ) (content : PageState) (frame : Framed) → frame ≡ clean_frame page content
    → Replaces old.frames new.frames page frame → (length old.frames < old.most → Puts old.frames new.frames page frame)
    → length new.frames ≡ min (length old.frames + 1) old.most → new ≡ record old { frames = new.frames } → PutsIn old new page content
puts_in old new page content frame is replaces free used same = record {
  frame = replaces.frame ∙ ap Some is;
  others = replaces.others;
  free = λ lt. (free lt).others;
  used = used;
  same = same;
}

-- where no frame can go, the frames are full
pub is_full : (v : Paged) (page : ℕ) → frame_of v page ≡ None → v.most ≤ length v.frames → NoneIsFree v.frames → IsFull v page
is_full v page absent used none = record { absent = absent; used = used; dirty = none }

-- where the frames are full, a page that has none gets none
pub refuses_full : {T : Type 0} (r : Result T Fault) (old new : Paged) (page end : ℕ) (content : T → PageState) → IfOk r (λ x. IsFetched old page end (content x)) → IfErr r (λ e. RefusesFetch e old new page end) → IsFull old page
    → IsErrOf r PoolFull
refuses_full (Ok x) old new page end content ok err full = absurd (ok.can full)
refuses_full (Err PoolFull) old new page end content ok err full = refl
refuses_full (Err Device) old new page end content ok err full = absurd (err.0 full)
refuses_full (Err (BadPage p)) old new page end content ok err full = absurd (err.0 full)
refuses_full (Err Memory) old new page end content ok err full = absurd err
refuses_full (Err NothingToDo) old new page end content ok err full = absurd err

pub none_of : {T : Type 0} (o : Option T) → is_some o ≡ false → o ≡ None
none_of None h = refl
none_of (Some x) h = absurd (true≢false h)
