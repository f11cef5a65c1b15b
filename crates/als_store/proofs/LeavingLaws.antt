-- What a crash leaves of a store, from what its devices hold.
use Rattle.std.proofs.Common.{◌≡◌, ℕ, ◌+◌, ◌*◌, ◌<◌, ◌≤◌, List, [], ◌++◌, Option, Some, None}
use Rattle.std.proofs.Common.{refl, sym, ap, subst, ◌∙◌, inl, inr, arith, append-nil, append_assoc, length-append}
use Rattle.std.specs.Prelude.{Bool, true, length, Contains, IfSome, slice_index}
use Rattle.std.specs.List.{AllByRecursion}
use Rattle.std.proofs.lemmas.List.{get_or_append_left}
use Rattle.als_record.specs.declared.lsn.Lsn.{Lsn}
use Rattle.als_record.specs.declared.record.Record.{Record}
use Rattle.als_record.specs.declared.rows.LoggedPage.{LoggedPage}
use Rattle.als_record.specs.LogText.{header_bytes, spellings, log_text, end_of}
use Rattle.als_record.specs.Tail.{tail_of}
use Rattle.als_record.specs.Validity.{IsValidLog}
use Rattle.als_record.proofs.HeaderLaws.{length-header_bytes}
use Rattle.als_record.proofs.LogLaws.{spellings-append, end_of_is}
use Rattle.als_record.proofs.TailFirst.{IsValidLog-front}
use Rattle.als_disk.specs.Slot.{Slot, KeepsCandidate}
use Rattle.als_disk.specs.SlotLaws.{Contains-one}
use Rattle.als_validator.specs.declared.validator.Validator.{Validator}
use Rattle.als_log.specs.Local.{Local, IsFrontEnd}
use Rattle.als_log.specs.Texts.{AllHaveText}
use Rattle.als_ckpt_codec.specs.declared.checkpoint.Checkpoint.{Checkpoint}
use Rattle.als_ckpt_codec.specs.declared.numbers.Numbers.{Numbers}
use Rattle.als_ckpt.specs.declared.phase.Phase.{Phase}
use Rattle.als_ckpt.specs.declared.phase.Phase.TheVariants.{Following, Sealed, Primary}
use Rattle.als_ckpt.specs.declared.control_state.ControlState.{ControlState}
use Rattle.als_ckpt.specs.declared.region.Region.{Region}
use Rattle.als_ckpt.specs.declared.region.Region.TheVariants.{First, Second}
use Rattle.als_ckpt.specs.Regions.{Said, Held, Begun, held_at, IsPublished}
use Rattle.als_ckpt.specs.Control.{Controlled, said_of, IsPosition, IsSeal, IsControlled}
use Rattle.als_ckpt.specs.Control.{IsControlState}
use Rattle.als_ckpt.specs.Holding.{HoldsControl, HoldsOneOf, LeavesOneOf}
use Rattle.als_tables.specs.declared.commit_count.CommitCount.{CommitCount}
use Rattle.als_tables.specs.Fronts.{IsOfFront}
use Rattle.als_frames.specs.Frames.{slot_of}
use Rattle.als_pool.specs.Pooled.{Pooled}
use Rattle.als_pool.specs.Images.{IsPoolOf}
use Rattle.als_pool.specs.Restart.{IsRowBelow, CoversPages, HoldsImagesFrom}
use Rattle.als_reopen.specs.Node.{HoldsLog, position_of, rows_of}
use Rattle.als_reopen.specs.Taken.{AreDecided, IsTaken, IsTakenFrom, WasTakenFrom}
use Rattle.als_store.specs.Origin.{Origin, origin_of}
use Rattle.als_store.specs.Checkpoints.{IsCovering, AreCovering}
use Rattle.als_store.specs.Warm.{IsWarm}
use Rattle.als_store.specs.Parts.{IsStored, stored_of}
use Rattle.als_store.specs.Leaving.{HoldsLeft, IsCrashOf}
use Rattle.als_store.proofs.Splits.{fronts_of}
use Rattle.als_store.proofs.TakeoverLaws.{phases_at, decided-front}

-- ---- the log

length-text : (pages : ℕ) (log : List Record) → length (log_text pages log) ≡ end_of log
length-text pages log =
    omega (
      arith,
      length-append (header_bytes pages) (spellings log),
      length-header_bytes pages,
      end_of_is log,
    )

same_text : (pages : ℕ) (front rest : List Record) (o : ℕ) → o < end_of front
    → slice_index (log_text pages (front ++ rest)) o ≡ slice_index (log_text pages front) o
same_text pages front rest o lt =
    ap (λ (xs : List ℕ). slice_index xs o)
    (ap (λ (xs : List ℕ). header_bytes pages ++ xs) (spellings-append front rest)
    ∙ sym (append_assoc (header_bytes pages) (spellings front) (spellings rest)))
    ∙ get_or_append_left (log_text pages front) (spellings rest) 0 o
    (omega (arith, lt, length-text pages front))

left_text : (pages synced : ℕ) (log front rest : List Record) (slots left : ℕ → Slot)
    → log ≡ front ++ rest → end_of front ≤ synced → IsCrashOf slots left
    → AllHaveText (λ b. (slots b).candidates) (log_text pages log) synced
    → AllHaveText (λ b. (left b).candidates) (log_text pages front) (end_of front)
left_text pages synced log front rest slots left parts le crash text b x has o lt below =
    let k = crash b in
    let same : k.content ≡ x =
    Contains-one (subst (λ (s : Slot). Contains s.candidates x) k.left has) in
    let was : Contains (slots b).candidates x =
    subst (λ (y : List ℕ). Contains (slots b).candidates y) same k.was_candidate in
    text b x was o lt (omega (arith, below, le))
    ∙ ap (λ (xs : List Record). slice_index (log_text pages xs) (512 * b + o)) parts
    ∙ same_text pages front rest (512 * b + o) below

-- ---- what a control state says of the front

left_taken : (p : Phase) (log front rest : List Record) (mark seal : ℕ) → log ≡ front ++ rest
    → end_of front ≡ mark → IsSeal p mark seal → IsTaken p log mark seal → IsTaken p front mark seal
left_taken Following log front rest mark seal parts ends in_front is = tt
left_taken Sealed log front rest mark seal parts ends in_front is =
    let low : seal ≤ mark = in_front.1 in
    let f = fronts_of log is.sealed is.undone front rest is.parts parts
    (omega (arith, is.ends, ends, low)) in
    record {
      sealed = is.sealed;
      undone = f.more;
      rest = rest ++ is.rest;
      parts = f.longer;
      ends = is.ends;
      tail = sym (append_assoc f.more rest is.rest) ∙ ap (λ (xs : List Record). xs ++ is.rest)
          (sym f.left) ∙ is.tail;
    }
left_taken Primary log front rest mark seal parts ends in_front is =
    let f = fronts_of log (is.sealed ++ tail_of is.sealed) is.more front rest is.parts parts
    (omega (arith, is.whole, ends)) in
    record {
      sealed = is.sealed;
      more = f.more;
      parts = f.longer;
      ends = is.ends;
      whole = is.whole;
      decided = decided-front (is.sealed ++ tail_of is.sealed) f.more rest
          (subst (λ (xs : List Record). AreDecided (is.sealed ++ tail_of is.sealed) xs) f.left
          is.decided);
    }

-- what a state that a crash leaves says of the front up to its mark
left_from : (log front rest : List Record) (c : ControlState) → log ≡ front ++ rest
    → end_of front ≡ c.mark.0 → IsSeal c.phase c.mark.0 c.seal.0 → c.mark.0 ≤ end_of log
    → WasTakenFrom log c → IsTakenFrom front c
left_from log front rest c parts ends in_front low w =
    let f = fronts_of log front rest w.front w.since parts w.parts
    (elim w.reaches [
      | inl none ↦ omega (
        arith,
        ends,
        low,
        ap end_of
            (w.parts ∙ ap (λ (xs : List Record). w.front ++ xs) none ∙ append-nil w.front),
      )
      | inr at ↦ omega (arith, ends, at)
    ]) in
    left_taken c.phase w.front front f.more c.mark.0 c.seal.0 f.longer ends in_front w.taken

-- ---- the checkpoint

held_covers : (log : List Record) (pool : Pooled) (held : Held) (begun : Option Begun)
    (p : Option Region) → AreCovering log pool held begun
    → IfSome (held_at held p) (IsCovering log pool)
held_covers log pool held begun None h = tt
held_covers log pool held begun (Some First) h = h.first
held_covers log pool held begun (Some Second) h = h.second

-- its position is not above the mark
low_position : (pages mark position : ℕ) (p : Option Region) (o : Option Checkpoint)
    → IsPublished pages p position o → IsPosition p mark position → 16 ≤ mark
    → (position_of o).0 ≤ mark
low_position pages mark position None o is at least =
    subst (λ (x : Option Checkpoint). (position_of x).0 ≤ mark) (sym is) least
low_position pages mark position (Some region) None is at least = absurd is
low_position pages mark position (Some region) (Some c) is at least =
    let low : position ≤ mark = at.1 in omega (arith, low, is.at)

left_front : (log front rest : List Record) (pool : Pooled) (mark : ℕ) (o : Option Checkpoint)
    → log ≡ front ++ rest → end_of front ≡ mark → (position_of o).0 ≤ mark
    → IfSome o (IsCovering log pool) → IfSome o (IsOfFront front)
left_front log front rest pool mark None parts ends low is = tt
left_front log front rest pool mark (Some c) parts ends low is =
    let of = is.of_front in
    let f = fronts_of log of.front of.rest front rest of.parts parts
    (omega (arith, low, ends, ap (λ (n : Numbers). n.position.0) of.holds.numbers)) in
    record { front = of.front; rest = f.more; parts = f.longer; holds = of.holds }

listed_in : (log : List Record) (pool : Pooled) (o : Option Checkpoint)
    → IfSome o (IsCovering log pool) → AllByRecursion (IsRowBelow (position_of o)) (rows_of o)
listed_in log pool None is = tt
listed_in log pool (Some c) is = is.listed

covers_in : (log : List Record) (pool : Pooled) (o : Option Checkpoint)
    → CoversPages log (record { 0 = 16 }) [] pool → IfSome o (IsCovering log pool)
    → CoversPages log (position_of o) (rows_of o) pool
covers_in log pool None none is = none
covers_in log pool (Some c) none is = is.covers

module _ (pages : ℕ) (held : CommitCount) (l : Local) (c : Controlled) (pool : Pooled)
    (validator : Validator) (broken : Bool) (origin : Origin) (recovering : Bool)
    (h : IsStored pages l held c pool validator broken origin recovering)
    (controlled : IsControlled c) (was : IsWarm true origin)
    (stopped : (log front rest : List Record) (below more : ℕ) (position : Lsn)
    (rows : List LoggedPage) (v : Pooled) (left : ℕ → Slot) → IsPoolOf log below v
    → log ≡ front ++ rest → below ≤ more → more ≤ end_of front
    → position.0 ≤ end_of front → AllByRecursion (IsRowBelow position) rows
    → CoversPages log position rows v
    → ((page : ℕ) → page < length v.waits → KeepsCandidate (slot_of v.frames page) (left page))
    → HoldsImagesFrom front more v.frames.pages position rows left)
    (none : (log : List Record) (below : ℕ) (position : Lsn) (v : Pooled) → IsPoolOf log below v
    → position.0 ≤ 16 → CoversPages log position [] v)
    (log_slots control_slots page_slots left_log left_control left_pages : ℕ
    → Slot) (text : AllHaveText (λ b. (log_slots b).candidates) (log_text l.pages l.log)
    l.synced) (leaves : LeavesOneOf c control_slots)
    (places : (page : ℕ) → page < length pool.waits
    → page_slots page ≡ slot_of pool.frames page) (log_left : IsCrashOf log_slots left_log)
    (control_left : IsCrashOf control_slots left_control)
    (pages_left : IsCrashOf page_slots left_pages) where
  w : IsWarm recovering (origin_of l c pool)
  w = h.warm was

  one : HoldsOneOf c left_control
  one = leaves left_control control_left

  front : IsFrontEnd l.log one.state.mark.0
  front = h.marks.fronts one.state one.among

  said : Said
  said = said_of c one.state

  fits : IsControlState c.log_bytes one.state
  fits = controlled.fits one.state one.among

  control : HoldsControl pages (512 * l.blocks) left_control said
  unfolding said one
  control = subst (λ (n : ℕ). HoldsControl pages n left_control said) h.marks.bytes
      (subst (λ (n : ℕ). HoldsControl n c.log_bytes left_control said) (h.marks.pages ∙ h.log_pages)
      one.holds)

  covering : IfSome said.checkpoint (IsCovering l.log pool)
  unfolding said one
  covering = held_covers l.log pool c.held c.begun one.state.published w.told

  low : (position_of said.checkpoint).0 ≤ one.state.mark.0
  unfolding said one
  low = low_position pages one.state.mark.0 one.state.position.0 one.state.published said.checkpoint
      control.published fits.position fits.begins

  below_synced : end_of front.front ≤ l.synced
  below_synced = omega (
    arith,
    front.ends,
    controlled.to_newest one.state one.among,
    h.marks.newest_synced,
  )

  images : HoldsImagesFrom front.front one.state.mark.0 pages (position_of said.checkpoint)
      (rows_of said.checkpoint) left_pages
  images = subst (λ (n : ℕ). HoldsImagesFrom front.front one.state.mark.0 n
      (position_of said.checkpoint) (rows_of said.checkpoint) left_pages)
      (h.paged.ends.paged ∙ h.paged.count)
      (stopped l.log front.front front.rest c.synced.mark.0 one.state.mark.0
      (position_of said.checkpoint) (rows_of said.checkpoint) pool left_pages w.is_pool
      front.parts
      (controlled.from_synced one.state one.among) (omega (arith, front.ends))
      (omega (arith, low, front.ends)) (listed_in l.log pool said.checkpoint covering)
      (covers_in l.log pool said.checkpoint
      (none l.log c.synced.mark.0 (record { 0 = 16 }) pool w.is_pool (omega arith)) covering)
      (λ page lt. subst (λ (s : Slot). KeepsCandidate s (left_pages page)) (places page lt)
      (pages_left page)))

  holds_log : HoldsLog pages l.blocks left_log left_control
      (record { blocks = l.blocks; said = said; log = front.front })
  unfolding said one
  holds_log = record {
    count = refl;
    control = control;
    text = left_text pages l.synced l.log front.front front.rest log_slots left_log front.parts
        below_synced log_left
        (subst (λ (p : ℕ). AllHaveText (λ b. (log_slots b).candidates) (log_text p l.log) l.synced)
        h.log_pages text);
    ends = front.ends;
    valid = IsValidLog-front pages front.front front.rest
        (subst (IsValidLog pages) front.parts h.is_log);
    fits = h.fit front.front front.rest front.parts
        (omega (arith, front.ends, controlled.from_synced one.state one.among));
    front = left_front l.log front.front front.rest pool one.state.mark.0 said.checkpoint
        front.parts front.ends low covering;
  }

  pub left_node : HoldsLeft (stored_of pages l c pool broken origin recovering) left_log
      left_control left_pages
  unfolding said one
  left_node = record {
    node = record { blocks = l.blocks; said = said; log = front.front };
    holds = record {
      held = holds_log;
      taken = left_from l.log front.front front.rest one.state front.parts front.ends fits.seal
          (w.taken.below one.state one.among) (w.taken.each one.state one.among);
      images = images;
    };
    may = record {
      blocks = refl;
      state = one.among;
      checkpoint = refl;
      rest = front.rest;
      front =
          front.parts;
      above = controlled.from_synced one.state one.among;
      goes_on =
          phases_at c.synced c.since one.state w.taken.phases one.among;
    };
  }
