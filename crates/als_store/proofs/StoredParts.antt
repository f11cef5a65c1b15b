-- The parts of a store, after each event.
use Rattle.std.proofs.Common.{◌≡◌, ℕ, suc, ◌+◌, ◌<◌, ◌≤◌, ◌⊎◌, List, [], ◌∷◌, ◌++◌, length, Option}
use Rattle.std.proofs.Common.{Some, None, refl, sym, ap, subst, ◌∙◌, inl, inr, arith, length-append}
use Rattle.std.proofs.Common.{append_assoc}
use Rattle.std.specs.Prelude.{Bool, ◌^◌, ◌*◌, true, false, IfSome, Contains, IsTrue}
use Rattle.std.proofs.lemmas.Bool.{cases_lt, le-leb, lt-leb}
use Rattle.std.specs.List.{sum_by}
use Rattle.als_disk.specs.SlotLaws.{Contains-one}
use Rattle.std.proofs.lemmas.List.Sums.{sum_by-cons}
use Rattle.std.proofs.lemmas.List.Elements.{Contains-push_cases}
use Rattle.als_record.specs.declared.lsn.Lsn.{Lsn}
use Rattle.als_record.specs.declared.change.Change.{Change}
use Rattle.als_record.specs.declared.record.Record.{Record}
use Rattle.als_record.specs.Spelling.{record_len, IsRecord}
use Rattle.als_record.specs.LogText.{end_of, follow_from, IsLog}
use Rattle.std.specs.List.{AllByRecursion}
use Rattle.std.proofs.lemmas.Bool.{and_from}
use Rattle.std.proofs.lemmas.List.{length-replicate}
use Rattle.als_record.specs.Validity.{first_bad, may_follow, may_follow_all, is_valid, IsValidLog}
use Rattle.als_record.proofs.Validity.{first_bad-none, may_follow-admitted, is_valid-push}
use Rattle.als_record.specs.Pages.{change_of}
use Rattle.als_record.proofs.RecordLaws.{record_len-high}
use Rattle.als_record.proofs.PageLaws.{end_of-push, follow_from-push, record_len-least}
use Rattle.als_validator.specs.declared.validator.Validator.{Validator}
use Rattle.als_validator.specs.Validated.{IsValidatorOf, HasRoom, judges}
use Rattle.als_log.specs.Local.{Local, IsLocal, IsFrontEnd, whole_end, whole_from}
use Rattle.als_ckpt.specs.declared.control_state.ControlState.{ControlState}
use Rattle.als_ckpt.specs.Control.{Controlled, newest, last_state, with_state, settled, first_state}
use Rattle.als_ckpt.specs.Control.{new_control}
use Rattle.als_epochs.specs.HistoryLaws.{GoesOn-refl}
use Rattle.als_frames.specs.Frames.{Paged}
use Rattle.als_pool.specs.Queues.{total_waiting}
use Rattle.als_pool.specs.Pooled.{Pooled, Room, Grows, new_pool}
use Rattle.als_tables.specs.Counting.{IsCountOf}
use Rattle.als_store.proofs.CheckpointLaws.{told_push, told_grows, told_synced, told_new}
use Rattle.als_pool.specs.Outcomes.{HasPlace, CanRoute, SyncsPages, Flushes}
use Rattle.als_pool.specs.Bounds.{EndsBelow}
use Rattle.als_pool.specs.Images.{IsPoolOf}
use Rattle.als_pool.proofs.QueueLists.{total-empty}
use Rattle.als_record.specs.Tail.{reserve_of}
use Rattle.als_record.proofs.Reserve.{reserve_of-nil}
use Rattle.als_store.specs.Stored.{Stored, formatted, new_origin, routed, with_records, IsTooLong}
use Rattle.als_store.specs.Stored.{FrontsFit}
use Rattle.als_store.specs.Origin.{Origin, origin_of}
use Rattle.als_store.specs.Takeover.{GoesOn, PhasesRise, AreTaken, follows}
use Rattle.als_store.specs.Warm.{IsWarm}
use Rattle.als_store.specs.Parts.{IsStored, IsHeldPool, AreMarks, stored_of, spare_of}
use Rattle.als_store.specs.Spare.{HasSpare}
use Rattle.als_store.proofs.PoolSteps.{IsCalm, routed_count}
use Rattle.als_store.proofs.TakeoverLaws.{phases_push, taken_calm, taken_settled, taken_marked}
use Rattle.als_store.proofs.TakeoverLaws.{taken_new, taken_ready}
use Rattle.als_tables.specs.declared.commit_count.CommitCount.{CommitCount}

-- ---- the log

all-push : {X : Type 0} (P : X → Type 0) (xs : List X) (x : X) → AllByRecursion P xs → P x
    → AllByRecursion P (xs ++ x ∷ [])
all-push P [] x h p = (p, tt)
all-push P (y ∷ ys) x h p = (h.0, all-push P ys x h.1 p)

-- a record that fits and stands at the end makes a log again
IsLog-push : (pages : ℕ) (log : List Record) (r : Record) → IsLog pages log → IsRecord pages r
    → r.lsn.0 ≡ end_of log → IsLog pages (log ++ r ∷ [])
IsLog-push pages log r h fits at =
    record {
      laid_out = follow_from-push log r h.laid_out at;
      records =
          all-push (IsRecord pages) log r h.records fits;
    }

-- and, where it is not refused, a valid log
pub valid_push : (pages : ℕ) (log : List Record) (r : Record) → IsValidLog pages log
    → IsRecord pages r → r.lsn.0 ≡ end_of log → first_bad log r ≡ None
    → IsValidLog pages (log ++ r ∷ [])
valid_push pages log r h fits at good = record {
  text = IsLog-push pages log r h.text fits at;
  valid = is_valid-push log r ∙ and_from (is_valid log) (may_follow log r) h.valid
      (may_follow-admitted log r (first_bad-none log r at good));
}

log-nil : (pages : ℕ) → IsLog pages []
unfolding follow_from
log-nil pages = record { laid_out = refl; records = tt }

valid-nil : (pages : ℕ) → IsValidLog pages []
unfolding is_valid may_follow_all
valid-nil pages = record { text = log-nil pages; valid = refl }

end-nil : end_of [] ≡ 16
unfolding end_of
end-nil = refl

one_more : (others before now : ℕ) → now ≡ before + 1 → others + now ≡ others + before + 1
one_more others before now e = omega (arith, e)

-- how many records a log can have
pub length-below_end : (log : List Record) → length log ≤ end_of log
unfolding end_of
length-below_end [] = omega arith
length-below_end (r ∷ rest) =
    omega (arith, sum_by-cons record_len r rest, record_len-least r, length-below_end rest)

-- an end of records in front stays one as the log grows
pub front-push : (log : List Record) (r : Record) (at : ℕ) → IsFrontEnd log at
    → IsFrontEnd (log ++ r ∷ []) at
front-push log r at f =
    record {
      front = f.front;
      rest = f.rest ++ r ∷ [];
      parts =
          ap (λ (xs : List Record). xs ++ r ∷ []) f.parts ∙ append_assoc f.front f.rest (r ∷ []);
      ends = f.ends;
    }

-- a front of a log with one more record: all of it, or a front of the log before
front_of_push : (front rest log : List Record) (r : Record) → log ++ r ∷ [] ≡ front ++ rest
    → (front ≡ log ++ r ∷ []) ⊎ ((rest' : List Record) × (log ≡ front ++ rest'))
front_of_push [] rest log r e = inr (log, refl)
front_of_push (x ∷ []) rest [] r e =
    let same : r ≡ x = cc in inl (ap (λ (y : Record). y ∷ []) (sym same))
front_of_push (x ∷ y ∷ front) rest [] r e = absurd cc
front_of_push (x ∷ front) rest (y ∷ log) r e =
    let first : y ≡ x = cc in
    let others : log ++ r ∷ [] ≡ front ++ rest = cc in
    elim (front_of_push front rest log r others) [
      | inl all ↦ inl (ap (λ (z : Record). z ∷ front) (sym first)
          ∙ ap (λ (zs : List Record). y ∷ zs) all)
      | inr part ↦ inr (
        part.0,
        ap (λ (z : Record). z ∷ log) first
            ∙ ap (λ (zs : List Record). x ∷ zs) part.1,
      )
    ]

-- a record with room for it and for the tail behind it
fit-push : (blocks from : ℕ) (log : List Record) (r : Record) → FrontsFit blocks from log
    → end_of log + record_len r + reserve_of (log ++ r ∷ []) ≤ 512 * blocks
    → FrontsFit blocks from (log ++ r ∷ [])
fit-push blocks from log r fit left front rest parts low =
    elim (front_of_push front rest log r parts) [
      | inl all ↦ subst (λ (xs : List Record). end_of xs + reserve_of xs ≤ 512 * blocks) (sym all)
          (omega (arith, end_of-push log r, left))
      | inr part ↦ fit front part.0 part.1 low
    ]

-- as what is acknowledged rises, fewer fronts count
fit-raised : (blocks from higher : ℕ) (log : List Record) → from ≤ higher
    → FrontsFit blocks from log → FrontsFit blocks higher log
fit-raised blocks from higher log rises fit front rest parts low =
    fit front rest parts (omega (arith, rises, low))

fit-nil : (blocks from : ℕ) → 1 ≤ blocks → FrontsFit blocks from []
fit-nil blocks from some [] rest parts low = omega (arith, some, end-nil, reserve_of-nil)
fit-nil blocks from some (r ∷ front) rest parts low = absurd cc

-- ---- control states

pub last_state-push : (s : ControlState) (since : List ControlState) (t : ControlState)
    → last_state s (since ++ t ∷ []) ≡ t
last_state-push s [] t = refl
last_state-push s (u ∷ rest) t = last_state-push u rest t

contains-later : {X : Type 0} (x y : X) (xs : List X) → Contains xs y → Contains (x ∷ xs) y
contains-later x y xs has = (suc has.0, omega (arith, has.1), has.2)

pub last_state-among : (s : ControlState) (since : List ControlState)
    → Contains (s ∷ since) (last_state s since)
last_state-among s [] = (0, omega arith, refl)
last_state-among s (u ∷ rest) =
    contains-later s (last_state u rest) (u ∷ rest) (last_state-among u rest)

-- ---- how far a log is wholly written

-- the first of some records is wholly written
whole_from-in : (limit at : ℕ) (r : Record) (rest : List Record) → at + record_len r ≤ limit
    → whole_from limit at (r ∷ rest) ≡ whole_from limit (at + record_len r) rest
unfolding whole_from
whole_from-in limit at r rest le = rw (le-leb (at + record_len r) limit le) refl

whole_from-out : (limit at : ℕ) (r : Record) (rest : List Record) → limit < at + record_len r
    → whole_from limit at (r ∷ rest) ≡ at
unfolding whole_from
whole_from-out limit at r rest lt = rw (lt-leb (at + record_len r) limit lt) refl

whole_from-nil : (limit at : ℕ) → whole_from limit at [] ≡ at
unfolding whole_from
whole_from-nil limit at = refl

-- what is wholly written does not end before the records begin
whole_from-high : (limit at : ℕ) (log : List Record) → at ≤ whole_from limit at log
whole_from-high limit at [] = omega (arith, whole_from-nil limit at)
whole_from-high limit at (r ∷ rest) = elim (cases_lt limit (at + record_len r)) [
  | inl lt ↦ omega (arith, whole_from-out limit at r rest lt)
  | inr le ↦ omega (
    arith,
    whole_from-in limit at r rest le,
    whole_from-high limit
        (at + record_len r) rest,
  )
]

-- nor before an end of records in front that is written
whole_from-covers : (limit at : ℕ) (front rest : List Record) → at + sum_by record_len front ≤ limit
    → at + sum_by record_len front ≤ whole_from limit at (front ++ rest)
whole_from-covers limit at [] rest le =
    let none : sum_by record_len [] ≡ 0 = refl in omega (arith, whole_from-high limit at rest, none)
whole_from-covers limit at (r ∷ front) rest le =
    let sum = sum_by-cons record_len r front in
    let first : at + record_len r ≤ limit = omega (arith, le, sum) in
    omega (
      arith,
      sum,
      whole_from-in limit at r (front ++ rest) first,
      whole_from-covers limit
          (at + record_len r) front rest (omega (arith, le, sum)),
    )

end_is_sum : (log : List Record) → end_of log ≡ 16 + sum_by record_len log
unfolding end_of
end_is_sum log = refl

-- so the synced end never falls
pub whole_end-covers : (log : List Record) (at written : ℕ) → IsFrontEnd log at → at ≤ written
    → at ≤ whole_end log written
whole_end-covers log at written f le =
    let sum = end_is_sum f.front in
    let covers = whole_from-covers written 16 f.front f.rest (omega (arith, sum, f.ends, le)) in
    subst (λ (xs : List Record). at ≤ whole_end xs written) (sym f.parts)
    (omega (arith, covers, sum, f.ends))

-- ---- room for a record

-- where room was made in all parts, a record can be taken with no memory
pub spare_made : (l : Local) (validator : Validator) (room : Room) (r : Record) (len : ℕ)
    → len ≡ record_len r → len ≤ l.room → HasRoom validator
    → IfSome (change_of r) (λ c. HasPlace room c.key.page) → HasSpare (spare_of l validator room) r
spare_made l validator room r len is bytes judged places = record {
  bytes = omega (arith, is, bytes);
  judge = judged;
  place = places;
}

-- ---- the store after each event

-- for a log of which so much survives each crash: the pool stays that of the log, and no image last
-- synced is older
pub record Keeps (log : List Record) (acknowledged : ℕ) (old new : Pooled) : Type 0 where
  pub is_pool : IsPoolOf log acknowledged new
  pub grows : Grows old new

-- the pool's part, as the pool changes in a call that writes nothing and syncs nothing
pub pool-calm : (pages : ℕ) (log : List Record) (old new : Pooled) (broken : Bool)
    → IsHeldPool pages log old broken → IsCalm old new → EndsBelow (end_of log) new
    → IsHeldPool pages log new broken
pool-calm pages log old new broken h calm is = record {
  count = calm.count ∙ h.count;
  ends = is;
  few = omega (arith, calm.few, h.few);
  sure = λ whole. calm.sure ∙ h.sure whole;
}

-- after a sync
pub pool-synced : (pages : ℕ) (log : List Record) (old new : Pooled) (broken : Bool)
    → IsHeldPool pages log old broken → SyncsPages old new → EndsBelow (end_of log) new
    → IsHeldPool pages log new broken
pool-synced pages log old new broken h s is = record {
  count = ap (λ (v : Pooled). length v.waits) s.same ∙ h.count;
  ends = is;
  few = omega (arith, ap (λ (v : Pooled). total_waiting v.waits) s.same, h.few);
  sure = λ whole. ap (λ (v : Paged). v.sure) s.syncs.same ∙ h.sure whole;
}

-- after a write
pub pool-flushed : (pages : ℕ) (log : List Record) (old new : Pooled) (page : ℕ) (mark : Lsn)
    (broken : Bool) → IsHeldPool pages log old broken → Flushes old new page mark
    → EndsBelow (end_of log) new → IsHeldPool pages log new broken
pool-flushed pages log old new page mark broken h f is = record {
  count = ap (λ (v : Pooled). length v.waits) f.stores.same ∙ h.count;
  ends = is;
  few = omega (arith, ap (λ (v : Pooled). total_waiting v.waits) f.stores.same, h.few);
  sure = λ whole. ap (λ (v : Paged). v.sure) f.stores.writes.same ∙ h.sure whole;
}

-- after a write or a sync that has failed
pub pool-broken : (pages : ℕ) (log : List Record) (old new : Pooled) (broken : Bool)
    → IsHeldPool pages log old broken → new ≡ record old { frames = new.frames }
    → EndsBelow (end_of log) new → IsHeldPool pages log new true
pool-broken pages log old new broken h same is = record {
  count = ap (λ (v : Pooled). length v.waits) same ∙ h.count;
  ends = is;
  few = omega (arith, ap (λ (v : Pooled). total_waiting v.waits) same, h.few);
  sure = λ wrong. absurd cc;
}

module _ (pages : ℕ) (held : CommitCount) (l : Local) (c : Controlled) (pool : Pooled)
    (validator : Validator) (broken : Bool) (origin : Origin) (recovering : Bool)
    (h : IsStored pages l held c pool validator broken origin recovering) where
  same_marks : (l' : Local) → l' ≡ record l { room = l'.room } → AreMarks l' c
  same_marks l' e = subst (λ (x : Local). AreMarks x c) (sym e)
      (record {
        pages = h.marks.pages;
        bytes = h.marks.bytes;
        newest_synced =
            h.marks.newest_synced;
        fronts = h.marks.fronts;
      })

  -- another validator of the same log, and another room
  pub stored-again : (l' : Local) (validator' : Validator) → l' ≡ record l { room = l'.room }
      → IsValidatorOf pages validator' l.log → judges validator' ≡ judges validator
      → IsStored pages l' held c pool validator' broken origin recovering
  stored-again l' validator' e judged judging =
      subst (λ (x : Local). IsStored pages x held c pool validator' broken origin recovering)
      (sym e) (record {
        log_pages = h.log_pages;
        is_log = h.is_log;
        fit = h.fit;
        judged = judged;
        judging = judging ∙ h.judging;
        paged = h.paged;
        held_is = h.held_is;
        few_pages = h.few_pages;
        marks = record {
          pages = h.marks.pages;
          bytes = h.marks.bytes;
          newest_synced =
              h.marks.newest_synced;
          fronts = h.marks.fronts;
        };
        rise = h.rise;
        warm = h.warm;
        sure = h.sure;
      })

  -- a read of the log's device has failed
  pub stored-unread : (l' : Local) → l' ≡ record l { failures = l'.failures }
      → IsStored pages l' held c pool validator broken origin recovering
  stored-unread l' e =
      subst (λ (x : Local). IsStored pages x held c pool validator broken origin recovering) (sym e)
      (record {
        log_pages = h.log_pages;
        is_log = h.is_log;
        fit = h.fit;
        judged = h.judged;
        judging = h.judging;
        paged = h.paged;
        held_is = h.held_is;
        few_pages = h.few_pages;
        marks = record {
          pages = h.marks.pages;
          bytes = h.marks.bytes;
          newest_synced =
              h.marks.newest_synced;
          fronts = h.marks.fronts;
        };
        rise = h.rise;
        warm = h.warm;
        sure = h.sure;
      })

  -- other pages, and perhaps a write or a sync that has failed
  pub stored-pool : (pool' : Pooled) (broken' : Bool) → IsHeldPool pages l.log pool' broken'
      → total_waiting pool'.waits ≤ total_waiting pool.waits
      → (IsPoolOf l.log c.synced.mark.0 pool → Keeps l.log c.synced.mark.0 pool pool')
      → (broken' ≡ false → broken ≡ false)
      → IsStored pages l held c pool' validator broken' origin recovering
  stored-pool pool' broken' paged fewer keeps whole = record {
    log_pages = h.log_pages;
    is_log = h.is_log;
    fit = h.fit;
    judged = h.judged;
    judging = h.judging;
    paged = paged;
    held_is = h.held_is;
    few_pages = h.few_pages;
    marks = h.marks;
    rise = h.rise;
    warm = λ was.
        let w : IsWarm recovering (origin_of l c pool) = h.warm was in
        let k : Keeps l.log c.synced.mark.0 pool pool' = keeps w.is_pool in
        record {
          is_pool = k.is_pool;
          taken = taken_calm l.log c.synced c.since recovering (total_waiting pool.waits) w.taken
              (total_waiting pool'.waits) fewer;
          told = told_grows l.log pool pool' c.held c.begun (paged.count ∙ sym h.paged.count)
              k.grows w.told;
        };
    sure = λ e. h.sure (whole e);
  }

  -- nothing waits any more of what a restart found
  pub stored-ready : total_waiting pool.waits ≡ 0
      → IsStored pages l held c pool validator broken origin false
  stored-ready none = record {
    log_pages = h.log_pages;
    is_log = h.is_log;
    fit = h.fit;
    judged = h.judged;
    judging = h.judging;
    paged = h.paged;
    held_is = h.held_is;
    few_pages = h.few_pages;
    marks = h.marks;
    rise = h.rise;
    warm = λ was.
        let w : IsWarm recovering (origin_of l c pool) = h.warm was in
        record {
          is_pool = w.is_pool;
          taken = taken_ready l.log c.synced c.since recovering (total_waiting pool.waits) w.taken
              none;
          told = w.told;
        };
    sure = h.sure;
  }

  -- pages of which nothing was written or synced
  pub stored-calm : (pool' : Pooled) → IsCalm pool pool' → EndsBelow (end_of l.log) pool'
      → (IsPoolOf l.log c.synced.mark.0 pool → Keeps l.log c.synced.mark.0 pool pool')
      → IsStored pages l held c pool' validator broken origin recovering
  stored-calm pool' calm ends keeps =
      stored-pool pool' broken (pool-calm pages l.log pool pool' broken h.paged calm ends) calm.few
      keeps (λ e. e)

  log_more : (r : Record) → IsRecord pages r → r.lsn.0 ≡ end_of l.log
      → IsLog pool.frames.pages (l.log ++ r ∷ [])
  log_more r fits at = subst (λ (n : ℕ). IsLog n (l.log ++ r ∷ []))
      (sym (h.paged.ends.paged ∙ h.paged.count)) (IsLog-push pages l.log r h.is_log.text fits at)

  -- a record's change can go behind those that its page waits for
  pub can_route_change : (r : Record) (change : Option Change) → change_of r ≡ change
      → IsRecord pages r → r.lsn.0 ≡ end_of l.log → end_of l.log ≤ 2 ^ 31
      → ((log : List Record) (v : Pooled) (x : Record) (d : Change) → EndsBelow (end_of log) v
      → IsLog v.frames.pages (log ++ x ∷ []) → x.lsn.0 ≡ end_of log → change_of x ≡ Some d
      → total_waiting v.waits + 1 < 2 ^ 64 → CanRoute v d)
      → IfSome change (CanRoute pool)
  can_route_change r None e fits at short law = tt
  can_route_change r (Some d) e fits at short law =
      law l.log pool r d h.paged.ends (log_more r fits at) at e
      (omega (arith, h.paged.few, length-below_end l.log, short))

  -- a record more
  pub stored-push : (l' : Local) (r : Record) (pool' : Pooled) (validator' : Validator)
      (held' : CommitCount) → IsCountOf held' (l.log ++ r ∷ []) → IsRecord pages r
      → r.lsn.0 ≡ end_of l.log → first_bad l.log r ≡ None
      → end_of l.log + record_len r + reserve_of (l.log ++ r ∷ []) ≤ 512 * l.blocks
      → l' ≡ record l { log = l.log ++ r ∷ []; room = l'.room }
      → IsValidatorOf pages validator' (l.log ++ r ∷ []) → judges validator' ≡ judges validator
      → IfSome (change_of r) (CanRoute pool) → pool' ≡ routed pool (change_of r)
      → ((log : List Record) (below : ℕ) → IsPoolOf log below pool
      → IsLog pool.frames.pages (log ++ r ∷ []) → r.lsn.0 ≡ end_of log
      → IsPoolOf (log ++ r ∷ []) below pool')
      → EndsBelow (end_of (l.log ++ r ∷ [])) pool'
      → (AreTaken l.log c.synced c.since recovering (total_waiting pool.waits)
      → AreTaken (l.log ++ r ∷ []) c.synced c.since recovering (total_waiting pool'.waits))
      → IsStored pages l' held' c pool' validator' broken origin recovering
  stored-push l' r pool' validator' held' counted fits at good left e judged judging can same keeps
      ends taken =
      let k = routed_count pool (change_of r) can in
      subst (λ (x : Local). IsStored pages x held' c pool' validator' broken origin recovering)
      (sym e) (record {
        log_pages = h.log_pages;
        is_log = valid_push pages l.log r h.is_log fits at good;
        fit = fit-push l.blocks c.synced.mark.0 l.log r h.fit left;
        judged = judged;
        judging = judging ∙ h.judging;
        paged = record {
          count = ap (λ (v : Pooled). length v.waits) same ∙ k.0 ∙ h.paged.count;
          ends = ends;
          few = omega (
            arith,
            ap (λ (v : Pooled). total_waiting v.waits) same,
            k.1,
            h.paged.few,
            length-append l.log (r ∷ []),
          );
          sure = λ whole. ap (λ (v : Pooled). v.frames.sure) same ∙ ap (λ (v : Paged). v.sure) k.2
              ∙ h.paged.sure whole;
        };
        held_is = counted;
        few_pages = h.few_pages;
        marks = record {
          pages = h.marks.pages;
          bytes = h.marks.bytes;
          newest_synced =
              h.marks.newest_synced;
          fronts = λ s among. front-push l.log r s.mark.0
              (h.marks.fronts s among);
        };
        rise = h.rise;
        warm = λ was.
            let w : IsWarm recovering (origin_of l c pool) = h.warm was in
            record {
              is_pool = keeps l.log c.synced.mark.0 w.is_pool (log_more r fits at) at;
              taken = taken w.taken;
              told = told_push l.log r pool pool' c.held c.begun at
                  (ap (λ (v : Pooled). length v.waits) same ∙ k.0)
                  (ap (λ (v : Pooled). v.frames) same ∙ k.2) w.told;
            };
        sure = h.sure;
      })

  pub view-push : (l' : Local) (r : Record) (pool' : Pooled)
      → l' ≡ record l { log = l.log ++ r ∷ []; room = l'.room }
      → IfSome (change_of r) (CanRoute pool) → pool' ≡ routed pool (change_of r)
      → stored_of pages l' c pool' broken origin recovering
      ≡ with_records (stored_of pages l c pool broken origin recovering) (r ∷ [])
  view-push l' r pool' e can same =
      let k = routed_count pool (change_of r) can in
      ap (λ (x : Local). stored_of pages x c pool' broken origin recovering) e
      ∙ ap (λ (v : Pooled). record (stored_of pages l c pool broken origin recovering) {
        log = l.log ++ r ∷ [];
        pool = v;
        failures =
            l.failures + c.failures + v.frames.failures;
        attempts =
            l.attempts + c.attempts + v.frames.attempts;
      }) same
      ∙ ap (λ (f : Paged). record (stored_of pages l c pool broken origin recovering) {
        log = l.log ++ r ∷ [];
        pool = routed pool (change_of r);
        failures =
            l.failures + c.failures + f.failures;
        attempts =
            l.attempts + c.attempts + f.attempts;
      }) k.2

  -- pages of which nothing was written or synced
  pub view-calm : (pool' : Pooled) → IsCalm pool pool'
      → stored_of pages l c pool' broken origin recovering
      ≡ record (stored_of pages l c pool broken origin recovering)
      { pool = pool'; failures = l.failures + c.failures + pool'.frames.failures }
  view-calm pool' calm =
      ap (λ (n : ℕ). record (stored_of pages l c pool broken origin recovering) {
        pool = pool';
        failures = l.failures + c.failures + pool'.frames.failures;
        attempts =
            l.attempts + c.attempts + n;
      }) calm.attempts

  pub view-steady : (pool' : Pooled) → IsCalm pool pool'
      → pool'.frames.failures ≡ pool.frames.failures
      → stored_of pages l c pool' broken origin recovering
      ≡ record (stored_of pages l c pool broken origin recovering) { pool = pool' }
  view-steady pool' calm same =
      view-calm pool' calm ∙ ap
      (λ (n : ℕ). record (stored_of pages l c pool broken origin recovering)
      { pool = pool'; failures = l.failures + c.failures + n }) same

  -- one write or one sync of the pages' device
  pub view-called : (pool' : Pooled) → pool'.frames.failures ≡ pool.frames.failures
      → pool'.frames.attempts ≡ pool.frames.attempts + 1
      → stored_of pages l c pool' broken origin recovering
      ≡ record (stored_of pages l c pool broken origin recovering)
      { pool = pool'; attempts = l.attempts + c.attempts + pool.frames.attempts + 1 }
  view-called pool' same more =
      ap (λ (n : ℕ). record (stored_of pages l c pool broken origin recovering) {
        pool = pool';
        failures = l.failures + c.failures + n;
        attempts =
            l.attempts + c.attempts + pool'.frames.attempts;
      }) same
      ∙ ap (λ (n : ℕ). record (stored_of pages l c pool broken origin recovering)
      { pool = pool'; attempts = n })
      (one_more (l.attempts + c.attempts) pool.frames.attempts pool'.frames.attempts more)

  -- that failed
  pub view-broken : (pool' : Pooled) → pool'.frames.attempts ≡ pool.frames.attempts + 1
      → stored_of pages l c pool' true origin recovering
      ≡ record (stored_of pages l c pool broken origin recovering) {
        pool = pool';
        broken = true;
        failures =
            l.failures + c.failures + pool'.frames.failures;
        attempts =
            l.attempts + c.attempts + pool.frames.attempts + 1;
      }
  view-broken pool' more =
      ap (λ (n : ℕ). record (stored_of pages l c pool true origin recovering) {
        pool = pool';
        failures = l.failures + c.failures + pool'.frames.failures;
        attempts =
            n;
      }) (one_more (l.attempts + c.attempts) pool.frames.attempts pool'.frames.attempts
      more)

  -- a log synced
  pub stored-synced : (l' : Local) → IsLocal l
      → l' ≡ record l {
        synced = whole_end l.log l.written;
        attempts = l.attempts + 1;
        room =
            l'.room;
      } → IsStored pages l' held c pool validator broken origin recovering
  stored-synced l' facts e =
      subst (λ (x : Local). IsStored pages x held c pool validator broken origin recovering) (sym e)
      (record {
        log_pages = h.log_pages;
        is_log = h.is_log;
        fit = h.fit;
        judged = h.judged;
        judging = h.judging;
        paged = h.paged;
        held_is = h.held_is;
        few_pages = h.few_pages;
        marks = record {
          pages = h.marks.pages;
          bytes = h.marks.bytes;
          newest_synced = omega (
            arith,
            h.marks.newest_synced,
            whole_end-covers l.log l.synced l.written
                facts.synced_front facts.synced,
          );
          fronts = h.marks.fronts;
        };
        rise = h.rise;
        warm = h.warm;
        sure = h.sure;
      })

  pub with_control : (c' : Controlled) (broken' : Bool) (validator' : Validator)
      → IsValidatorOf pages validator' l.log → judges validator' ≡ follows (newest c').phase
      → c.synced.mark.0 ≤ c'.synced.mark.0
      → AreMarks l c' → (broken' ≡ false → c'.sure ≡ true) → PhasesRise c'.synced c'.since
      → (IsWarm recovering (origin_of l c pool) → IsWarm recovering (origin_of l c' pool))
      → (broken' ≡ false → broken ≡ false)
      → IsStored pages l held c' pool validator' broken' origin recovering
  with_control c' broken' validator' judged judging rises marks sure rise warm whole = record {
    log_pages = h.log_pages;
    is_log = h.is_log;
    fit = fit-raised l.blocks c.synced.mark.0 c'.synced.mark.0 l.log rises h.fit;
    judged = judged;
    judging = judging;
    paged = record {
      count = h.paged.count;
      ends = h.paged.ends;
      few =
          h.paged.few;
      sure = λ e. h.paged.sure (whole e);
    };
    held_is = h.held_is;
    few_pages = h.few_pages;
    marks = marks;
    rise = rise;
    warm = λ was. warm (h.warm was);
    sure = sure;
  }

  -- a mark written
  marks-written : (t : ControlState) → IsLocal l → IsFrontEnd l.log t.mark.0 → t.mark.0 ≤ l.synced
      → AreMarks l (with_state c t)
  marks-written t facts front low = record {
    pages = h.marks.pages;
    bytes = h.marks.bytes;
    newest_synced = omega (
      arith,
      ap (λ (s : ControlState). s.mark.0)
          (last_state-push c.synced c.since t),
      low,
    );
    fronts = λ s among. elim (Contains-push_cases (c.synced ∷ c.since) t s among) [
      | inl old ↦ h.marks.fronts s old
      | inr same ↦ subst (λ (x : ControlState). IsFrontEnd l.log x.mark.0) same front
    ];
  }

  warm_written : (t : ControlState)
      → (AreTaken l.log c.synced c.since recovering (total_waiting pool.waits)
      → AreTaken l.log c.synced (c.since ++ t ∷ []) recovering (total_waiting pool.waits))
      → IsWarm recovering (origin_of l c pool)
      → IsWarm recovering (origin_of l (with_state c t) pool)
  warm_written t taken w = record { is_pool = w.is_pool; taken = taken w.taken; told = w.told }

  written_newest : (t : ControlState) (validator' : Validator) → judges validator' ≡ follows t.phase
      → judges validator' ≡ follows (newest (with_state c t)).phase
  written_newest t validator' judging =
      judging ∙ ap (λ (s : ControlState). follows s.phase) (sym (last_state-push c.synced c.since t))

  -- a state written, which goes on from the newest
  pub stored-written : (c' : Controlled) (t : ControlState) (validator' : Validator)
      → IsValidatorOf pages validator' l.log → judges validator' ≡ follows t.phase
      → IsLocal l → IsFrontEnd l.log t.mark.0
      → t.mark.0 ≤ l.synced → GoesOn (newest c) t
      → (AreTaken l.log c.synced c.since recovering (total_waiting pool.waits)
      → AreTaken l.log c.synced (c.since ++ t ∷ []) recovering (total_waiting pool.waits))
      → c' ≡ with_state c t → IsStored pages l held c' pool validator' broken origin recovering
  stored-written c' t validator' judged judging facts front low on taken e =
      subst (λ (x : Controlled). IsStored pages l held x pool validator' broken origin recovering)
      (sym e) (with_control (with_state c t) broken validator' judged
      (written_newest t validator' judging) (omega arith) (marks-written t facts front low)
      h.sure (phases_push c.synced c.since t h.rise on) (warm_written t taken) (λ e. e))

  pub stored-torn : (c' : Controlled) (t : ControlState) (validator' : Validator)
      → IsValidatorOf pages validator' l.log → judges validator' ≡ follows t.phase
      → IsLocal l → IsFrontEnd l.log t.mark.0
      → t.mark.0 ≤ l.synced → GoesOn (newest c) t
      → (AreTaken l.log c.synced c.since recovering (total_waiting pool.waits)
      → AreTaken l.log c.synced (c.since ++ t ∷ []) recovering (total_waiting pool.waits))
      → c' ≡ record (with_state c t) { sure = false; failures = c'.failures }
      → IsStored pages l held c' pool validator' true origin recovering
  stored-torn c' t validator' judged judging facts front low on taken e =
      let m = marks-written t facts front low in
      subst (λ (x : Controlled). IsStored pages l held x pool validator' true origin recovering)
      (sym e)
      (with_control (record (with_state c t) { sure = false; failures = c'.failures }) true
      validator' judged (written_newest t validator' judging) (omega arith) (record {
        pages = m.pages;
        bytes = m.bytes;
        newest_synced = m.newest_synced;
        fronts =
            m.fronts;
      }) (λ wrong. absurd cc) (phases_push c.synced c.since t h.rise on)
      (λ w. record { is_pool = w.is_pool; taken = taken w.taken; told = w.told })
      (λ wrong. absurd cc))

  -- the newest state with the synced end as its mark
  marked_on : (mark : Lsn) → GoesOn (newest c) (record (newest c) { mark = mark })
  marked_on mark = record { phase = omega arith; seal = λ past. refl; history = GoesOn-refl (newest c).history }

  marked_taken : (mark : Lsn) → IsLocal l → mark.0 ≡ l.synced
      → AreTaken l.log c.synced c.since recovering (total_waiting pool.waits)
      → AreTaken l.log c.synced (c.since ++ record (newest c) { mark = mark } ∷ []) recovering
      (total_waiting pool.waits)
  marked_taken mark facts is taken =
      taken_marked l.log c.synced c.since recovering (total_waiting pool.waits) taken
      (record (newest c) { mark = mark }) refl refl (GoesOn-refl (newest c).history)
      (omega (arith, is, h.marks.newest_synced))
      (omega (arith, is, facts.synced, facts.written))

  synced_front : (mark : Lsn) → IsLocal l → mark.0 ≡ l.synced → IsFrontEnd l.log mark.0
  synced_front mark facts is = subst (λ (m : ℕ). IsFrontEnd l.log m) (sym is) facts.synced_front

  pub stored-marked : (c' : Controlled) (mark : Lsn) → IsLocal l → mark.0 ≡ l.synced
      → c' ≡ with_state c (record (newest c) { mark = mark })
      → IsStored pages l held c' pool validator broken origin recovering
  stored-marked c' mark facts is e =
      stored-written c' (record (newest c) { mark = mark }) validator h.judged h.judging facts
      (synced_front mark facts is)
      (omega (arith, is)) (marked_on mark) (marked_taken mark facts is) e

  pub stored-mark_torn : (c' : Controlled) (mark : Lsn) → IsLocal l → mark.0 ≡ l.synced
      → c' ≡ record (with_state c (record (newest c) { mark = mark }))
      { sure = false; failures = c'.failures }
      → IsStored pages l held c' pool validator true origin recovering
  stored-mark_torn c' mark facts is e =
      stored-torn c' (record (newest c) { mark = mark }) validator h.judged h.judging facts
      (synced_front mark facts is)
      (omega (arith, is)) (marked_on mark) (marked_taken mark facts is) e

  -- the control device synced
  pub stored-settled : (c' : Controlled) → c' ≡ settled c → c.synced.mark.0 ≤ (newest c).mark.0
      → (IsPoolOf l.log c.synced.mark.0 pool → IsPoolOf l.log (newest c).mark.0 pool)
      → IsStored pages l held c' pool validator broken origin recovering
  stored-settled c' e rises is =
      subst (λ (x : Controlled). IsStored pages l held x pool validator broken origin recovering)
      (sym e) (with_control (settled c) broken validator h.judged h.judging rises (record {
        pages = h.marks.pages;
        bytes = h.marks.bytes;
        newest_synced = h.marks.newest_synced;
        fronts = λ s among. subst (λ (x : ControlState). IsFrontEnd l.log x.mark.0) (Contains-one among)
            (h.marks.fronts (newest c) (last_state-among c.synced c.since));
      }) h.sure tt (λ w. record {
        is_pool = is w.is_pool;
        taken =
            taken_settled l.log c.synced c.since recovering (total_waiting pool.waits) w.taken;
        told =
            told_synced l.log pool c.held c.begun w.told;
      }) (λ e. e))

  -- a write or a sync of the log's device or of the control device has failed
  pub stored-broken : (l' : Local) (c' : Controlled)
      → IsStored pages l' held c' pool validator broken origin recovering
      → IsStored pages l' held c' pool validator true origin recovering
  stored-broken l' c' s = record {
    log_pages = s.log_pages;
    is_log = s.is_log;
    fit = s.fit;
    judged = s.judged;
    judging = s.judging;
    paged = record {
      count = s.paged.count;
      ends = s.paged.ends;
      few =
          s.paged.few;
      sure = λ wrong. absurd cc;
    };
    held_is = s.held_is;
    few_pages = s.few_pages;
    marks = s.marks;
    rise = s.rise;
    warm = s.warm;
    sure = λ wrong. absurd cc;
  }

-- nothing is untrue of a store that was just formatted
pub warm-new : (recovering : Bool) (pages first : ℕ) (pool : Pooled) (frames : Paged)
    → pool ≡ new_pool frames pages first → ((below : ℕ) → IsPoolOf [] below pool)
    → IsWarm recovering (new_origin pool)
warm-new recovering pages first pool frames ep is = record {
  is_pool = is 16;
  taken = subst (λ (n : ℕ). AreTaken [] first_state [] recovering n)
      (sym (ap (λ (v : Pooled). total_waiting v.waits) ep ∙ total-empty pages))
      (taken_new recovering);
  told = told_new pool;
}

-- a store just formatted
pub stored-new : (origin : Origin) (recovering : Bool)
    (pages first blocks log_failures log_attempts control_blocks control_failures
    control_attempts : ℕ) (l : Local) (c : Controlled) (pool : Pooled) (frames : Paged)
    (validator : Validator) (held : CommitCount) → IsCountOf held [] → pages ≤ 4096 → 1 ≤ blocks
    → l ≡ record {
      pages = pages;
      log = [];
      written = 16;
      synced = 16;
      blocks = blocks;
      failures =
          log_failures;
      attempts = log_attempts;
      room = l.room;
    }
    → c ≡ new_control pages (512 * blocks) first_state control_blocks control_failures
    control_attempts
    → pool ≡ new_pool frames pages first → frames.sure ≡ true → ((below : ℕ) → IsPoolOf [] below pool)
    → EndsBelow (end_of []) pool → IsValidatorOf pages validator [] → judges validator ≡ true
    → IsStored pages l held c pool validator false origin recovering
stored-new origin recovering pages first blocks log_failures log_attempts control_blocks
    control_failures control_attempts l c pool frames validator held counted le some el ec ep sure is ends judged judging =
    let fresh_log : Local =
    record {
      pages = pages;
      log = [];
      written = 16;
      synced = 16;
      blocks = blocks;
      failures =
          log_failures;
      attempts = log_attempts;
      room = l.room;
    } in
    let fresh_control : Controlled =
    new_control pages (512 * blocks) first_state control_blocks control_failures
    control_attempts in
    subst (λ (x : Local). IsStored pages x held c pool validator false origin recovering) (sym el) (
    subst (λ (y : Controlled). IsStored pages fresh_log held y pool validator false origin
    recovering) (sym ec) (record {
      log_pages = refl;
      is_log = valid-nil pages;
      fit = fit-nil blocks 16 some;
      judged = judged;
      judging = judging;
      paged = record {
        count = ap (λ (v : Pooled). length v.waits) ep ∙ length-replicate {A = List Change} pages
            [];
        ends = ends;
        few = omega (arith, ap (λ (v : Pooled). total_waiting v.waits) ep, total-empty pages);
        sure = λ e. ap (λ (v : Pooled). v.frames.sure) ep ∙ sure;
      };
      held_is = counted;
      few_pages = le;
      marks = record {
        pages = refl;
        bytes = refl;
        newest_synced = omega arith;
        fronts = λ s among. record {
          front = [];
          rest = [];
          parts = refl;
          ends =
              end-nil ∙ ap (λ (x : ControlState). x.mark.0) (Contains-one among);
        };
      };
      rise = tt;
      warm = λ was. warm-new recovering pages first pool frames ep is;
      sure = λ e. refl;
    }))

pub view-new : (pages blocks log_failures log_attempts control_blocks control_failures
    control_attempts : ℕ) (l : Local) (c : Controlled) (pool fresh : Pooled)
    → l ≡ record {
      pages = pages;
      log = [];
      written = 16;
      synced = 16;
      blocks = blocks;
      failures =
          log_failures;
      attempts = log_attempts;
      room = l.room;
    }
    → c ≡ new_control pages (512 * blocks) first_state control_blocks control_failures
    control_attempts
    → pool ≡ fresh → stored_of pages l c pool false (origin_of l c pool) false
    ≡ formatted pages fresh blocks (log_failures + control_failures + fresh.frames.failures)
    (l.attempts + c.attempts + pool.frames.attempts)
view-new pages blocks log_failures log_attempts control_blocks control_failures control_attempts l c
    pool fresh el ec ep =
    ap (λ (x : Local). record (stored_of pages x c pool false (origin_of x c pool) false)
    { attempts = l.attempts + c.attempts + pool.frames.attempts }) el
    ∙ ap (λ (y : Controlled).
    record {
      pages = pages;
      log = [];
      pool = pool;
      blocks = blocks;
      written = 16;
      synced =
          16;
      control = y.synced;
      since = y.since;
      held = y.held;
      begun = y.begun;
      broken =
          false;
      failures = log_failures + y.failures + pool.frames.failures;
      attempts =
          l.attempts + c.attempts + pool.frames.attempts;
      origin =
          record {
            log = [];
            control = y.synced;
            since = y.since;
            held = y.held;
            begun =
                y.begun;
            pool = pool;
          };
      recovering = false;
    }) ec
    ∙ ap (λ (v : Pooled).
    record (formatted pages v blocks (log_failures + control_failures + v.frames.failures)
    (l.attempts + c.attempts + pool.frames.attempts)) { pool = v }) ep

-- a record appended, after room was made for it
pub appended : (l l' l'' : Local) (r : Record) → l' ≡ record l { room = l'.room }
    → l'' ≡ record l' { log = l'.log ++ r ∷ []; room = l''.room }
    → l'' ≡ record l { log = l.log ++ r ∷ []; room = l''.room }
appended l l' l'' r e f =
    f ∙ ap (λ (x : Local). record x { log = x.log ++ r ∷ []; room = l''.room }) e

-- a record with room on the device is not too long
pub not_too_long : (s : Stored) (r : Record) (len after : ℕ) → len ≡ record_len r
    → after ≡ reserve_of (s.log ++ r ∷ []) → end_of s.log + len + after ≤ 512 * s.blocks
    → IsTooLong s r → ⊥
not_too_long s r len after len-is after-is le long = omega (arith, len-is, after-is, le, long)

pub too_long : (s : Stored) (r : Record) (len after : ℕ) → len ≡ record_len r
    → after ≡ reserve_of (s.log ++ r ∷ [])
    → (end_of s.log + len + after ≤ 512 * s.blocks → IsTrue false) → IsTooLong s r
too_long s r len after len-is after-is none =
    elim (cases_lt (512 * s.blocks) (end_of s.log + len + after)) [
      | inl lt ↦ omega (arith, len-is, after-is, lt)
      | inr le ↦ let wrong : false ≡ true = none le in absurd cc
    ]

-- a log that the device has room for is far from the limit of what a reserve counts
pub short_push : (pages blocks : ℕ) (log : List Record) (r : Record) → IsRecord pages r
    → end_of log ≤ 512 * blocks → blocks ≤ 4194304 → end_of (log ++ r ∷ []) < 2 ^ 62
short_push pages blocks log r is fits few =
    omega (arith, end_of-push log r, record_len-high pages r is, fits, few)
