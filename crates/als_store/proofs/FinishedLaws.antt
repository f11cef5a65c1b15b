-- What a finished takeover leaves.
use Rattle.std.proofs.Common.{◌≡◌, ℕ, ◌-◌, ◌<◌, ◌≤◌, nat_lt, Bool, true, false, List, [], ◌∷◌, ◌++◌, length, filter, Option, Some, None, refl, sym, ap, subst, ◌∙◌, inl, inr, arith, lt-ltb, append-nil}
use Rattle.std.specs.List.{AllByRecursion}
use Rattle.std.proofs.lemmas.Bool.{cases_Bool}
use Rattle.als_record.specs.declared.change.Change.{Change}
use Rattle.als_record.specs.declared.key.Key.{Key}
use Rattle.als_record.specs.declared.lsn.Lsn.{Lsn}
use Rattle.als_record.specs.declared.record.Record.{Record}
use Rattle.als_record.specs.Images.{kept, image_now}
use Rattle.als_record.specs.Pages.{changes_on, changes_above}
use Rattle.als_record.specs.Tail.{tail_of, is_undone}
use Rattle.als_record.specs.Validity.{IsValidLog}
use Rattle.als_record.proofs.PageImages.{page_at-image_now}
use Rattle.als_record.proofs.TailFirst.{is_undone-tail_of, IsValidLog-front}
use Rattle.als_record.proofs.Unended.{is_closed-table_of}
use Rattle.als_record.proofs.Takeover.{tail_of-takes_over, image_now-without_tail}
use Rattle.als_validator.specs.declared.validator.Validator.{Validator}
use Rattle.als_log.specs.Local.{Local}
use Rattle.als_ckpt.specs.declared.phase.Phase.{Phase}
use Rattle.als_ckpt.specs.Control.{Controlled, newest}
use Rattle.als_frames.specs.Frames.{Framed, frame_of}
use Rattle.als_frames.specs.Images.{lsn_or, synced_lsn, lsn_now}
use Rattle.als_dirty.specs.Entries.{entry_of}
use Rattle.als_pool.specs.Queues.{total_waiting, pending_of}
use Rattle.als_pool.specs.Pooled.{Pooled, unread_of}
use Rattle.als_pool.specs.Images.{IsPageOf}
use Rattle.als_pool.proofs.QueueLists.{total-set}
use Rattle.als_reopen.specs.Taken.{IsTaken, IsTakenOver, IsUndecided}
use Rattle.als_store.specs.Takeover.{is_done, slot_now, IsUntouched, IsFinished}
use Rattle.als_store.specs.Origin.{Origin, origin_of}
use Rattle.als_store.specs.Warm.{IsWarm}
use Rattle.als_store.specs.Parts.{IsStored, stored_of}
use Rattle.als_store.proofs.TakeoverLaws.{done_primary, whole-no_tail}
use Rattle.als_tables.specs.declared.commit_count.CommitCount.{CommitCount}

nothing : {X : Type 0} (xs : List X) → length xs ≤ 0 → xs ≡ []
nothing [] le = refl
nothing (x ∷ xs) le = absurd (omega (arith, le))

-- where nothing waits over all pages, nothing waits for any
none_waits : (waits : List (List Change)) (page : ℕ) → page < length waits → total_waiting waits ≡ 0 → pending_of waits page ≡ []
none_waits waits page lt none = nothing (pending_of waits page) (omega (arith, none, total-set waits page [] lt))

-- changes from an LSN on are above the one before it
all_above : (from : ℕ) (cs : List Change) → 1 ≤ from → AllByRecursion (λ c. from ≤ c.lsn.0) cs → filter (λ (c : Change). nat_lt (from - 1) c.lsn.0) cs ≡ cs
all_above from [] some all = refl
all_above from (c ∷ cs) some all = rw (lt-ltb (from - 1) c.lsn.0 (omega (arith, some, all.0))) (ap (λ (xs : List Change). c ∷ xs) (all_above from cs some all.1))

filter_twice : (p q : Change → Bool) (cs : List Change) → filter q cs ≡ [] → filter q (filter p cs) ≡ []
filter_twice p q [] none = refl
filter_twice p q (c ∷ cs) none = elim (cases_Bool (q c)) [
  | inl y ↦ let wrong : c ∷ filter q cs ≡ [] = (rw y at none) in absurd (cc wrong)
  | inr n ↦
      let rest : filter q cs ≡ [] = (rw n at none) in
      elim (cases_Bool (p c)) [
        | inl y ↦ rw y (rw n (filter_twice p q cs rest))
        | inr z ↦ rw z (filter_twice p q cs rest)
      ]
]

-- an unread page for which nothing waits lacks nothing
lacks_none : (log : List Record) (page synced from : ℕ) → 1 ≤ from → AllByRecursion (λ c. from ≤ c.lsn.0) (changes_above log page synced) → changes_above log page (from - 1) ≡ [] → changes_above log page synced ≡ []
unfolding changes_above
lacks_none log page synced from some all none =
    sym (all_above from (filter (λ (c : Change). nat_lt synced c.lsn.0) (changes_on page log)) some all)
    ∙ filter_twice (λ (c : Change). nat_lt synced c.lsn.0) (λ (c : Change). nat_lt (from - 1) c.lsn.0) (changes_on page log) none

-- a page for which nothing waits has all that the log has for it
page_has_all : (log : List Record) (v : Pooled) (page : ℕ) (unread : Option Lsn) → IsPageOf log page (frame_of v.frames page) (synced_lsn v.frames page) (entry_of v.dirty page) (pending_of v.waits page) unread → pending_of v.waits page ≡ []
    → changes_above log page (lsn_now v.frames page) ≡ []
page_has_all log v page None is none = sym is.wait ∙ none
page_has_all log v page (Some from) is none =
    ap (λ (f : Option Framed). changes_above log page (lsn_or f (synced_lsn v.frames page))) is.absent
    ∙ lacks_none log page (synced_lsn v.frames page) from.0 (omega (arith, is.first)) is.lacks (sym is.wait ∙ none)

module _ (pages : ℕ) (held : CommitCount) (l : Local) (c : Controlled) (pool : Pooled) (validator : Validator) (broken : Bool) (origin : Origin) (recovering : Bool) (h : IsStored pages l held c pool validator broken origin recovering) (was : IsWarm true origin) (ready : recovering ≡ false) (done : is_done (newest c).phase ≡ true) where
  warm : IsWarm recovering (origin_of l c pool)
  warm = h.warm was

  over : IsTakenOver l.log (newest c).mark.0 (newest c).seal.0
  over = subst (λ (p : Phase). IsTaken p l.log (newest c).mark.0 (newest c).seal.0) (done_primary (newest c).phase done) warm.taken.now

  -- where nothing waits for redo, each slot has what was last written there
  now_written : total_waiting pool.waits ≡ 0 → (k : Key) → k.page < pages → k.slot < 15 → slot_now (stored_of pages l c pool broken origin recovering) k ≡ image_now l.log k
  now_written none k in_range low =
      let lt : k.page < length pool.waits = omega (arith, h.paged.count, in_range) in
      page_at-image_now l.log k (lsn_now pool.frames k.page) low
      (page_has_all l.log pool k.page (unread_of pool.unread k.page) (warm.is_pool.each k.page lt) (none_waits pool.waits k.page lt none))

  -- and where nothing of a tail is left, that is what a takeover keeps
  now_kept : is_undone l.log ≡ true → (k : Key) → image_now l.log k ≡ kept l.log k
  now_kept undone k = image_now-without_tail l.log h.is_log.valid undone k

  module _ (none : over.more ≡ []) where
    parts : l.log ≡ over.sealed ++ tail_of over.sealed
    parts = over.parts ∙ ap (λ (xs : List Record). (over.sealed ++ tail_of over.sealed) ++ xs) none ∙ append-nil (over.sealed ++ tail_of over.sealed)

    undecided : IsUndecided l.log (newest c).seal.0
    undecided = record { sealed = over.sealed; parts = parts; ends = over.ends }

    undone : is_undone l.log ≡ true
    undone = is_undone-tail_of l.log (whole-no_tail l.log over.sealed parts)

    sealed_valid : IsValidLog pages over.sealed
    sealed_valid = IsValidLog-front pages over.sealed (tail_of over.sealed) (subst (IsValidLog pages) parts h.is_log)

    now_sealed : (k : Key) → image_now l.log k ≡ kept over.sealed k
    now_sealed k = ap (λ (log : List Record). image_now log k) parts ∙ (tail_of-takes_over over.sealed sealed_valid.valid).images k

    untouched : IsUntouched (stored_of pages l c pool broken origin recovering) over.sealed
    untouched = record {
      table = is_closed-table_of l.log ∙ undone;
      images = λ k in_range low. now_written (warm.taken.drained ready done undecided) k in_range low ∙ now_sealed k;
      same = λ k. sym (now_kept undone k) ∙ now_sealed k;
    }

  pub finished : IsFinished (stored_of pages l c pool broken origin recovering)
  finished = record {
    sealed = over.sealed;
    more = over.more;
    ends = over.ends;
    parts = over.parts;
    decided = over.decided;
    untouched = untouched;
    images = λ undone none k in_range low. now_written none k in_range low ∙ now_kept undone k;
  }
