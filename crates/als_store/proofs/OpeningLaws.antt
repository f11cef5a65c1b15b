-- A store that was opened.
use Rattle.std.proofs.Common.{◌≡◌, ℕ, zero, suc, ◌+◌, ◌*◌, ◌≤◌, List, [], ◌∷◌, ◌++◌, Option, Some, None, refl}
use Rattle.std.proofs.Common.{sym, ap, subst, ◌∙◌, arith, append-nil}
use Rattle.std.specs.Prelude.{true, false, Contains, IfSome, MatchOption}
use Rattle.std.specs.List.{AllByRecursion}
use Rattle.std.proofs.lemmas.Bool.{false≢true}
use Rattle.std.proofs.lemmas.List.Sums.{sum_by-cons}
use Rattle.als_record.specs.declared.lsn.Lsn.{Lsn}
use Rattle.als_record.specs.declared.record.Record.{Record}
use Rattle.als_record.specs.declared.rows.LoggedPage.{LoggedPage}
use Rattle.als_record.specs.LogText.{end_of}
use Rattle.als_record.specs.Pages.{changes_above}
use Rattle.als_record.specs.Spelling.{record_len}
use Rattle.als_record.specs.Tail.{reserve_of}
use Rattle.als_record.proofs.PageLaws.{end_of-append, record_len-least}
use Rattle.als_disk.specs.Slot.{Slot}
use Rattle.als_disk.specs.SlotLaws.{Contains-one}
use Rattle.als_validator.specs.declared.validator.Validator.{Validator}
use Rattle.als_log.specs.Local.{Local, IsFrontEnd}
use Rattle.als_ckpt_codec.specs.declared.checkpoint.Checkpoint.{Checkpoint}
use Rattle.als_ckpt.specs.declared.control_state.ControlState.{ControlState}
use Rattle.als_ckpt.specs.declared.region.Region.{Region}
use Rattle.als_ckpt.specs.declared.region.Region.TheVariants.{First, Second}
use Rattle.als_ckpt.specs.Regions.{Said, held_of}
use Rattle.als_ckpt.specs.Control.{Controlled, last_state}
use Rattle.als_tables.specs.declared.commit_count.CommitCount.{CommitCount}
use Rattle.als_tables.specs.Fronts.{IsOfFront}
use Rattle.als_frames.specs.Frames.{Paged, frame_of}
use Rattle.als_frames.specs.Images.{synced_lsn}
use Rattle.als_frames.specs.Leases.{count_lent}
use Rattle.als_dirty.specs.Entries.{entry_of}
use Rattle.als_pool.specs.Queues.{pending_of}
use Rattle.als_pool.specs.Pooled.{Pooled, unread_of}
use Rattle.als_pool.specs.Bounds.{EndsBelow}
use Rattle.als_pool.specs.Images.{IsPageOf, IsPoolOf, IsQueueOf, QueuesOf}
use Rattle.als_pool.specs.Restart.{start_of, row_in, IsUnreadRow, IsRowBelow, HasRowsFrom}
use Rattle.als_pool.specs.Restart.{CoversPages}
use Rattle.als_reopen.specs.Node.{Node, position_of, rows_of, position_in, rows_in}
use Rattle.als_reopen.specs.Taken.{IsTakenFrom, WasTakenFrom}
use Rattle.als_reopen.specs.Outcomes.{all_synced, said_now, IsControlRead, AreUnread, IsReopened}
use Rattle.als_store.specs.Origin.{origin_of}
use Rattle.als_store.specs.Stored.{Stored, FrontsFit}
use Rattle.als_store.specs.Checkpoints.{IsCovering, AreCovering}
use Rattle.als_store.specs.Takeover.{PhasesRise, follows}
use Rattle.als_store.specs.Warm.{IsWarm}
use Rattle.als_store.specs.Parts.{IsStored, stored_of}
use Rattle.als_store.specs.Opening.{opened, IsOpened, TakesUp}
use Rattle.als_store.proofs.TakeoverLaws.{was_now}

-- ---- the log

-- a front of a log that ends where the log does is the log
pub whole_front : (log front rest : List Record) → log ≡ front ++ rest → end_of log ≤ end_of front
    → front ≡ log
whole_front log front [] parts le = sym (parts ∙ append-nil front)
whole_front log front (r ∷ rest) parts le =
    absurd (omega (
      arith,
      le,
      ap end_of parts,
      end_of-append front (r ∷ rest),
      sum_by-cons
          record_len r rest,
      record_len-least r,
    ))

-- ---- the pages

-- no image lacks a change from before where the changes of its page wait
covers_unread : (log : List Record) (below : ℕ) (position : Lsn) (rows : List LoggedPage)
    (pool : Pooled) → IsPoolOf log below pool → QueuesOf log pool → HasRowsFrom position rows pool
    → CoversPages log position rows pool
covers_unread log below position rows pool is queues given page lt =
    go (unread_of pool.unread page) refl
  where
    go : (u : Option Lsn) → unread_of pool.unread page ≡ u
        → AllByRecursion (λ c. (start_of position rows page).0 ≤ c.lsn.0)
        (changes_above log page (synced_lsn pool.frames page))
    go None e = absurd (subst
        (λ (o : Option Lsn). MatchOption o ⊥
        (λ from. IsQueueOf log page (entry_of pool.dirty page) (pending_of pool.waits page)
        from)) e (queues.each page lt))
    go (Some from) e =
        let row : IsUnreadRow position (row_in rows page) (frame_of pool.frames page)
        (entry_of pool.dirty page) (pending_of pool.waits page) from
        = subst (λ (o : Option Lsn). MatchOption o (Unit {0})
        (λ from. IsUnreadRow position (row_in rows page) (frame_of pool.frames page)
        (entry_of pool.dirty page) (pending_of pool.waits page) from)) e
        (given.each page lt) in
        let at : IsPageOf log page (frame_of pool.frames page) (synced_lsn pool.frames page)
        (entry_of pool.dirty page) (pending_of pool.waits page) (Some from)
        = subst (λ (o : Option Lsn). IsPageOf log page (frame_of pool.frames page)
        (synced_lsn pool.frames page) (entry_of pool.dirty page) (pending_of pool.waits page) o)
        e (is.each page lt) in
        subst (λ (l : Lsn). AllByRecursion (λ c. l.0 ≤ c.lsn.0)
        (changes_above log page (synced_lsn pool.frames page))) row.start at.lacks

-- where no page has a frame none is lent
none_lent : (pages : ℕ) → count_lent pages [] ≡ 0
unfolding count_lent
none_lent zero = refl
none_lent (suc pages) = omega (arith, none_lent pages)

-- ---- the checkpoint

covering_held : (log : List Record) (pool : Pooled) (published : Option Region)
    (o : Option Checkpoint) → IfSome o (IsCovering log pool)
    → AreCovering log pool (held_of published o) None
covering_held log pool None o is = record { first = tt; second = tt; coming = tt }
covering_held log pool (Some First) o is = record { first = is; second = tt; coming = tt }
covering_held log pool (Some Second) o is = record { first = tt; second = is; coming = tt }

covering_said : (log : List Record) (pool : Pooled) (o : Option Checkpoint)
    → IfSome o (IsOfFront log) → AllByRecursion (IsRowBelow (position_of o)) (rows_of o)
    → CoversPages log (position_of o) (rows_of o) pool → IfSome o (IsCovering log pool)
covering_said log pool None front listed covers = tt
covering_said log pool (Some c) front listed covers =
    record { of_front = front; listed = listed; covers = covers }

module _ (pages blocks most log_failures log_attempts control_blocks control_failures
    control_attempts page_blocks page_failures page_attempts : ℕ) (old : ℕ → Slot)
    (l : Local) (c : Controlled) (pool : Pooled) (validator : Validator) (count : CommitCount)
    (el : l ≡ all_synced pages l.log blocks log_failures log_attempts l.room)
    (k : IsControlRead pages blocks control_blocks control_failures control_attempts c)
    (u : AreUnread pages most old page_blocks page_failures page_attempts pool.frames)
    (r : IsReopened pages blocks (said_now c) l.log validator count pool) where
  none_since : c.since ≡ []
  none_since = ap (λ (y : Controlled). y.since) k.is

  only_synced : (s : ControlState) → Contains (c.synced ∷ c.since) s → c.synced ≡ s
  only_synced s has = Contains-one
      (subst (λ (since : List ControlState). Contains (c.synced ∷ since) s) none_since has)

  synced_is : l.synced ≡ end_of l.log
  synced_is = ap (λ (x : Local). x.synced) el

  fits : FrontsFit l.blocks c.synced.mark.0 l.log
  fits front rest parts low =
      subst (λ (xs : List Record). end_of xs + reserve_of xs ≤ 512 * l.blocks)
      (sym (whole_front l.log front rest parts (omega (arith, low, r.ends))))
      (omega (arith, r.fits, ap (λ (x : Local). x.blocks) el))

  front_at : (s : ControlState) → c.synced ≡ s → IsFrontEnd l.log s.mark.0
  front_at s same = record {
    front = l.log;
    rest = [];
    parts = sym (append-nil l.log);
    ends =
        r.ends ∙ ap (λ (x : ControlState). x.mark.0) same;
  }

  pub stored-opened : EndsBelow (end_of l.log) pool → pages ≤ 4096
      → IsStored pages l count c pool validator false (origin_of l c pool) true
  stored-opened ends few = record {
    log_pages = ap (λ (x : Local). x.pages) el;
    is_log = r.valid;
    fit = fits;
    judged = r.judged;
    judging = r.judging ∙ sym
        (ap (λ (since : List ControlState). follows (last_state c.synced since).phase) none_since);
    paged = record {
      count = r.pages_are;
      ends = ends;
      few =
          r.few;
      sure = λ e. ap (λ (f : Paged). f.sure) u.is;
    };
    held_is = r.counted;
    few_pages = few;
    marks = record {
      pages = ap (λ (y : Controlled). y.pages) k.is ∙ sym (ap (λ (x : Local). x.pages) el);
      bytes = ap (λ (y : Controlled). y.log_bytes) k.is
          ∙ sym (ap (λ (x : Local). 512 * x.blocks) el);
      newest_synced = omega (
        arith,
        ap
            (λ (since : List ControlState). (last_state c.synced since).mark.0) none_since,
        r.ends,
        synced_is,
      );
      fronts = λ s among. front_at s (only_synced s among);
    };
    rise = subst (λ (since : List ControlState). PhasesRise c.synced since) (sym none_since) tt;
    warm = λ was. was;
    sure = λ e. ap (λ (y : Controlled). y.sure) k.is;
  }

  first_view : Stored
  first_view = stored_of pages l c pool false (origin_of l c pool) true

  pub view-opened : stored_of pages l c pool false (origin_of l c pool) true
      ≡ opened pages blocks l.log (said_now c) pool
      (log_failures + control_failures + page_failures)
      (log_attempts + control_attempts + page_attempts)
  view-opened =
      ap (λ (x : Local). record (stored_of pages l c pool false (origin_of l c pool) true) {
        blocks = x.blocks;
        written = x.written;
        synced = x.synced;
        failures =
            x.failures + c.failures + pool.frames.failures;
        attempts =
            x.attempts + c.attempts + pool.frames.attempts;
      }) el
      ∙ ap (λ (y : Controlled). record (stored_of pages l c pool false (origin_of l c pool) true) {
        blocks = blocks;
        written = end_of l.log;
        synced = end_of l.log;
        since = y.since;
        held = y.held;
        begun = y.begun;
        failures = log_failures + y.failures + pool.frames.failures;
        attempts = log_attempts + y.attempts + pool.frames.attempts;
        origin = record {
          log = l.log;
          control = c.synced;
          since = y.since;
          held = y.held;
          begun =
              y.begun;
          pool = pool;
        };
      }) k.is
      ∙ ap (λ (f : Paged). record (opened pages blocks l.log (said_now c) pool 0 0) {
        failures = log_failures + control_failures + f.failures;
        attempts =
            log_attempts + control_attempts + f.attempts;
      }) u.is

  pub is-opened : IsOpened pages blocks (log_failures + control_failures + page_failures)
      (log_attempts + control_attempts + page_attempts)
      (stored_of pages l c pool false (origin_of l c pool) true)
  is-opened = record {
    said = said_now c;
    is = view-opened;
    valid = r.valid;
    ends = r.ends;
    fits = r.fits;
    front = r.front;
    published = k.published;
    count = r.pages_are;
    queues = r.queues;
    rows = r.rows;
    unlent = ap (λ (v : Paged). count_lent v.pages v.frames) u.is ∙ none_lent pages;
    numbered = r.numbered;
  }

  module _ (n : Node) (same_log : l.log ≡ n.log) (same_said : said_now c ≡ n.said)
      (is : IsPoolOf n.log n.said.state.mark.0 pool) (taken : IsTakenFrom n.log n.said.state)
      (listed : AllByRecursion (IsRowBelow (position_in n.said)) (rows_in n.said)) where
    is_pool : IsPoolOf l.log c.synced.mark.0 pool
    is_pool = subst (λ (xs : List Record). IsPoolOf xs (said_now c).state.mark.0 pool)
        (sym same_log) (subst (λ (x : Said). IsPoolOf n.log x.state.mark.0 pool) (sym same_said) is)

    taken_now : IsTakenFrom l.log c.synced
    taken_now = subst (λ (xs : List Record). IsTakenFrom xs (said_now c).state) (sym same_log)
        (subst (λ (x : Said). IsTakenFrom n.log x.state) (sym same_said) taken)

    listed_now : AllByRecursion (IsRowBelow (position_in (said_now c))) (rows_in (said_now c))
    listed_now = subst (λ (x : Said). AllByRecursion (IsRowBelow (position_in x)) (rows_in x))
        (sym same_said) listed

    covering_now : AreCovering l.log pool
        (held_of (said_now c).state.published (said_now c).checkpoint) None
    covering_now = covering_held l.log pool (said_now c).state.published (said_now c).checkpoint
        (covering_said l.log pool (said_now c).checkpoint r.front listed_now
        (covers_unread l.log c.synced.mark.0 (position_in (said_now c)) (rows_in (said_now c)) pool
        is_pool r.queues r.rows))

    pub warm-opened : IsWarm true (origin_of l c pool)
    warm-opened = record {
      is_pool = is_pool;
      taken = record {
        now = subst (λ (since : List ControlState). IsTakenFrom l.log (last_state c.synced since))
            (sym none_since) taken_now;
        each = λ s has. subst (λ (x : ControlState). WasTakenFrom l.log x) (only_synced s has)
            (was_now l.log c.synced taken_now);
        below = λ s has. omega (
          arith,
          r.ends,
          ap (λ (x : ControlState). x.mark.0) (only_synced s has),
        );
        phases = subst (λ (since : List ControlState). PhasesRise c.synced since) (sym none_since)
            tt;
        drained = λ ready. absurd (false≢true (sym ready));
      };
      told = subst (λ (y : Controlled). AreCovering l.log pool y.held y.begun) (sym k.is)
          covering_now;
    }

    pub takes-up : TakesUp n (stored_of pages l c pool false (origin_of l c pool) true)
    takes-up = record {
      log = same_log;
      control = ap (λ (x : Said). x.state) same_said;
      held = ap (λ (y : Controlled). y.held) k.is
          ∙ ap (λ (x : Said). held_of x.state.published x.checkpoint) same_said;
      queues = subst (λ (xs : List Record). QueuesOf xs pool) same_log r.queues;
      rows = subst (λ (x : Said). HasRowsFrom (position_in x) (rows_in x) pool) same_said r.rows;
      warm = warm-opened;
    }
