-- The write of a page and the queries of pages and records, refused or not, and what they keep.
use Rattle.std.proofs.Common.{◌≡◌, ℕ, ◌+◌, ◌≤◌, true, false, [], Option, Some, None, Err, Ok, inl}
use Rattle.std.proofs.Common.{inr, refl, sym, ap, subst, ◌∙◌, append-nil, arith}
use Rattle.std.specs.Prelude.{Result, MatchOption}
use Rattle.als_record.specs.declared.lsn.Lsn.{Lsn}
use Rattle.als_record.specs.declared.record.Record.{Record}
use Rattle.als_page.specs.declared.page.Page.{Page}
use Rattle.als_store.specs.declared.fault.Fault.{Fault as StoreFault}
use Rattle.als_store.specs.declared.fault.Fault.TheVariants as store_fault
use Rattle.als_ckpt.specs.declared.control_state.ControlState.{ControlState}
use Rattle.als_store.specs.Stored.{Stored}
use Rattle.als_store.specs.Takeover.{GoesOn}
use Rattle.als_store.specs.Events.{CanFlush, FlushesPage, NotShown}
use Rattle.als_store.specs.Warm.{WasWarm}
use Rattle.als_engine.specs.declared.fault.Fault.{Fault}
use Rattle.als_engine.specs.declared.fault.Fault.TheVariants as fault
use Rattle.als_engine.specs.Faults.{from_store}
use Rattle.als_engine.specs.declared.step.Step.{Step}
use Rattle.als_engine.specs.declared.step.Step.TheVariants as step
use Rattle.als_engine.specs.Readers.{ended_in}
use Rattle.als_engine.specs.Machine.{Machine, IsStopped, Keeps}
use Rattle.als_engine.specs.Refusals.{refusal, Does}
use Rattle.als_engine.specs.Events.{FlushesOne, WritesPage, ShowsPage, Reads}
use Rattle.als_engine.specs.Events.{Changes}
use Rattle.als_engine.proofs.KeepLaws.{goes_on_same, keeps_equal, IsReadAlike, none_opened}
use Rattle.als_engine.proofs.KeepLaws.{IsAsMade, as_made, below_same}

-- an event that is not refused acts
pub acting : {A : Type 0} (old : Machine) (event : Step) (acts : Result A Fault → Machine
    → Type 0) (result : Result A Fault) (new : Machine)
    → refusal old event ≡ None → acts result new → Does old event acts result new
acting old event acts result new e does =
    subst (λ (o : Option Fault). MatchOption o (acts result new) (λ cause. (result ≡ Err cause)
    × (new ≡ old))) (sym e) does

-- an event that is refused changes nothing
pub refusing : {A : Type 0} (old : Machine) (event : Step) (acts : Result A Fault → Machine
    → Type 0) (f : Fault) (new : Machine) → refusal old event ≡ Some f → new ≡ old
    → Does old event acts (Err f) new
refusing {A} old event acts f new e same =
    subst (λ (o : Option Fault). MatchOption o (acts (Err f) new)
    (λ cause. (◌≡◌ {A = Result A Fault} (Err f) (Err cause)) × (new ≡ old))) (sym e)
    (refl, same)

abbrev pub with_held : Machine → Stored → Machine
with_held m held = record m { held = held }

pub same_held : (m : Machine) (held : Stored) → held ≡ m.held → with_held m held ≡ m
same_held m held e = ap (λ (h : Stored). with_held m h) e

-- ---- images

flush_not_refused : (m : Machine) (page : ℕ) → m.held.broken ≡ false → CanFlush m.held page
    → refusal m (step.Flush page) ≡ None
flush_not_refused m page running can = rw (running, can.free, can.due, can.logged) refl

pub flushes : (m : Machine) (page : ℕ) (held : Stored) → m.held.broken ≡ false
    → FlushesPage m.held page held → FlushesOne m page (Ok tt) (record m { held = held })
flushes m page held running done =
    acting m (step.Flush page) (WritesPage m page) (Ok tt) (with_held m held)
    (flush_not_refused m page running done.can)
    (record { held = held; becomes = done; after = refl })

-- ---- a page that is not shown

pub not_shown : (m : Machine) (page : ℕ) (cause : StoreFault) (held : Stored)
    → (WasWarm m.held → cause ≡ store_fault.BadPage page → ⊥) → NotShown m.held page cause held
    → ShowsPage m page (Err (from_store cause)) (record m { held = held })
not_shown m page store_fault.Device held sound n =
    inl (refl, record { held = held; becomes = n; after = refl })
not_shown m page (store_fault.BadPage p) held sound n =
    inr (record {
      answer =
          ap fault.BadPage n.number;
      bad = n.bad;
      unsound = λ w. sound w (ap store_fault.BadPage n.number);
      absent = n.absent;
      after = ap (λ (h : Stored). with_held m h) n.after;
    })
not_shown m page store_fault.NothingToDo held sound n = absurd n
not_shown m page store_fault.Memory held sound n = absurd n
not_shown m page (store_fault.Invalid c) held sound n = absurd n
not_shown m page store_fault.LogBehind held sound n = absurd n
not_shown m page store_fault.CkptBusy held sound n = absurd n
not_shown m page store_fault.PoolFull held sound n = absurd n
not_shown m page store_fault.PageLent held sound n = absurd n
not_shown m page store_fault.NumbersSpent held sound n = absurd n
not_shown m page store_fault.LogFull held sound n = absurd n

-- ---- what they keep

-- the same log, the same synced control state, and a stopped engine stays stopped
keeps_log : (old new : Machine) → new.held.control ≡ old.held.control → new.held.log ≡ old.held.log
    → (IsStopped old → IsStopped new)
    → IsAsMade old.held new.held → new.limit ≡ old.limit → IsReadAlike old new → Keeps old new
keeps_log old new control log stopped made limit alike = record {
  acknowledged = omega (arith, ap (λ (c : ControlState). c.mark.0) control);
  more = [];
  log = log ∙ sym (append-nil old.held.log);
  stopped = stopped;
  takeover = subst (λ (c : ControlState). GoesOn old.held.control c) (sym control)
      (goes_on_same old.held.control);
  pages = made.pages;
  limit = limit;
  warm = made.warm;
  ready = made.ready;
  listed = λ l. alike.listed ∙ l;
  published = omega (arith, alike.published);
  shown = none_opened old new alike (ended_in old.held);
  below = below_same old.held.control new.held.control control;
}

pub keeps_pool : (old new : Machine) (held : Stored) → new ≡ record old { held = held }
    → held.control ≡ old.held.control → held.log ≡ old.held.log
    → (old.held.broken ≡ true → held.broken ≡ true) → IsAsMade old.held held → Keeps old new
keeps_pool old new held after control log stopped made =
    subst (λ (m : Machine). Keeps old m) (sym after)
    (keeps_log old (with_held old held) control log stopped made refl
    (record { listed = refl; published = refl }))

flush_keeps : (old new : Machine) (page : ℕ) (answer : Result (Unit {0}) Fault) (o : Option Fault)
    → MatchOption o (WritesPage old page answer new) (λ cause. (answer ≡ Err cause) × (new ≡ old))
    → Keeps old new
flush_keeps old new page (Ok x) None r =
    keeps_pool old new r.held r.after (ap (λ (s : Stored). s.control) r.becomes.after)
    (ap (λ (s : Stored). s.log) r.becomes.after)
    (λ s. ap (λ (h : Stored). h.broken) r.becomes.after ∙ s)
    (as_made old.held r.held _ r.becomes.after refl (λ w. w) (λ r. r))
flush_keeps old new page (Err f) None r =
    keeps_pool old new r.1.held r.1.after (ap (λ (s : Stored). s.control) r.1.becomes.after)
    (ap (λ (s : Stored). s.log) r.1.becomes.after)
    (λ s. ap (λ (h : Stored). h.broken) r.1.becomes.after)
    (as_made old.held r.1.held _ r.1.becomes.after refl (λ w. w) (λ r. r))
flush_keeps old new page (Ok x) (Some cause) r = keeps_equal old new r.1
flush_keeps old new page (Err f) (Some cause) r = keeps_equal old new r.1

pub flushes_keeps : (old new : Machine) (page : ℕ) (answer : Result (Unit {0}) Fault)
    → FlushesOne old page answer new → Keeps old new
flushes_keeps old new page answer r =
    flush_keeps old new page answer (refusal old (step.Flush page)) r

-- ---- queries that may read a device

-- a failed read, which is counted
keeps_failing : (old new : Machine) (event : Stored → Stored → Type 0) → Changes old event new
    → ((held : Stored) → event old.held held → (held.control ≡ old.held.control)
    × (held.log ≡ old.held.log) × (held.broken ≡ old.held.broken) × IsAsMade old.held held)
    → Keeps old new
keeps_failing old new event c k =
    let v = k c.held c.becomes in
    keeps_pool old new c.held c.after v.0 v.1 (λ s. v.2 ∙ s) v.3

pub shows_keeps : (old new : Machine) (page : ℕ) (answer : Result Page Fault)
    → ShowsPage old page answer new → Keeps old new
shows_keeps old new page (Ok shown) s = keeps_equal old new s.3
shows_keeps old new page (Err f) (inl s) = keeps_failing old new _ s.1 (λ held e. (
  ap (λ (h : Stored). h.control) e.after,
  ap (λ (h : Stored). h.log) e.after,
  ap (λ (h : Stored). h.broken) e.after,
  as_made old.held held _ e.after refl (λ w. w) (λ r. r),
))
shows_keeps old new page (Err f) (inr s) = keeps_equal old new s.after

pub reads_keeps : (old new : Machine) (lsn : Lsn) (answer : Result (Option Record) Fault)
    → Reads old lsn answer new → Keeps old new
reads_keeps old new lsn (Ok found) s = keeps_equal old new s.1
reads_keeps old new lsn (Err f) (inl s) = keeps_equal old new s.2
reads_keeps old new lsn (Err f) (inr s) =
    let e = s.2.after in
    keeps_pool old new s.1 s.3 (ap (λ (h : Stored). h.control) e) (ap (λ (h : Stored). h.log) e)
    (λ b. ap (λ (h : Stored). h.broken) e ∙ b)
    (as_made old.held s.1 _ e refl (λ w. w) (λ r. r))
