-- What forces the log leaves its text as it was.
use Rattle.std.proofs.Common.{◌≡◌, ◌≢◌, ℕ, zero, suc, true, Option, Some, None, Result, Ok, Err, refl, sym, ap, subst, ◌∙◌, inl, inr}
use Rattle.std.specs.Prelude.{MatchOption, ◌⊎◌}
use Rattle.als_record.specs.declared.lsn.Lsn.{Lsn}
use Rattle.als_ckpt.specs.declared.control_state.ControlState.{ControlState}
use Rattle.als_ckpt.proofs.StateLaws.{last_state-push}
use Rattle.als_store.specs.Stored.{Stored}
use Rattle.als_store.specs.Takeover.{history_of}
use Rattle.als_store.specs.Events.{marked, Breaks, WritesLog, SyncsLog, WritesMark, BreaksMark, SyncsControl}
use Rattle.als_engine.specs.declared.fault.Fault.{Fault as EngineFault}
use Rattle.als_engine.specs.declared.fault.Fault.TheVariants.{NothingToDo}
use Rattle.als_engine.specs.declared.step.Step.TheVariants as step
use Rattle.als_engine.specs.Machine.{Machine}
use Rattle.als_engine.specs.Refusals.{refusal}
use Rattle.als_engine.specs.Events.{Changes, WritesBlock, SyncsBlocks, MovesMark, Acknowledges, LogWrites, LogSyncs, MarkWrites, ControlSyncs}
use Rattle.als_ship.specs.declared.fault.Fault.TheVariants.{Refused}
use Rattle.als_ship.specs.Follows.{SameText}
use Rattle.als_ship.specs.Forcing.{Writes, WritesAll, Syncs, Forces, FailsToForce}

pub same_refl : (m : Machine) → SameText m m
same_refl m = record { pages = refl; log = refl; partial = refl; history = refl; stopped = λ s. s }

pub same_trans : (a b c : Machine) → SameText a b → SameText b c → SameText a c
same_trans a b c p q = record {
  pages = q.pages ∙ p.pages;
  log = q.log ∙ p.log;
  partial = q.partial ∙ p.partial;
  history = q.history ∙ p.history;
  stopped = λ s. q.stopped (p.stopped s);
}

pub same_equal : (old new : Machine) → new ≡ old → SameText old new
same_equal old new e = subst (λ (m : Machine). SameText old m) (sym e) (same_refl old)

-- ---- the store

-- a store with the same log and the same history, which is broken still where it was
abbrev pub SameLog : Stored → Stored → Type 0
SameLog old new = (new.pages ≡ old.pages) × (new.log ≡ old.log) × (history_of new ≡ history_of old) × (old.broken ≡ true → new.broken ≡ true)

pub same_changed : (old new : Machine) (event : Stored → Stored → Type 0) → ((h k : Stored) → event h k → SameLog h k) → Changes old event new → SameText old new
same_changed old new event keeps c =
    let same = keeps old.held c.held c.becomes in
    record {
      pages = ap (λ (m : Machine). m.held.pages) c.after ∙ same.0;
      log = ap (λ (m : Machine). m.held.log) c.after ∙ same.1;
      partial = ap (λ (m : Machine). m.partial) c.after;
      history = ap (λ (m : Machine). history_of m.held) c.after ∙ same.2;
      stopped = λ s. ap (λ (m : Machine). m.held.broken) c.after ∙ same.3 s;
    }

pub by_equation : (old new is : Stored) → new ≡ is → SameLog old is → SameLog old new
by_equation old new is e same = subst (λ (s : Stored). SameLog old s) (sym e) same

pub breaks_same : (old new : Stored) → Breaks old new → SameLog old new
breaks_same old new b = by_equation old new _ b.after (refl, refl, refl, λ s. refl)

writes_same : (old new : Stored) → WritesLog old new → SameLog old new
writes_same old new w = by_equation old new _ w.after (refl, refl, refl, λ s. s)

syncs_same : (old new : Stored) → SyncsLog old new → SameLog old new
syncs_same old new s = by_equation old new _ s.after (refl, refl, refl, λ b. b)

-- a mark moves in a control state of the same history
marked_history : (old : Stored) (c : ControlState) → c ≡ marked old → c.history ≡ history_of old
marked_history old c is = ap (λ (s : ControlState). s.history) is

marks_same : (old new : Stored) → WritesMark old new → SameLog old new
marks_same old new w = by_equation old new _ w.after (refl, refl, marked_history old _ (last_state-push old.control old.since (marked old)), λ s. s)

breaks_mark_same : (old new : Stored) → BreaksMark old new → SameLog old new
breaks_mark_same old new b = by_equation old new _ b.after (refl, refl, marked_history old _ (last_state-push old.control old.since (marked old)), λ s. refl)

control_same : (lsn : Lsn) (old new : Stored) → SyncsControl old lsn new → SameLog old new
control_same lsn old new s = by_equation old new _ s.after (refl, refl, refl, λ b. b)

-- ---- the events, refused or not

-- the event was refused, or no cause stood against it
pub split_option : (cause : Option EngineFault) (A : Type 0) (B : EngineFault → Type 0) → MatchOption cause A B → ((cause ≡ None) × A) ⊎ ((f : EngineFault) × B f)
split_option None A B acts = inl (refl, acts)
split_option (Some f) A B refused = inr (f, refused)

pub refused_or_acts : (cause : Option EngineFault) (A P : Type 0) (B : EngineFault → Type 0) → (A → P) → ((f : EngineFault) → B f → P) → MatchOption cause A B → P
refused_or_acts None A P B acts refused does = acts does
refused_or_acts (Some f) A P B acts refused does = refused f does

write_acts : (old new : Machine) (result : Result (Unit {0}) EngineFault) → WritesBlock old result new → SameText old new
write_acts old new (Ok done) acts = same_changed old new WritesLog writes_same acts
write_acts old new (Err fault) acts = same_changed old new Breaks breaks_same acts.1

pub log_write_same : (old new : Machine) (result : Result (Unit {0}) EngineFault) → LogWrites old result new → SameText old new
log_write_same old new result e = refused_or_acts (refusal old step.LogWrite) (WritesBlock old result new) (SameText old new) (λ fault. (result ≡ Err fault) × (new ≡ old)) (write_acts old new result) (λ f same. same_equal old new same.1) e

sync_acts : (old new : Machine) (result : Result (Unit {0}) EngineFault) → SyncsBlocks old result new → SameText old new
sync_acts old new (Ok done) acts = same_changed old new SyncsLog syncs_same acts
sync_acts old new (Err fault) acts = same_changed old new Breaks breaks_same acts.1

pub log_sync_same : (old new : Machine) (result : Result (Unit {0}) EngineFault) → LogSyncs old result new → SameText old new
log_sync_same old new result e = refused_or_acts (refusal old step.LogSync) (SyncsBlocks old result new) (SameText old new) (λ fault. (result ≡ Err fault) × (new ≡ old)) (sync_acts old new result) (λ f same. same_equal old new same.1) e

mark_acts : (old new : Machine) (result : Result (Unit {0}) EngineFault) → MovesMark old result new → SameText old new
mark_acts old new (Ok done) acts = same_changed old new WritesMark marks_same acts
mark_acts old new (Err fault) acts = same_changed old new BreaksMark breaks_mark_same acts.1

pub mark_write_same : (old new : Machine) (result : Result (Unit {0}) EngineFault) → MarkWrites old result new → SameText old new
mark_write_same old new result e = refused_or_acts (refusal old step.MarkWrite) (MovesMark old result new) (SameText old new) (λ fault. (result ≡ Err fault) × (new ≡ old)) (mark_acts old new result) (λ f same. same_equal old new same.1) e

control_acts : (old new : Machine) (result : Result Lsn EngineFault) → Acknowledges old result new → SameText old new
control_acts old new (Ok lsn) acts = same_changed old new (λ held after. SyncsControl held lsn after) (control_same lsn) acts
control_acts old new (Err fault) acts = same_changed old new Breaks breaks_same acts.1

pub ctl_sync_same : (old new : Machine) (result : Result Lsn EngineFault) → ControlSyncs old result new → SameText old new
ctl_sync_same old new result e = refused_or_acts (refusal old step.ControlSync) (Acknowledges old result new) (SameText old new) (λ fault. (result ≡ Err fault) × (new ≡ old)) (control_acts old new result) (λ f same. same_equal old new same.1) e

-- ---- the whole force

pub writes_text : (n : ℕ) (old new : Machine) → Writes n old new → SameText old new
writes_text zero old new w = same_equal old new w
writes_text (suc n) old new (mid, w, last) = same_trans old mid new (writes_text n old mid w) (log_write_same mid new (Ok tt) last)

-- so many blocks have been written so far
abbrev pub HasWritten : Machine → Machine → Type 0
HasWritten old new = (n : ℕ) × Writes n old new

pub has_written_none : (m : Machine) → HasWritten m m
has_written_none m = (0, refl)

pub has_written_more : (old mid new : Machine) → HasWritten old mid → LogWrites mid (Ok tt) new → HasWritten old new
has_written_more old mid new (n, writes) last = (suc n, (mid, writes, last))

pub has_written_text : (old new : Machine) → HasWritten old new → SameText old new
has_written_text old new (n, writes) = writes_text n old new writes

pub has_written_all : (old mid new : Machine) → HasWritten old mid → LogWrites mid (Err NothingToDo) new → WritesAll old new
has_written_all old mid new (n, writes) done = (n, mid, writes, done)

pub writes_all_text : (old new : Machine) → WritesAll old new → SameText old new
writes_all_text old new (n, mid, writes, done) = same_trans old mid new (writes_text n old mid writes) (log_write_same mid new (Err NothingToDo) done)

pub syncs_marked : (old synced new : Machine) → LogSyncs old (Ok tt) synced → MarkWrites synced (Ok tt) new → Syncs old new
syncs_marked old synced new sync mark = record { synced = synced; syncs = sync; answer = Ok tt; either = inl refl; marks = mark }

pub syncs_unmarked : (old synced new : Machine) → LogSyncs old (Ok tt) synced → MarkWrites synced (Err NothingToDo) new → Syncs old new
syncs_unmarked old synced new sync mark = record { synced = synced; syncs = sync; answer = Err NothingToDo; either = inr refl; marks = mark }

pub forces_text : (old new : Machine) (lsn : Lsn) → Forces old lsn new → SameText old new
forces_text old new lsn f =
    let first = writes_all_text old f.written f.writes in
    let second = same_trans f.written f.syncs.synced f.synced (log_sync_same f.written f.syncs.synced (Ok tt) f.syncs.syncs) (mark_write_same f.syncs.synced f.synced f.syncs.answer f.syncs.marks) in
    same_trans old f.synced new (same_trans old f.written f.synced first second) (ctl_sync_same f.synced new (Ok lsn) f.acknowledges)

pub write_refused : (cause : EngineFault) (old new : Machine) → LogWrites old (Err cause) new → cause ≢ NothingToDo → FailsToForce (Refused cause) new
write_refused cause old new e other = inr (cause, refl, (old, inl (e, other)))

pub sync_refused : (cause : EngineFault) (old new : Machine) → LogSyncs old (Err cause) new → FailsToForce (Refused cause) new
sync_refused cause old new e = inr (cause, refl, (old, inr (inl e)))

pub mark_refused : (cause : EngineFault) (old new : Machine) → MarkWrites old (Err cause) new → cause ≢ NothingToDo → FailsToForce (Refused cause) new
mark_refused cause old new e other = inr (cause, refl, (old, inr (inr (inl (e, other)))))

pub control_refused : (cause : EngineFault) (old new : Machine) → ControlSyncs old (Err cause) new → FailsToForce (Refused cause) new
control_refused cause old new e = inr (cause, refl, (old, inr (inr (inr e))))
