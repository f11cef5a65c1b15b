-- What each event keeps.
use Rattle.std.proofs.Common.{◌≡◌, ℕ, ◌+◌, ◌≤◌, true, false, List, [], Option, Some, None, Result}
use Rattle.std.proofs.Common.{Ok, Err, inl, inr, refl, sym, ap, subst, ◌∙◌, arith, append-nil}
use Rattle.std.specs.Prelude.{MatchOption, IsSomeAnd}
use Rattle.als_ckpt.specs.declared.control_state.ControlState.{ControlState}
use Rattle.als_ckpt.specs.Control.{Continues}
use Rattle.als_ckpt.proofs.StateLaws.{Contains-head}
use Rattle.als_record.specs.declared.lsn.Lsn.{Lsn}
use Rattle.als_store.specs.Stored.{Stored, acknowledged, newest}
use Rattle.als_store.specs.Takeover.{GoesOn}
use Rattle.als_ckpt.specs.Regions.{Begun}
use Rattle.als_store.specs.CheckpointEvents.{Publishes, BreaksPublish}
use Rattle.als_engine.specs.declared.fault.Fault.{Fault}
use Rattle.als_engine.specs.declared.fed.FeedFault.{FeedFault}
use Rattle.als_engine.specs.declared.step.Step.{Step}
use Rattle.als_engine.specs.declared.step.Step.TheVariants as step
use Rattle.als_engine.specs.Machine.{Machine, Keeps}
use Rattle.als_engine.specs.Telling.{IsGrown}
use Rattle.als_store.specs.Warm.{WasWarm}
use Rattle.als_engine.specs.Refusals.{refusal, Does}
use Rattle.als_engine.specs.Feeds.{Feeds}
use Rattle.als_engine.specs.Events.{Changes, DropsPartial, SyncsAllPages, WritesBlock, SyncsBlocks}
use Rattle.als_engine.specs.Events.{MovesMark, Acknowledges, Resyncs, PagesSync, LogWrites}
use Rattle.als_engine.specs.Events.{LogSyncs, MarkWrites, ControlSyncs, FlushesOne, WritesPage}
use Rattle.als_engine.specs.Checkpointing.{Begins, WritesNext, PublishesNext, CkptBegins}
use Rattle.als_engine.specs.Checkpointing.{CkptWrites, CkptPublishes}
use Rattle.als_engine.specs.Runs.{Steps, reply_of}
use Rattle.als_engine.specs.Readers.{ended_in}
use Rattle.als_engine.specs.Publishing.{PublishesEnded, PublishesView}
use Rattle.als_engine.specs.Readiness.{readied, BecomesReady, Readies}
use Rattle.als_engine.specs.Takeover.{SealsLog, Undoes, FinishesTakeover, Seals, UndoesOneOf}
use Rattle.als_engine.specs.Takeover.{Finishes, ResolvesIt, ResolvesOf, AdoptsIt, Adopts}
use Rattle.als_record.specs.declared.trans_id.TransId.{TransId}
use Rattle.als_store.specs.declared.decision.Decision.{Decision}
use Rattle.als_engine.proofs.ReaderLaws.{ended_in-few}
use Rattle.als_engine.proofs.RefusalLaws.{keeps_undone, keeps_resolved}
use Rattle.als_engine.proofs.KeepLaws.{goes_on_same, below_same, keeps_equal, IsReadAlike, read_alike}
use Rattle.als_engine.proofs.KeepLaws.{none_opened, IsAsMade, as_made}

-- an event that is refused changes nothing
keeps_does : {A : Type 0} (old new : Machine) (event : Step) (acts : Result A Fault → Machine
    → Type 0) (result : Result A Fault) → Does old event acts result new
    → (acts result new → Keeps old new) → Keeps old new
keeps_does {A} old new event acts result does k = go (refusal old event) does
  where
    go : (r : Option Fault)
        → MatchOption r (acts result new) (λ fault. (result ≡ Err fault) × (new ≡ old))
        → Keeps old new
    go None h = k h
    go (Some fault) h = keeps_equal old new h.1

-- the log and the synced control state are as they were, and a broken store stays broken
record Stays (old new : Stored) : Type 0 where
  log : new.log ≡ old.log
  control : new.control ≡ old.control
  broken : old.broken ≡ true → new.broken ≡ true
  made : IsAsMade old new

keeps_stays : (old new : Machine) (held : Stored) → new.held ≡ held → new.limit ≡ old.limit
    → IsReadAlike old new → Stays old.held held → Keeps old new
keeps_stays old new held e limit alike s =
    let control : new.held.control ≡ old.held.control =
    ap (λ (h : Stored). h.control) e ∙ s.control in
    record {
      acknowledged = omega (arith, ap (λ (c : ControlState). c.mark.0) control);
      more = [];
      log = ap (λ (h : Stored). h.log) e ∙ s.log ∙ sym (append-nil old.held.log);
      stopped = λ b. ap (λ (h : Stored). h.broken) e ∙ s.broken b;
      takeover = subst (λ (c : ControlState). GoesOn old.held.control c) (sym control)
          (goes_on_same old.held.control);
      pages = ap (λ (h : Stored). h.pages) e ∙ s.made.pages;
      limit = limit;
      warm = λ w. (as_made held new.held held e refl (λ x. x) (λ x. x)).warm (s.made.warm w);
      ready = λ r. ap (λ (h : Stored). h.recovering) e ∙ s.made.ready r;
      listed = λ l. alike.listed ∙ l;
      published = omega (arith, alike.published);
      shown = none_opened old new alike (ended_in old.held);
      below = below_same old.held.control new.held.control control;
    }

keeps_changes : (old new : Machine) (event : Stored → Stored → Type 0) → Changes old event new
    → ((held : Stored) → event old.held held → Stays old.held held) → Keeps old new
keeps_changes old new event c k =
    keeps_stays old new c.held (ap (λ (m : Machine). m.held) c.after)
    (ap (λ (m : Machine). m.limit) c.after) (read_alike old new _ c.after refl refl)
    (k c.held c.becomes)

same_stays : (old new : Stored) → new ≡ old → Stays old new
same_stays old new e =
    record {
      log = ap (λ (h : Stored). h.log) e;
      control =
          ap (λ (h : Stored). h.control) e;
      broken = λ b. ap (λ (h : Stored). h.broken) e
          ∙ b;
      made = as_made old new old e refl (λ w. w) (λ r. r);
    }

-- one of these was set, and nothing else that is kept
set_stays : (old new : Stored) → IsAsMade old new → new.log ≡ old.log → new.control ≡ old.control
    → (old.broken ≡ true → new.broken ≡ true) → Stays old new
set_stays old new made p q r = record { log = p; control = q; broken = r; made = made }

-- ---- the events

pub keeps_resync : (old new : Machine) (result : Result (Unit {0}) Fault) → Resyncs old result new
    → Keeps old new
keeps_resync old new result does =
    keeps_does old new step.Resync (DropsPartial old) result does (go result)
  where
    go : (r : Result (Unit {0}) Fault) → DropsPartial old r new → Keeps old new
    go (Ok done) e = keeps_stays old new old.held (ap (λ (m : Machine). m.held) e)
        (ap (λ (m : Machine). m.limit) e) (read_alike old new _ e refl refl)
        (same_stays old.held old.held refl)
    go (Err fault) e = absurd e

pub keeps_sync_pages : (old new : Machine) (result : Result (Unit {0}) Fault)
    → PagesSync old result new → Keeps old new
keeps_sync_pages old new result does =
    keeps_does old new step.SyncPages (SyncsAllPages old) result does (go result)
  where
    go : (r : Result (Unit {0}) Fault) → SyncsAllPages old r new → Keeps old new
    go (Ok done) c = keeps_changes old new _ c
        (λ held e. set_stays old.held held (as_made old.held held _ e.after refl (λ w. w) (λ r. r))
        (ap (λ (h : Stored). h.log) e.after) (ap (λ (h : Stored). h.control) e.after)
        (λ b. ap (λ (h : Stored). h.broken) e.after ∙ b))
    go (Err fault) c = keeps_changes old new _ c.1
        (λ held e. set_stays old.held held (as_made old.held held _ e.after refl (λ w. w) (λ r. r))
        (ap (λ (h : Stored). h.log) e.after) (ap (λ (h : Stored). h.control) e.after)
        (λ b. ap (λ (h : Stored). h.broken) e.after))

pub keeps_log_write : (old new : Machine) (result : Result (Unit {0}) Fault)
    → LogWrites old result new → Keeps old new
keeps_log_write old new result does =
    keeps_does old new step.LogWrite (WritesBlock old) result does (go result)
  where
    go : (r : Result (Unit {0}) Fault) → WritesBlock old r new → Keeps old new
    go (Ok done) c = keeps_changes old new _ c
        (λ held e. set_stays old.held held (as_made old.held held _ e.after refl (λ w. w) (λ r. r))
        (ap (λ (h : Stored). h.log) e.after) (ap (λ (h : Stored). h.control) e.after)
        (λ b. ap (λ (h : Stored). h.broken) e.after ∙ b))
    go (Err fault) c = keeps_changes old new _ c.1
        (λ held e. set_stays old.held held (as_made old.held held _ e.after refl (λ w. w) (λ r. r))
        (ap (λ (h : Stored). h.log) e.after) (ap (λ (h : Stored). h.control) e.after)
        (λ b. ap (λ (h : Stored). h.broken) e.after))

pub keeps_log_sync : (old new : Machine) (result : Result (Unit {0}) Fault)
    → LogSyncs old result new → Keeps old new
keeps_log_sync old new result does =
    keeps_does old new step.LogSync (SyncsBlocks old) result does (go result)
  where
    go : (r : Result (Unit {0}) Fault) → SyncsBlocks old r new → Keeps old new
    go (Ok done) c = keeps_changes old new _ c
        (λ held e. set_stays old.held held (as_made old.held held _ e.after refl (λ w. w) (λ r. r))
        (ap (λ (h : Stored). h.log) e.after) (ap (λ (h : Stored). h.control) e.after)
        (λ b. ap (λ (h : Stored). h.broken) e.after ∙ b))
    go (Err fault) c = keeps_changes old new _ c.1
        (λ held e. set_stays old.held held (as_made old.held held _ e.after refl (λ w. w) (λ r. r))
        (ap (λ (h : Stored). h.log) e.after) (ap (λ (h : Stored). h.control) e.after)
        (λ b. ap (λ (h : Stored). h.broken) e.after))

pub keeps_mark_write : (old new : Machine) (result : Result (Unit {0}) Fault)
    → MarkWrites old result new → Keeps old new
keeps_mark_write old new result does =
    keeps_does old new step.MarkWrite (MovesMark old) result does (go result)
  where
    go : (r : Result (Unit {0}) Fault) → MovesMark old r new → Keeps old new
    go (Ok done) c = keeps_changes old new _ c
        (λ held e. set_stays old.held held (as_made old.held held _ e.after refl (λ w. w) (λ r. r))
        (ap (λ (h : Stored). h.log) e.after) (ap (λ (h : Stored). h.control) e.after)
        (λ b. ap (λ (h : Stored). h.broken) e.after ∙ b))
    go (Err fault) c = keeps_changes old new _ c.1
        (λ held e. set_stays old.held held (as_made old.held held _ e.after refl (λ w. w) (λ r. r))
        (ap (λ (h : Stored). h.log) e.after) (ap (λ (h : Stored). h.control) e.after)
        (λ b. ap (λ (h : Stored). h.broken) e.after))

-- of the three parts that stay, by what one event says of the store
stays_after : (old new held : Stored) → new ≡ held → held.log ≡ old.log → held.control ≡ old.control
    → (old.broken ≡ true → held.broken ≡ true)
    → held.pages ≡ old.pages → (WasWarm old → WasWarm held)
    → (old.recovering ≡ false → held.recovering ≡ false) → Stays old new
stays_after old new held e log control broken pages warm ready =
    set_stays old new (as_made old new held e pages warm ready) (ap (λ (h : Stored). h.log) e ∙ log)
    (ap (λ (h : Stored). h.control) e ∙ control) (λ b. ap (λ (h : Stored). h.broken) e
    ∙ broken b)

pub keeps_ckpt_begin : (old new : Machine) (result : Result (Unit {0}) Fault)
    → CkptBegins old result new → Keeps old new
keeps_ckpt_begin old new result does =
    keeps_does old new step.CkptBegin (Begins old) result does (go result)
  where
    go : (r : Result (Unit {0}) Fault) → Begins old r new → Keeps old new
    go (Ok done) c = keeps_changes old new _ c
        (λ held e. stays_after old.held held _ e.after refl refl (λ b. b) refl (λ w. w) (λ r. r))
    go (Err fault) e = keeps_equal old new e.1

pub keeps_ckpt_block : (old new : Machine) (result : Result (Unit {0}) Fault)
    → CkptWrites old result new → Keeps old new
keeps_ckpt_block old new result does =
    keeps_does old new step.CkptBlock (WritesNext old) result does (go result)
  where
    go : (r : Result (Unit {0}) Fault) → WritesNext old r new → Keeps old new
    go (Ok done) c = keeps_changes old new _ c
        (λ held e. stays_after old.held held _ e.after refl refl (λ b. b) refl (λ w. w) (λ r. r))
    go (Err fault) c = keeps_changes old new _ c.1
        (λ held e. stays_after old.held held _ e.after refl refl (λ b. refl) refl (λ w. w) (λ r. r))

published_stays : (old new : Stored) (b : Option Begun) → IsSomeAnd b (λ x. Publishes old x new)
    → Stays old new
published_stays old new None h = absurd h
published_stays old new (Some b) h =
    stays_after old new _ h.after refl refl (λ b. b) refl (λ w. w) (λ r. r)

torn_stays : (old new : Stored) (b : Option Begun) → IsSomeAnd b (λ x. BreaksPublish old x new)
    → Stays old new
torn_stays old new None h = absurd h
torn_stays old new (Some b) h =
    stays_after old new _ h.after refl refl (λ b. refl) refl (λ w. w) (λ r. r)

pub keeps_ckpt_publish : (old new : Machine) (result : Result (Unit {0}) Fault)
    → CkptPublishes old result new → Keeps old new
keeps_ckpt_publish old new result does =
    keeps_does old new step.CkptPublish (PublishesNext old) result does (go result)
  where
    go : (r : Result (Unit {0}) Fault) → PublishesNext old r new → Keeps old new
    go (Ok done) c = keeps_changes old new _ c
        (λ held e. published_stays old.held held old.held.begun e)
    go (Err fault) c = keeps_changes old new _ c.1
        (λ held e. torn_stays old.held held old.held.begun e)

-- what is published grows, and the store stays as it was but for its recovery
keeps_more : (old new : Machine) (held : Stored) → new.held ≡ held → new.limit ≡ old.limit
    → new.listed ≡ true → old.published ≤ new.published → ended_in old.held ≤ new.published
    → Stays old.held held → Keeps old new
keeps_more old new held e limit listed more all s =
    let k : Keeps old (record old { held = new.held; limit = new.limit }) =
    keeps_stays old (record old { held = new.held; limit = new.limit }) held e limit
    (record { listed = refl; published = refl }) s in
    record {
      acknowledged = k.acknowledged;
      more = k.more;
      log = k.log;
      stopped =
          k.stopped;
      takeover = k.takeover;
      pages = k.pages;
      limit = k.limit;
      warm =
          k.warm;
      ready = k.ready;
      listed = λ l. listed;
      published =
          more;
      shown = λ f t. all;
      below = k.below;
    }

pub keeps_publish_view : (old new : Machine) (result : Result (Unit {0}) Fault)
    → PublishesView old result new → Keeps old new
keeps_publish_view old new result does =
    keeps_does old new step.PublishView (PublishesEnded old) result does (go result)
  where
    go : (r : Result (Unit {0}) Fault) → PublishesEnded old r new → Keeps old new
    go (Ok done) e = keeps_more old new old.held (ap (λ (m : Machine). m.held) e.1)
        (ap (λ (m : Machine). m.limit) e.1) (ap (λ (m : Machine). m.listed) e.1)
        (omega (arith, e.0, ap (λ (m : Machine). m.published) e.1))
        (omega (arith, ap (λ (m : Machine). m.published) e.1))
        (same_stays old.held old.held refl)
    go (Err fault) e = keeps_equal old new e.1

pub keeps_ready : (old new : Machine) (result : Result (Unit {0}) Fault)
    → old.published ≤ new.published → Readies old result new → Keeps old new
keeps_ready old new result grows does =
    keeps_does old new step.Ready (BecomesReady old) result does (go result)
  where
    go : (r : Result (Unit {0}) Fault) → BecomesReady old r new → Keeps old new
    go (Ok done) e =
        let held = (readied old).held in
        keeps_more old new held (ap (λ (m : Machine). m.held) e) (ap (λ (m : Machine). m.limit) e)
        (ap (λ (m : Machine). m.listed) e)
        grows (omega (arith, ended_in-few old.held, ap (λ (m : Machine). m.published) e))
        (stays_after old.held held held refl refl refl (λ b. b) refl (λ w. w) (λ r. refl))
    go (Err fault) e = keeps_equal old new e.1

pub keeps_seal : (old new : Machine) (result : Result (Unit {0}) Fault) → Seals old result new
    → Keeps old new
keeps_seal old new result does = keeps_does old new step.Seal (SealsLog old) result does (go result)
  where
    go : (r : Result (Unit {0}) Fault) → SealsLog old r new → Keeps old new
    go (Ok done) s = keeps_stays old new s.held (ap (λ (m : Machine). m.held) s.after)
        (ap (λ (m : Machine). m.limit) s.after) (read_alike old new _ s.after refl refl)
        (set_stays old.held s.held (as_made old.held s.held _ s.seals.after refl (λ w. w) (λ r. r))
        (ap (λ (h : Stored). h.log) s.seals.after) (ap (λ (h : Stored). h.control) s.seals.after)
        (λ b. ap (λ (h : Stored). h.broken) s.seals.after ∙ b))
    go (Err fault) c = keeps_changes old new _ c.1
        (λ held e. set_stays old.held held (as_made old.held held _ e.after refl (λ w. w) (λ r. r))
        (ap (λ (h : Stored). h.log) e.after) (ap (λ (h : Stored). h.control) e.after)
        (λ b. ap (λ (h : Stored). h.broken) e.after))

pub keeps_adopt : (old new : Machine) (history : List ℕ) (result : Result (Unit {0}) Fault)
    → Adopts old history result new → Keeps old new
keeps_adopt old new history result does =
    keeps_does old new (step.Adopt history) (AdoptsIt history old) result does (go result)
  where
    go : (r : Result (Unit {0}) Fault) → AdoptsIt history old r new → Keeps old new
    go (Ok done) s = keeps_stays old new s.held (ap (λ (m : Machine). m.held) s.after)
        (ap (λ (m : Machine). m.limit) s.after) (read_alike old new _ s.after refl refl)
        (set_stays old.held s.held (as_made old.held s.held _ s.adopts.after refl (λ w. w) (λ r. r))
        (ap (λ (h : Stored). h.log) s.adopts.after) (ap (λ (h : Stored). h.control) s.adopts.after)
        (λ b. ap (λ (h : Stored). h.broken) s.adopts.after ∙ b))
    go (Err fault) c = keeps_changes old new _ c.1
        (λ held e. set_stays old.held held (as_made old.held held _ e.after refl (λ w. w) (λ r. r))
        (ap (λ (h : Stored). h.log) e.after) (ap (λ (h : Stored). h.control) e.after)
        (λ b. ap (λ (h : Stored). h.broken) e.after))

pub keeps_acknowledged : (old new : Machine) (lsn : Lsn)
    → acknowledged old.held ≤ (newest old.held).mark.0 → GoesOn old.held.control new.held.control
    → Continues old.held.control (newest old.held) → ControlSyncs old (Ok lsn) new → Keeps old new
keeps_acknowledged old new lsn marks goes_on continues does =
    keeps_does old new step.ControlSync (Acknowledges old) (Ok lsn) does go
  where
    go : Acknowledges old (Ok lsn) new → Keeps old new
    go c =
        let h = ap (λ (m : Machine). m.held) c.after ∙ c.becomes.after in
        let alike = read_alike old new _ c.after refl refl in
        record {
          acknowledged = omega (arith, marks, ap (λ (x : Stored). acknowledged x) h);
          more = [];
          log = ap (λ (x : Stored). x.log) h ∙ sym (append-nil old.held.log);
          stopped = λ s. ap (λ (x : Stored). x.broken) h ∙ s;
          takeover = goes_on;
          pages = ap (λ (x : Stored). x.pages) h;
          limit = ap (λ (m : Machine). m.limit) c.after;
          warm = λ w. subst (λ (x : Stored). WasWarm x) (sym h) w;
          ready = λ r. ap (λ (x : Stored). x.recovering) h ∙ r;
          listed = λ l. alike.listed ∙ l;
          published = omega (arith, alike.published);
          shown = none_opened old new alike (ended_in old.held);
          below = (subst (λ (c : ControlState). Continues old.held.control c)
              (sym (ap (λ (x : Stored). x.control) h)) continues).below;
        }

pub keeps_not_acknowledged : (old new : Machine) (fault : Fault) → ControlSyncs old (Err fault) new
    → Keeps old new
keeps_not_acknowledged old new fault does =
    keeps_does old new step.ControlSync (Acknowledges old) (Err fault) does
    (λ c. keeps_changes old new _ c.1 (λ held e.
    set_stays old.held held (as_made old.held held _ e.after refl (λ w. w) (λ r. r))
    (ap (λ (h : Stored). h.log) e.after) (ap (λ (h : Stored). h.control) e.after)
    (λ b. ap (λ (h : Stored). h.broken) e.after)))

pub keeps_not_undone : (old new : Machine) (fault : Fault) → UndoesOneOf old (Err fault) new
    → Keeps old new
keeps_not_undone old new fault does =
    keeps_does old new step.UndoOne (Undoes old) (Err fault) does go
  where
    go : Undoes old (Err fault) new → Keeps old new
    go (inl same) = keeps_equal old new same.1
    go (inr c) = keeps_changes old new _ c.1
        (λ held e. set_stays old.held held (as_made old.held held _ e.after refl (λ w. w) (λ r. r))
        (ap (λ (h : Stored). h.log) e.after) (ap (λ (h : Stored). h.control) e.after)
        (λ b. ap (λ (h : Stored). h.broken) e.after ∙ b))

pub keeps_finish : (old new : Machine) (result : Result (Unit {0}) Fault) → Finishes old result new
    → Keeps old new
keeps_finish old new result does =
    keeps_does old new step.Finish (FinishesTakeover old) result does (go result)
  where
    go : (r : Result (Unit {0}) Fault) → FinishesTakeover old r new → Keeps old new
    go (Ok done) c = keeps_changes old new _ c
        (λ held e. set_stays old.held held (as_made old.held held _ e.after refl (λ w. w) (λ r. r))
        (ap (λ (h : Stored). h.log) e.after) (ap (λ (h : Stored). h.control) e.after)
        (λ b. ap (λ (h : Stored). h.broken) e.after ∙ b))
    go (Err fault) c = keeps_changes old new _ c.1
        (λ held e. set_stays old.held held (as_made old.held held _ e.after refl (λ w. w) (λ r. r))
        (ap (λ (h : Stored). h.log) e.after) (ap (λ (h : Stored). h.control) e.after)
        (λ b. ap (λ (h : Stored). h.broken) e.after))

pub keeps_ctl_sync : (old new : Machine) (answer : Result Lsn Fault)
    → acknowledged old.held ≤ (newest old.held).mark.0 → GoesOn old.held.control new.held.control
    → IsGrown old → ControlSyncs old answer new → Keeps old new
keeps_ctl_sync old new (Ok lsn) marks goes_on grown does =
    keeps_acknowledged old new lsn marks goes_on
    (grown old.held.control (Contains-head old.held.control old.held.since)) does
keeps_ctl_sync old new (Err fault) marks goes_on grown does =
    keeps_not_acknowledged old new fault does

pub keeps_undo_one : (old new : Machine) (answer : Result Lsn Fault) → UndoesOneOf old answer new
    → Keeps old new
keeps_undo_one old new (Ok lsn) does = keeps_undone old new lsn does
keeps_undo_one old new (Err fault) does = keeps_not_undone old new fault does

pub keeps_resolve : (old new : Machine) (trans : TransId) (verdict : Decision)
    (answer : Result Lsn Fault) → ResolvesOf old trans verdict answer new → Keeps old new
keeps_resolve old new trans verdict answer does =
    keeps_does old new (step.Resolve trans verdict) (ResolvesIt trans verdict old) answer does
    (go answer)
  where
    go : (a : Result Lsn Fault) → ResolvesIt trans verdict old a new → Keeps old new
    go (Ok lsn) r = keeps_resolved old new trans verdict lsn r
    go (Err fault) (inl same) = keeps_equal old new same.1
    go (Err fault) (inr c) = keeps_changes old new _ c.1
        (λ held e. set_stays old.held held (as_made old.held held _ e.after refl (λ w. w) (λ r. r))
        (ap (λ (h : Stored). h.log) e.after) (ap (λ (h : Stored). h.control) e.after)
        (λ b. ap (λ (h : Stored). h.broken) e.after ∙ b))

-- a refused feed calls no device
pub attempts_refused : (old new : Machine) (piece : List ℕ) (cause : Option Fault)
    (refused : FeedFault) → Feeds old piece cause (Err refused) new
    → new.held.attempts ≤ old.held.attempts + 1
attempts_refused old new piece None refused front =
    omega (arith, ap (λ (m : Machine). m.held.attempts) front.after)
attempts_refused old new piece (Some fault) refused same =
    omega (arith, ap (λ (m : Machine). m.held.attempts) same.1)

-- ---- a reply, and how often a device is called

pub begins_step : (old new : Machine) (result : Result (Unit {0}) Fault) → CkptBegins old result new
    → Steps old step.CkptBegin (reply_of result) new
begins_step old new (Ok done) does = does
begins_step old new (Err fault) does = does

pub attempts_finish : (old new : Machine) (result : Result (Unit {0}) Fault)
    → Finishes old result new → new.held.attempts ≤ old.held.attempts + 1
attempts_finish old new result does = go (refusal old step.Finish) result does
  where
    go : (r : Option Fault) (answer : Result (Unit {0}) Fault)
        → MatchOption r (FinishesTakeover old answer new) (λ fault. (answer ≡ Err fault)
        × (new ≡ old)) → new.held.attempts ≤ old.held.attempts + 1
    go None (Ok done) c =
        omega (
          arith,
          ap (λ (m : Machine). m.held.attempts) c.after,
          ap (λ (h : Stored). h.attempts)
              c.becomes.after,
        )
    go None (Err fault) c =
        omega (
          arith,
          ap (λ (m : Machine). m.held.attempts) c.1.after,
          ap
              (λ (h : Stored). h.attempts) c.1.becomes.after,
        )
    go (Some cause) answer same = omega (arith, ap (λ (m : Machine). m.held.attempts) same.1)

pub flushes_step : (old new : Machine) (page : ℕ) (result : Result (Unit {0}) Fault)
    → FlushesOne old page result new → Steps old (step.Flush page) (reply_of result) new
flushes_step old new page (Ok done) does = does
flushes_step old new page (Err fault) does = does

pub finishes_step : (old new : Machine) (result : Result (Unit {0}) Fault)
    → Finishes old result new → Steps old step.Finish (reply_of result) new
finishes_step old new (Ok done) does = does
finishes_step old new (Err fault) does = does

pub attempts_flush : (old new : Machine) (page : ℕ) (result : Result (Unit {0}) Fault)
    → FlushesOne old page result new → new.held.attempts ≤ old.held.attempts + 1
attempts_flush old new page result does = go (refusal old (step.Flush page)) result does
  where
    go : (r : Option Fault) (answer : Result (Unit {0}) Fault)
        → MatchOption r (WritesPage old page answer new) (λ fault. (answer ≡ Err fault)
        × (new ≡ old)) → new.held.attempts ≤ old.held.attempts + 1
    go None (Ok done) c = omega (arith, ap (λ (m : Machine). m.held.attempts) c.after, ap (λ (h : Stored). h.attempts) c.becomes.after)
    go None (Err fault) c = omega (arith, ap (λ (m : Machine). m.held.attempts) c.1.after, ap (λ (h : Stored). h.attempts) c.1.becomes.after)
    go (Some cause) answer same = omega (arith, ap (λ (m : Machine). m.held.attempts) same.1)

pub attempts_begin : (old new : Machine) (result : Result (Unit {0}) Fault)
    → CkptBegins old result new → new.held.attempts ≤ old.held.attempts + 1
attempts_begin old new result does = go (refusal old step.CkptBegin) result does
  where
    go : (r : Option Fault) (answer : Result (Unit {0}) Fault)
        → MatchOption r (Begins old answer new) (λ fault. (answer ≡ Err fault)
        × (new ≡ old)) → new.held.attempts ≤ old.held.attempts + 1
    go None (Ok done) c = omega (arith, ap (λ (m : Machine). m.held.attempts) c.after, ap (λ (h : Stored). h.attempts) c.becomes.after)
    go None (Err fault) c = omega (arith, ap (λ (m : Machine). m.held.attempts) c.1)
    go (Some cause) answer same = omega (arith, ap (λ (m : Machine). m.held.attempts) same.1)

pub attempts_seal : (old new : Machine) (result : Result (Unit {0}) Fault)
    → Seals old result new → new.held.attempts ≤ old.held.attempts + 1
attempts_seal old new result does = go (refusal old step.Seal) result does
  where
    go : (r : Option Fault) (answer : Result (Unit {0}) Fault)
        → MatchOption r (SealsLog old answer new) (λ fault. (answer ≡ Err fault)
        × (new ≡ old)) → new.held.attempts ≤ old.held.attempts + 1
    go None (Ok done) c = omega (arith, ap (λ (m : Machine). m.held.attempts) c.after, ap (λ (h : Stored). h.attempts) c.seals.after)
    go None (Err fault) c = omega (arith, ap (λ (m : Machine). m.held.attempts) c.1.after, ap (λ (h : Stored). h.attempts) c.1.becomes.after)
    go (Some cause) answer same = omega (arith, ap (λ (m : Machine). m.held.attempts) same.1)

pub attempts_adopt : (old new : Machine) (history : List ℕ) (result : Result (Unit {0}) Fault)
    → Adopts old history result new → new.held.attempts ≤ old.held.attempts + 1
attempts_adopt old new history result does = go (refusal old (step.Adopt history)) result does
  where
    go : (r : Option Fault) (answer : Result (Unit {0}) Fault)
        → MatchOption r (AdoptsIt history old answer new) (λ fault. (answer ≡ Err fault)
        × (new ≡ old)) → new.held.attempts ≤ old.held.attempts + 1
    go None (Ok done) c = omega (arith, ap (λ (m : Machine). m.held.attempts) c.after, ap (λ (h : Stored). h.attempts) c.adopts.after)
    go None (Err fault) c = omega (arith, ap (λ (m : Machine). m.held.attempts) c.1.after, ap (λ (h : Stored). h.attempts) c.1.becomes.after)
    go (Some cause) answer same = omega (arith, ap (λ (m : Machine). m.held.attempts) same.1)

pub adopts_step : (old new : Machine) (history : List ℕ) (result : Result (Unit {0}) Fault)
    → Adopts old history result new → Steps old (step.Adopt history) (reply_of result) new
adopts_step old new history (Ok done) does = does
adopts_step old new history (Err fault) does = does

pub seals_step : (old new : Machine) (result : Result (Unit {0}) Fault) → Seals old result new
    → Steps old step.Seal (reply_of result) new
seals_step old new (Ok done) does = does
seals_step old new (Err fault) does = does

pub attempts_ready : (old new : Machine) (result : Result (Unit {0}) Fault)
    → Readies old result new → new.held.attempts ≤ old.held.attempts + 1
attempts_ready old new result does = go (refusal old step.Ready) result does
  where
    go : (r : Option Fault) (answer : Result (Unit {0}) Fault)
        → MatchOption r (BecomesReady old answer new) (λ fault. (answer ≡ Err fault)
        × (new ≡ old)) → new.held.attempts ≤ old.held.attempts + 1
    go None (Ok done) c = omega (arith, ap (λ (m : Machine). m.held.attempts) c)
    go None (Err fault) c = omega (arith, ap (λ (m : Machine). m.held.attempts) c.1)
    go (Some cause) answer same = omega (arith, ap (λ (m : Machine). m.held.attempts) same.1)

pub attempts_resync : (old new : Machine) (result : Result (Unit {0}) Fault)
    → Resyncs old result new → new.held.attempts ≤ old.held.attempts + 1
attempts_resync old new result does = go (refusal old step.Resync) result does
  where
    go : (r : Option Fault) (answer : Result (Unit {0}) Fault)
        → MatchOption r (DropsPartial old answer new) (λ fault. (answer ≡ Err fault)
        × (new ≡ old)) → new.held.attempts ≤ old.held.attempts + 1
    go None (Ok done) c = omega (arith, ap (λ (m : Machine). m.held.attempts) c)
    go None (Err fault) c = absurd c
    go (Some cause) answer same = omega (arith, ap (λ (m : Machine). m.held.attempts) same.1)

pub attempts_log_write : (old new : Machine) (result : Result (Unit {0}) Fault)
    → LogWrites old result new → new.held.attempts ≤ old.held.attempts + 1
attempts_log_write old new result does = go (refusal old step.LogWrite) result does
  where
    go : (r : Option Fault) (answer : Result (Unit {0}) Fault)
        → MatchOption r (WritesBlock old answer new) (λ fault. (answer ≡ Err fault)
        × (new ≡ old)) → new.held.attempts ≤ old.held.attempts + 1
    go None (Ok done) c = omega (arith, ap (λ (m : Machine). m.held.attempts) c.after, ap (λ (h : Stored). h.attempts) c.becomes.after)
    go None (Err fault) c = omega (arith, ap (λ (m : Machine). m.held.attempts) c.1.after, ap (λ (h : Stored). h.attempts) c.1.becomes.after)
    go (Some cause) answer same = omega (arith, ap (λ (m : Machine). m.held.attempts) same.1)

pub attempts_not_undone : (old new : Machine) (fault : Fault) → UndoesOneOf old (Err fault) new
    → new.held.attempts ≤ old.held.attempts + 1
attempts_not_undone old new fault does = go (refusal old step.UndoOne) does
  where
    go : (r : Option Fault)
        → MatchOption r (Undoes old (Err fault) new)
        (λ cause. (◌≡◌ {A = Result Lsn Fault} (Err fault) (Err cause)) × (new ≡ old))
        → new.held.attempts ≤ old.held.attempts + 1
    go None (inl h) = omega (arith, ap (λ (m : Machine). m.held.attempts) h.1)
    go None (inr c) = omega (arith, ap (λ (m : Machine). m.held.attempts) c.1.after, ap (λ (h : Stored). h.attempts) c.1.becomes.after)
    go (Some cause) h = omega (arith, ap (λ (m : Machine). m.held.attempts) h.1)

pub attempts_resolve : (old new : Machine) (trans : TransId) (verdict : Decision)
    (result : Result Lsn Fault) → ResolvesOf old trans verdict result new
    → new.held.attempts ≤ old.held.attempts + 1
attempts_resolve old new trans verdict result does =
    go (refusal old (step.Resolve trans verdict)) result does
  where
    go : (r : Option Fault) (answer : Result Lsn Fault)
        → MatchOption r (ResolvesIt trans verdict old answer new) (λ fault. (answer ≡ Err fault)
        × (new ≡ old)) → new.held.attempts ≤ old.held.attempts + 1
    go None (Ok lsn) r = omega (arith, ap (λ (m : Machine). m.held.attempts) r.after, ap (λ (h : Stored). h.attempts) r.resolves.after)
    go None (Err fault) (inl h) = omega (arith, ap (λ (m : Machine). m.held.attempts) h.1)
    go None (Err fault) (inr c) = omega (arith, ap (λ (m : Machine). m.held.attempts) c.1.after, ap (λ (h : Stored). h.attempts) c.1.becomes.after)
    go (Some cause) answer same = omega (arith, ap (λ (m : Machine). m.held.attempts) same.1)

pub attempts_mark_write : (old new : Machine) (result : Result (Unit {0}) Fault)
    → MarkWrites old result new → new.held.attempts ≤ old.held.attempts + 1
attempts_mark_write old new result does = go (refusal old step.MarkWrite) result does
  where
    go : (r : Option Fault) (answer : Result (Unit {0}) Fault)
        → MatchOption r (MovesMark old answer new) (λ fault. (answer ≡ Err fault)
        × (new ≡ old)) → new.held.attempts ≤ old.held.attempts + 1
    go None (Ok done) c = omega (arith, ap (λ (m : Machine). m.held.attempts) c.after, ap (λ (h : Stored). h.attempts) c.becomes.after)
    go None (Err fault) c = omega (arith, ap (λ (m : Machine). m.held.attempts) c.1.after, ap (λ (h : Stored). h.attempts) c.1.becomes.after)
    go (Some cause) answer same = omega (arith, ap (λ (m : Machine). m.held.attempts) same.1)

pub publishes_step : (old new : Machine) (result : Result (Unit {0}) Fault)
    → CkptPublishes old result new → Steps old step.CkptPublish (reply_of result) new
publishes_step old new (Ok done) does = does
publishes_step old new (Err fault) does = does

attempts_of_publish : (old new : Stored) (b : Option Begun)
    → IsSomeAnd b (λ x. Publishes old x new) → new.attempts ≡ old.attempts + 1
attempts_of_publish old new None h = absurd h
attempts_of_publish old new (Some b) h = ap (λ (s : Stored). s.attempts) h.after

attempts_of_torn : (old new : Stored) (b : Option Begun)
    → IsSomeAnd b (λ x. BreaksPublish old x new) → new.attempts ≡ old.attempts + 1
attempts_of_torn old new None h = absurd h
attempts_of_torn old new (Some b) h = ap (λ (s : Stored). s.attempts) h.after

pub attempts_publish : (old new : Machine) (result : Result (Unit {0}) Fault)
    → CkptPublishes old result new → new.held.attempts ≤ old.held.attempts + 1
attempts_publish old new result does = go (refusal old step.CkptPublish) result does
  where
    go : (r : Option Fault) (answer : Result (Unit {0}) Fault)
        → MatchOption r (PublishesNext old answer new) (λ fault. (answer ≡ Err fault)
        × (new ≡ old)) → new.held.attempts ≤ old.held.attempts + 1
    go None (Ok done) c = omega (arith, ap (λ (m : Machine). m.held.attempts) c.after, attempts_of_publish old.held c.held old.held.begun c.becomes)
    go None (Err fault) c = omega (arith, ap (λ (m : Machine). m.held.attempts) c.1.after, attempts_of_torn old.held c.1.held old.held.begun c.1.becomes)
    go (Some cause) answer same = omega (arith, ap (λ (m : Machine). m.held.attempts) same.1)
