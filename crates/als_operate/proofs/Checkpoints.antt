-- What a checkpoint publishes: the log and the pages as they were when it was begun.
use Rattle.std.proofs.Common.{◌≡◌, ℕ, List, [], ◌∷◌, ◌++◌, Option, Some, None, Result, Ok, Err, refl, sym, ap, subst, ◌∙◌, inl, inr}
use Rattle.std.specs.Prelude.{IsSomeAnd, MatchOption}
use Rattle.als_record.specs.declared.lsn.Lsn.{Lsn}
use Rattle.als_ckpt_codec.specs.declared.checkpoint.Checkpoint.{Checkpoint}
use Rattle.als_ckpt.specs.declared.region.Region.{Region}
use Rattle.als_ckpt.specs.declared.region.Region.TheVariants.{First, Second}
use Rattle.als_ckpt.specs.declared.control_state.ControlState.{ControlState}
use Rattle.als_ckpt.specs.Control.{last_state}
use Rattle.als_ckpt.specs.Regions.{Begun, Held, held_in, held_at, with_held, block_written, blocks_synced}
use Rattle.als_ckpt.proofs.StateLaws.{last_state-push}
use Rattle.als_store.specs.Stored.{Stored, newest}
use Rattle.als_store.specs.Events.{Breaks, SyncsControl}
use Rattle.als_store.specs.CheckpointEvents.{BeginsCheckpoint, WritesBlock, Publishes, with_checkpoint}
use Rattle.als_store.specs.Checkpoints.{checkpoint_of}
use Rattle.als_engine.specs.declared.fault.Fault.{Fault}
use Rattle.als_engine.specs.declared.step.Step.TheVariants as step
use Rattle.als_engine.specs.Machine.{Machine}
use Rattle.als_engine.specs.Refusals.{refusal}
use Rattle.als_engine.specs.Events.{Changes, Acknowledges, ControlSyncs}
use Rattle.als_engine.specs.Checkpointing.{Begins, WritesNext, PublishesNext, CkptBegins, CkptWrites, CkptPublishes}
use Rattle.als_operate.specs.Upkeep.{IsCheckpointed}
use Rattle.als_operate.specs.Building.{IsOf, Builds}

-- an event that was answered Ok was not refused
acted : {X : Type 0} (cause : Option Fault) (A P : Type 0) (answer : X) (result : Result X Fault) (same : Type 0) → result ≡ Ok answer → (A → P) → MatchOption cause A (λ f. (result ≡ Err f) × same) → P
acted None A P answer result same ok acts e = acts e
acted (Some f) A P answer result same ok acts e = cc (sym ok ∙ e.0)

changed : (old new : Machine) (event : Stored → Stored → Type 0) → Changes old event new → event old.held new.held
changed old new event c = subst (λ (h : Stored). event old.held h) (sym (ap (λ (m : Machine). m.held) c.after)) c.becomes

begin_done : (old new : Machine) → CkptBegins old (Ok tt) new → BeginsCheckpoint old.held new.held
begin_done old new e = acted (refusal old step.CkptBegin) (Begins old (Ok tt) new) (BeginsCheckpoint old.held new.held) tt (Ok tt) (new ≡ old) refl (changed old new BeginsCheckpoint) e

block_done : (old new : Machine) → CkptWrites old (Ok tt) new → WritesBlock old.held new.held
block_done old new e = acted (refusal old step.CkptBlock) (WritesNext old (Ok tt) new) (WritesBlock old.held new.held) tt (Ok tt) (new ≡ old) refl (changed old new WritesBlock) e

publish_done : (old new : Machine) → CkptPublishes old (Ok tt) new → IsSomeAnd old.held.begun (λ b. Publishes old.held b new.held)
publish_done old new e =
    acted (refusal old step.CkptPublish) (PublishesNext old (Ok tt) new) (IsSomeAnd old.held.begun (λ b. Publishes old.held b new.held)) tt (Ok tt) (new ≡ old) refl (changed old new (λ held after. IsSomeAnd held.begun (λ b. Publishes held b after))) e

control_done : (old new : Machine) (lsn : Lsn) → ControlSyncs old (Ok lsn) new → SyncsControl old.held lsn new.held
control_done old new lsn e =
    acted (refusal old step.ControlSync) (Acknowledges old (Ok lsn) new) (SyncsControl old.held lsn new.held) lsn (Ok lsn) (new ≡ old) refl (changed old new (λ held after. SyncsControl held lsn after)) e

pub builds_none : (m : Machine) → Builds m m
builds_none m = record { log = refl; pool = refl; begun = λ c b. b }

pub builds_more : (a b c : Machine) → Builds a b → Builds b c → Builds a c
builds_more a b c p q = record { log = q.log ∙ p.log; pool = q.pool ∙ p.pool; begun = λ k is. q.begun k (p.begun k is) }

-- the same of stores
pub record BuildsIn (old new : Stored) : Type 0 where
  pub log : new.log ≡ old.log
  pub pool : new.pool ≡ old.pool
  pub begun : (c : Checkpoint) → IsOf c old.begun → IsOf c new.begun

builds_in : (old new : Machine) → BuildsIn old.held new.held → Builds old new
builds_in old new b = record { log = b.log; pool = b.pool; begun = b.begun }

of_written : (c : Checkpoint) (begun : Option Begun) → IsOf c begun → IsOf c (block_written begun)
of_written c None is = absurd is
of_written c (Some b) is = is

of_synced : (c : Checkpoint) (begun : Option Begun) → IsOf c begun → IsOf c (blocks_synced begun)
of_synced c None is = absurd is
of_synced c (Some b) is = is

block_builds : (old new : Stored) → WritesBlock old new → BuildsIn old new
block_builds old new w = subst (λ (s : Stored). BuildsIn old s) (sym w.after) (record { log = refl; pool = refl; begun = λ c is. of_written c old.begun is })

control_builds : (lsn : Lsn) (old new : Stored) → SyncsControl old lsn new → BuildsIn old new
control_builds lsn old new s = subst (λ (h : Stored). BuildsIn old h) (sym s.after) (record { log = refl; pool = refl; begun = λ c is. of_synced c old.begun is })

pub block_builds_on : (old new : Machine) → CkptWrites old (Ok tt) new → Builds old new
block_builds_on old new e = builds_in old new (block_builds old.held new.held (block_done old new e))

-- there was no block left
no_block : (cause : Option Fault) (A : Type 0) (result : Result (Unit {0}) Fault) (old new : Machine) → (A → Builds old new) → MatchOption cause A (λ f. (result ≡ Err f) × (new ≡ old)) → Builds old new
no_block None A result old new acts e = acts e
no_block (Some f) A result old new acts e = subst (λ (m : Machine). Builds old m) (sym e.1) (builds_none old)

breaks_builds : (old new : Stored) → Breaks old new → BuildsIn old new
breaks_builds old new b = subst (λ (s : Stored). BuildsIn old s) (sym b.after) (record { log = refl; pool = refl; begun = λ c is. is })

pub no_block_builds : (fault : Fault) (old new : Machine) → CkptWrites old (Err fault) new → Builds old new
no_block_builds fault old new e =
    no_block (refusal old step.CkptBlock) (WritesNext old (Err fault) new) (Err fault) old new (λ acts. builds_in old new (breaks_builds old.held new.held (changed old new Breaks acts.1))) e

-- ---- the whole

held_with : (held : Held) (region : Region) (c : Option Checkpoint) → held_in (with_held held region c) region ≡ c
held_with held First c = refl
held_with held Second c = refl

-- the newest control state publishes this checkpoint of the log and the pages
pub record IsPublishing (old new : Stored) (c : Checkpoint) : Type 0 where
  pub log : new.log ≡ old.log
  pub pool : new.pool ≡ old.pool
  pub held : held_at new.held (newest new).published ≡ Some c

begun_of : (old new : Stored) → BeginsCheckpoint old new → (new.log ≡ old.log) × (new.pool ≡ old.pool) × IsOf (checkpoint_of old.log old.pool) new.begun
begun_of old new b = subst (λ (s : Stored). (s.log ≡ old.log) × (s.pool ≡ old.pool) × IsOf (checkpoint_of old.log old.pool) s.begun) (sym b.after) (refl, refl, refl)

published_of : (begun : Option Begun) (c : Checkpoint) (old new : Stored) → IsOf c begun → IsSomeAnd begun (λ b. Publishes old b new) → IsPublishing old new c
published_of None c old new is p = absurd p
published_of (Some b) c old new is p =
    let last : newest new ≡ with_checkpoint old b = ap newest p.after ∙ last_state-push old.control old.since (with_checkpoint old b) in
    record {
      log = ap (λ (s : Stored). s.log) p.after;
      pool = ap (λ (s : Stored). s.pool) p.after;
      held = ap (λ (s : ControlState). held_at new.held s.published) last ∙ ap (λ (s : Stored). held_at s.held (Some b.region)) p.after ∙ held_with old.held b.region (Some b.checkpoint) ∙ ap Some is;
    }

-- then that is synced
synced_of : (c : Checkpoint) (lsn : Lsn) (old mid new : Stored) → IsPublishing old mid c → SyncsControl mid lsn new → (new.log ≡ old.log) × (new.pool ≡ old.pool) × (held_at new.held new.control.published ≡ Some c) × (new.since ≡ [])
synced_of c lsn old mid new p s =
    subst (λ (h : Stored). (h.log ≡ old.log) × (h.pool ≡ old.pool) × (held_at h.held h.control.published ≡ Some c) × (h.since ≡ [])) (sym s.after) (p.log, p.pool, p.held, refl)

pub taken : (old begun written synced published new : Machine) (first second : Lsn) → CkptBegins old (Ok tt) begun → Builds begun written → ControlSyncs written (Ok first) synced → CkptPublishes synced (Ok tt) published → ControlSyncs published (Ok second) new → IsCheckpointed new
taken old begun written synced published new first second begins builds syncs publishes ends =
    let c = checkpoint_of old.held.log old.held.pool in
    let at_begin = begun_of old.held begun.held (begin_done old begun begins) in
    let on : Builds begun synced = builds_more begun written synced builds (builds_in written synced (control_builds first written.held synced.held (control_done written synced first syncs))) in
    let out = published_of synced.held.begun c synced.held published.held (on.begun c at_begin.2) (publish_done synced published publishes) in
    let at_end = synced_of c second synced.held published.held new.held out (control_done published new second ends) in
    let log : new.held.log ≡ old.held.log = at_end.0 ∙ on.log ∙ at_begin.0 in
    let pool : new.held.pool ≡ old.held.pool = at_end.1 ∙ on.pool ∙ at_begin.1 in
    record {
      published = at_end.2 ∙ ap (λ l. Some (checkpoint_of l old.held.pool)) (sym log) ∙ ap (λ p. Some (checkpoint_of new.held.log p)) (sym pool);
      synced = at_end.3;
    }
