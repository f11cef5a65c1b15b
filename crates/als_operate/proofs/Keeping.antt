-- What the upkeep of a standby leaves of its log: all of it.
use Rattle.std.proofs.Common.{◌≡◌, ℕ, Option, Some, None, Result, Ok, Err, refl, sym, ap, subst, ◌∙◌, inl, inr}
use Rattle.std.specs.Prelude.{IsSomeAnd}
use Rattle.als_ckpt.specs.declared.control_state.ControlState.{ControlState}
use Rattle.als_ckpt.specs.Regions.{Begun}
use Rattle.als_ckpt.proofs.StateLaws.{last_state-push}
use Rattle.als_store.specs.Stored.{Stored}
use Rattle.als_store.specs.Takeover.{history_of}
use Rattle.als_store.specs.Events.{Breaks, FlushesPage, BreaksFlush, SyncsDevice, BreaksSync}
use Rattle.als_store.specs.CheckpointEvents.{BeginsCheckpoint, WritesBlock, Publishes, BreaksPublish, with_checkpoint}
use Rattle.als_engine.specs.declared.fault.Fault.{Fault}
use Rattle.als_engine.specs.declared.step.Step.TheVariants as step
use Rattle.als_engine.specs.Machine.{Machine}
use Rattle.als_engine.specs.Refusals.{refusal}
use Rattle.als_engine.specs.Events.{WritesPage, SyncsAllPages, FlushesOne, PagesSync}
use Rattle.als_engine.specs.Checkpointing.{Begins, WritesNext, PublishesNext, CkptBegins, CkptWrites, CkptPublishes}
use Rattle.als_engine.specs.Publishing.{PublishesEnded, PublishesView}
use Rattle.als_drive.specs.Driving.{OnlyRedoes}
use Rattle.als_ship.specs.Follows.{SameText}
use Rattle.als_ship.proofs.LogForcing.{SameLog, refused_or_acts, same_equal, same_changed, by_equation, breaks_same}

pub redoes_same : (old new : Machine) → OnlyRedoes old new → SameText old new
redoes_same old new r = record {
  pages = ap (λ (m : Machine). m.held.pages) r;
  log = ap (λ (m : Machine). m.held.log) r;
  partial = ap (λ (m : Machine). m.partial) r;
  history = ap (λ (m : Machine). history_of m.held) r;
  stopped = λ s. ap (λ (m : Machine). m.held.broken) r ∙ s;
}

-- ---- the view

publishes_acts : (old new : Machine) (result : Result (Unit {0}) Fault) → PublishesEnded old result new → SameText old new
publishes_acts old new (Ok done) acts = record {
  pages = ap (λ (m : Machine). m.held.pages) acts.1;
  log = ap (λ (m : Machine). m.held.log) acts.1;
  partial = ap (λ (m : Machine). m.partial) acts.1;
  history = ap (λ (m : Machine). history_of m.held) acts.1;
  stopped = λ s. ap (λ (m : Machine). m.held.broken) acts.1 ∙ s;
}
publishes_acts old new (Err fault) acts = same_equal old new acts.1

pub publish_same : (old new : Machine) (result : Result (Unit {0}) Fault) → PublishesView old result new → SameText old new
publish_same old new result e = refused_or_acts (refusal old step.PublishView) (PublishesEnded old result new) (SameText old new) (λ f. (result ≡ Err f) × (new ≡ old)) (publishes_acts old new result) (λ f same. same_equal old new same.1) e

-- ---- the pages

flushes_same : (page : ℕ) (old new : Stored) → FlushesPage old page new → SameLog old new
flushes_same page old new f = by_equation old new _ f.after (refl, refl, refl, λ b. b)

breaks_flush_same : (page : ℕ) (old new : Stored) → BreaksFlush old page new → SameLog old new
breaks_flush_same page old new f = by_equation old new _ f.after (refl, refl, refl, λ b. refl)

flush_acts : (page : ℕ) (old new : Machine) (result : Result (Unit {0}) Fault) → WritesPage old page result new → SameText old new
flush_acts page old new (Ok done) acts = same_changed old new (λ held after. FlushesPage held page after) (flushes_same page) acts
flush_acts page old new (Err fault) acts = same_changed old new (λ held after. BreaksFlush held page after) (breaks_flush_same page) acts.1

pub flush_same : (page : ℕ) (old new : Machine) (result : Result (Unit {0}) Fault) → FlushesOne old page result new → SameText old new
flush_same page old new result e = refused_or_acts (refusal old (step.Flush page)) (WritesPage old page result new) (SameText old new) (λ f. (result ≡ Err f) × (new ≡ old)) (flush_acts page old new result) (λ f same. same_equal old new same.1) e

syncs_device_same : (old new : Stored) → SyncsDevice old new → SameLog old new
syncs_device_same old new s = by_equation old new _ s.after (refl, refl, refl, λ b. b)

breaks_sync_same : (old new : Stored) → BreaksSync old new → SameLog old new
breaks_sync_same old new s = by_equation old new _ s.after (refl, refl, refl, λ b. refl)

sync_acts : (old new : Machine) (result : Result (Unit {0}) Fault) → SyncsAllPages old result new → SameText old new
sync_acts old new (Ok done) acts = same_changed old new SyncsDevice syncs_device_same acts
sync_acts old new (Err fault) acts = same_changed old new BreaksSync breaks_sync_same acts.1

pub sync_same : (old new : Machine) (result : Result (Unit {0}) Fault) → PagesSync old result new → SameText old new
sync_same old new result e = refused_or_acts (refusal old step.SyncPages) (SyncsAllPages old result new) (SameText old new) (λ f. (result ≡ Err f) × (new ≡ old)) (sync_acts old new result) (λ f same. same_equal old new same.1) e

-- ---- checkpoints

begins_same : (old new : Stored) → BeginsCheckpoint old new → SameLog old new
begins_same old new b = by_equation old new _ b.after (refl, refl, refl, λ b. b)

begin_acts : (old new : Machine) (result : Result (Unit {0}) Fault) → Begins old result new → SameText old new
begin_acts old new (Ok done) acts = same_changed old new BeginsCheckpoint begins_same acts
begin_acts old new (Err fault) acts = same_equal old new acts.1

pub ckpt_begin_same : (old new : Machine) (result : Result (Unit {0}) Fault) → CkptBegins old result new → SameText old new
ckpt_begin_same old new result e = refused_or_acts (refusal old step.CkptBegin) (Begins old result new) (SameText old new) (λ f. (result ≡ Err f) × (new ≡ old)) (begin_acts old new result) (λ f same. same_equal old new same.1) e

writes_block_same : (old new : Stored) → WritesBlock old new → SameLog old new
writes_block_same old new w = by_equation old new _ w.after (refl, refl, refl, λ b. b)

block_acts : (old new : Machine) (result : Result (Unit {0}) Fault) → WritesNext old result new → SameText old new
block_acts old new (Ok done) acts = same_changed old new WritesBlock writes_block_same acts
block_acts old new (Err fault) acts = same_changed old new Breaks breaks_same acts.1

pub ckpt_block_same : (old new : Machine) (result : Result (Unit {0}) Fault) → CkptWrites old result new → SameText old new
ckpt_block_same old new result e = refused_or_acts (refusal old step.CkptBlock) (WritesNext old result new) (SameText old new) (λ f. (result ≡ Err f) × (new ≡ old)) (block_acts old new result) (λ f same. same_equal old new same.1) e

publishes_same : (begun : Option Begun) (old new : Stored) → IsSomeAnd begun (λ b. Publishes old b new) → SameLog old new
publishes_same None old new p = absurd p
publishes_same (Some b) old new p = by_equation old new _ p.after (refl, refl, ap (λ (c : ControlState). c.history) (last_state-push old.control old.since (with_checkpoint old b)), λ s. s)

breaks_publish_same : (begun : Option Begun) (old new : Stored) → IsSomeAnd begun (λ b. BreaksPublish old b new) → SameLog old new
breaks_publish_same None old new p = absurd p
breaks_publish_same (Some b) old new p = by_equation old new _ p.after (refl, refl, ap (λ (c : ControlState). c.history) (last_state-push old.control old.since (with_checkpoint old b)), λ s. refl)

publish_acts : (old new : Machine) (result : Result (Unit {0}) Fault) → PublishesNext old result new → SameText old new
publish_acts old new (Ok done) acts = same_changed old new (λ held after. IsSomeAnd held.begun (λ b. Publishes held b after)) (λ held after. publishes_same held.begun held after) acts
publish_acts old new (Err fault) acts = same_changed old new (λ held after. IsSomeAnd held.begun (λ b. BreaksPublish held b after)) (λ held after. breaks_publish_same held.begun held after) acts.1

pub ckpt_publish_same : (old new : Machine) (result : Result (Unit {0}) Fault) → CkptPublishes old result new → SameText old new
ckpt_publish_same old new result e = refused_or_acts (refusal old step.CkptPublish) (PublishesNext old result new) (SameText old new) (λ f. (result ≡ Err f) × (new ≡ old)) (publish_acts old new result) (λ f same. same_equal old new same.1) e
