-- What each event of a leader leaves of the machine's log.
use Rattle.std.proofs.Common.{◌≡◌, ◌⊎◌, ℕ, ◌≤◌, List, [], ◌++◌, Result, Ok, Err, OnOk, OnErr, refl, sym, ap, subst, ◌∙◌, inl, inr, arith, append-nil, append_assoc}
use Rattle.std.specs.Prelude.{IsSomeAnd}
use Rattle.als_record.specs.declared.lsn.Lsn.{Lsn}
use Rattle.als_record.specs.declared.record.Record.{Record}
use Rattle.als_record.specs.LogText.{end_of}
use Rattle.als_record.specs.Commits.{commits_of}
use Rattle.als_store.specs.Stored.{Stored}
use Rattle.als_store.specs.Events.{Breaks, WritesLog, SyncsLog, WritesMark, BreaksMark, SyncsControl, FlushesPage, BreaksFlush, SyncsDevice, BreaksSync}
use Rattle.als_store.specs.CheckpointEvents.{BeginsCheckpoint, WritesBlock, Publishes as PublishesCheckpoint, BreaksPublish}
use Rattle.als_engine.specs.declared.fault.Fault.{Fault}
use Rattle.als_engine.specs.declared.step.Step.TheVariants as step
use Rattle.als_engine.specs.declared.status.Status.{Status}
use Rattle.als_engine.specs.Machine.{Machine, Keeps, acknowledged_in}
use Rattle.als_engine.specs.Refusals.{refusal}
use Rattle.als_engine.specs.Events.{Changes, WritesPage, SyncsAllPages, WritesBlock as WritesLogBlock, SyncsBlocks, MovesMark, Acknowledges}
use Rattle.als_engine.specs.Events.{FlushesOne, PagesSync, LogWrites, LogSyncs, MarkWrites, ControlSyncs}
use Rattle.als_engine.specs.Checkpointing.{Begins, WritesNext, PublishesNext, CkptBegins, CkptWrites, CkptPublishes}
use Rattle.als_engine.specs.Publishing.{PublishesEnded, PublishesView}
use Rattle.als_engine.specs.Telling.{Tells}
use Rattle.als_drive.specs.Driving.{OnlyRedoes}
use Rattle.als_ship.specs.Follows.{SameText}
use Rattle.als_ship.proofs.LogForcing.{refused_or_acts, log_write_same, log_sync_same, mark_write_same, ctl_sync_same}
use Rattle.als_operate.proofs.Keeping.{publish_same, flush_same, sync_same, ckpt_begin_same, ckpt_block_same, ckpt_publish_same}
use Rattle.als_writer.specs.declared.refusal.Refusal.{Refusal}
use Rattle.als_writer.specs.Changes.{AreBounds}
use Rattle.als_writer.specs.Tidying.{Tidied, NotTidied}
use Rattle.als_lead.specs.Going.{Grows, Stays, Publishes, Tidies}
use Rattle.als_lead.specs.Groups.{IsStableTo}

-- ---- the log grows

pub grows_refl : (m : Machine) → Grows m m
grows_refl m = record {
  acknowledged = omega arith;
  more = [];
  log = sym (append-nil m.held.log);
  pages = refl;
  stopped = λ s. s;
  ready = λ r. r;
  listed = λ l. l;
  published = omega arith;
}

pub grows_trans : (a b c : Machine) → Grows a b → Grows b c → Grows a c
grows_trans a b c p q = record {
  acknowledged = omega (arith, p.acknowledged, q.acknowledged);
  more = p.more ++ q.more;
  log = q.log ∙ ap (λ (l : List Record). l ++ q.more) p.log ∙ append_assoc a.held.log p.more q.more;
  pages = q.pages ∙ p.pages;
  stopped = λ s. q.stopped (p.stopped s);
  ready = λ r. q.ready (p.ready r);
  listed = λ l. q.listed (p.listed l);
  published = omega (arith, p.published, q.published);
}

pub grows_keeps : (old new : Machine) → Keeps old new → Grows old new
grows_keeps old new k = record {
  acknowledged = k.acknowledged;
  more = k.more;
  log = k.log;
  pages = k.pages;
  stopped = k.stopped;
  ready = k.ready;
  listed = k.listed;
  published = k.published;
}

-- ---- readers see what they saw

-- what changes what is held shows nothing
shows_changed : (old new : Machine) (event : Stored → Stored → Type 0) → Changes old event new → new.published ≡ old.published
shows_changed old new event c = ap (λ (m : Machine). m.published) c.after

shows_same : (old new : Machine) → new ≡ old → new.published ≡ old.published
shows_same old new e = ap (λ (m : Machine). m.published) e

log_write_acts : (old new : Machine) (result : Result (Unit {0}) Fault) → WritesLogBlock old result new → new.published ≡ old.published
log_write_acts old new (Ok done) acts = shows_changed old new WritesLog acts
log_write_acts old new (Err fault) acts = shows_changed old new Breaks acts.1

log_write_shows : (old new : Machine) (result : Result (Unit {0}) Fault) → LogWrites old result new → new.published ≡ old.published
log_write_shows old new result e = refused_or_acts (refusal old step.LogWrite) (WritesLogBlock old result new) (new.published ≡ old.published) (λ f. (result ≡ Err f) × (new ≡ old)) (log_write_acts old new result) (λ f same. shows_same old new same.1) e

log_sync_acts : (old new : Machine) (result : Result (Unit {0}) Fault) → SyncsBlocks old result new → new.published ≡ old.published
log_sync_acts old new (Ok done) acts = shows_changed old new SyncsLog acts
log_sync_acts old new (Err fault) acts = shows_changed old new Breaks acts.1

log_sync_shows : (old new : Machine) (result : Result (Unit {0}) Fault) → LogSyncs old result new → new.published ≡ old.published
log_sync_shows old new result e = refused_or_acts (refusal old step.LogSync) (SyncsBlocks old result new) (new.published ≡ old.published) (λ f. (result ≡ Err f) × (new ≡ old)) (log_sync_acts old new result) (λ f same. shows_same old new same.1) e

mark_write_acts : (old new : Machine) (result : Result (Unit {0}) Fault) → MovesMark old result new → new.published ≡ old.published
mark_write_acts old new (Ok done) acts = shows_changed old new WritesMark acts
mark_write_acts old new (Err fault) acts = shows_changed old new BreaksMark acts.1

mark_write_shows : (old new : Machine) (result : Result (Unit {0}) Fault) → MarkWrites old result new → new.published ≡ old.published
mark_write_shows old new result e = refused_or_acts (refusal old step.MarkWrite) (MovesMark old result new) (new.published ≡ old.published) (λ f. (result ≡ Err f) × (new ≡ old)) (mark_write_acts old new result) (λ f same. shows_same old new same.1) e

ctl_sync_acts : (old new : Machine) (result : Result Lsn Fault) → Acknowledges old result new → new.published ≡ old.published
ctl_sync_acts old new (Ok done) acts = shows_changed old new (λ held after. SyncsControl held done after) acts
ctl_sync_acts old new (Err fault) acts = shows_changed old new Breaks acts.1

ctl_sync_shows : (old new : Machine) (result : Result Lsn Fault) → ControlSyncs old result new → new.published ≡ old.published
ctl_sync_shows old new result e = refused_or_acts (refusal old step.ControlSync) (Acknowledges old result new) (new.published ≡ old.published) (λ f. (result ≡ Err f) × (new ≡ old)) (ctl_sync_acts old new result) (λ f same. shows_same old new same.1) e

flush_acts : (page : ℕ) (old new : Machine) (result : Result (Unit {0}) Fault) → WritesPage old page result new → new.published ≡ old.published
flush_acts page old new (Ok done) acts = shows_changed old new (λ held after. FlushesPage held page after) acts
flush_acts page old new (Err fault) acts = shows_changed old new (λ held after. BreaksFlush held page after) acts.1

flush_shows : (page : ℕ) (old new : Machine) (result : Result (Unit {0}) Fault) → FlushesOne old page result new → new.published ≡ old.published
flush_shows page old new result e = refused_or_acts (refusal old (step.Flush page)) (WritesPage old page result new) (new.published ≡ old.published) (λ f. (result ≡ Err f) × (new ≡ old)) (flush_acts page old new result) (λ f same. shows_same old new same.1) e

sync_pages_acts : (old new : Machine) (result : Result (Unit {0}) Fault) → SyncsAllPages old result new → new.published ≡ old.published
sync_pages_acts old new (Ok done) acts = shows_changed old new SyncsDevice acts
sync_pages_acts old new (Err fault) acts = shows_changed old new BreaksSync acts.1

sync_pages_shows : (old new : Machine) (result : Result (Unit {0}) Fault) → PagesSync old result new → new.published ≡ old.published
sync_pages_shows old new result e = refused_or_acts (refusal old step.SyncPages) (SyncsAllPages old result new) (new.published ≡ old.published) (λ f. (result ≡ Err f) × (new ≡ old)) (sync_pages_acts old new result) (λ f same. shows_same old new same.1) e

ckpt_begin_acts : (old new : Machine) (result : Result (Unit {0}) Fault) → Begins old result new → new.published ≡ old.published
ckpt_begin_acts old new (Ok done) acts = shows_changed old new BeginsCheckpoint acts
ckpt_begin_acts old new (Err fault) acts = shows_same old new acts.1

ckpt_begin_shows : (old new : Machine) (result : Result (Unit {0}) Fault) → CkptBegins old result new → new.published ≡ old.published
ckpt_begin_shows old new result e = refused_or_acts (refusal old step.CkptBegin) (Begins old result new) (new.published ≡ old.published) (λ f. (result ≡ Err f) × (new ≡ old)) (ckpt_begin_acts old new result) (λ f same. shows_same old new same.1) e

ckpt_block_acts : (old new : Machine) (result : Result (Unit {0}) Fault) → WritesNext old result new → new.published ≡ old.published
ckpt_block_acts old new (Ok done) acts = shows_changed old new WritesBlock acts
ckpt_block_acts old new (Err fault) acts = shows_changed old new Breaks acts.1

ckpt_block_shows : (old new : Machine) (result : Result (Unit {0}) Fault) → CkptWrites old result new → new.published ≡ old.published
ckpt_block_shows old new result e = refused_or_acts (refusal old step.CkptBlock) (WritesNext old result new) (new.published ≡ old.published) (λ f. (result ≡ Err f) × (new ≡ old)) (ckpt_block_acts old new result) (λ f same. shows_same old new same.1) e

ckpt_publish_acts : (old new : Machine) (result : Result (Unit {0}) Fault) → PublishesNext old result new → new.published ≡ old.published
ckpt_publish_acts old new (Ok done) acts = shows_changed old new (λ held after. IsSomeAnd held.begun (λ b. PublishesCheckpoint held b after)) acts
ckpt_publish_acts old new (Err fault) acts = shows_changed old new (λ held after. IsSomeAnd held.begun (λ b. BreaksPublish held b after)) acts.1

ckpt_publish_shows : (old new : Machine) (result : Result (Unit {0}) Fault) → CkptPublishes old result new → new.published ≡ old.published
ckpt_publish_shows old new result e = refused_or_acts (refusal old step.CkptPublish) (PublishesNext old result new) (new.published ≡ old.published) (λ f. (result ≡ Err f) × (new ≡ old)) (ckpt_publish_acts old new result) (λ f same. shows_same old new same.1) e

-- ---- the log stays

pub stays_refl : (m : Machine) → Stays m m
stays_refl m = record { grows = grows_refl m; same = refl; published = refl }

pub stays_trans : (a b c : Machine) → Stays a b → Stays b c → Stays a c
stays_trans a b c p q = record { grows = grows_trans a b c p.grows q.grows; same = q.same ∙ p.same; published = q.published ∙ p.published }

stays_by : (old new : Machine) → SameText old new → Keeps old new → new.published ≡ old.published → Stays old new
stays_by old new same keeps shows = record { grows = grows_keeps old new keeps; same = same.log; published = shows }

pub stays_log_write : (old new : Machine) (result : Result (Unit {0}) Fault) → LogWrites old result new → Keeps old new → Stays old new
stays_log_write old new result e k = stays_by old new (log_write_same old new result e) k (log_write_shows old new result e)

pub stays_log_sync : (old new : Machine) (result : Result (Unit {0}) Fault) → LogSyncs old result new → Keeps old new → Stays old new
stays_log_sync old new result e k = stays_by old new (log_sync_same old new result e) k (log_sync_shows old new result e)

pub stays_mark_write : (old new : Machine) (result : Result (Unit {0}) Fault) → MarkWrites old result new → Keeps old new → Stays old new
stays_mark_write old new result e k = stays_by old new (mark_write_same old new result e) k (mark_write_shows old new result e)

pub stays_ctl_sync : (old new : Machine) (result : Result Lsn Fault) → ControlSyncs old result new → Keeps old new → Stays old new
stays_ctl_sync old new result e k = stays_by old new (ctl_sync_same old new result e) k (ctl_sync_shows old new result e)

pub stays_flush : (page : ℕ) (old new : Machine) (result : Result (Unit {0}) Fault) → FlushesOne old page result new → Keeps old new → Stays old new
stays_flush page old new result e k = stays_by old new (flush_same page old new result e) k (flush_shows page old new result e)

pub stays_sync_pages : (old new : Machine) (result : Result (Unit {0}) Fault) → PagesSync old result new → Keeps old new → Stays old new
stays_sync_pages old new result e k = stays_by old new (sync_same old new result e) k (sync_pages_shows old new result e)

pub stays_ckpt_begin : (old new : Machine) (result : Result (Unit {0}) Fault) → CkptBegins old result new → Keeps old new → Stays old new
stays_ckpt_begin old new result e k = stays_by old new (ckpt_begin_same old new result e) k (ckpt_begin_shows old new result e)

pub stays_ckpt_block : (old new : Machine) (result : Result (Unit {0}) Fault) → CkptWrites old result new → Keeps old new → Stays old new
stays_ckpt_block old new result e k = stays_by old new (ckpt_block_same old new result e) k (ckpt_block_shows old new result e)

pub stays_ckpt_publish : (old new : Machine) (result : Result (Unit {0}) Fault) → CkptPublishes old result new → Keeps old new → Stays old new
stays_ckpt_publish old new result e k = stays_by old new (ckpt_publish_same old new result e) k (ckpt_publish_shows old new result e)

grows_redoes : (old new : Machine) → OnlyRedoes old new → Grows old new
grows_redoes old new r = record {
  acknowledged = omega (arith, ap (λ (m : Machine). m.held.control.mark.0) r);
  more = [];
  log = ap (λ (m : Machine). m.held.log) r ∙ sym (append-nil old.held.log);
  pages = ap (λ (m : Machine). m.held.pages) r;
  stopped = λ s. ap (λ (m : Machine). m.held.broken) r ∙ s;
  ready = λ s. ap (λ (m : Machine). m.held.recovering) r ∙ s;
  listed = λ l. ap (λ (m : Machine). m.listed) r ∙ l;
  published = omega (arith, ap (λ (m : Machine). m.published) r);
}

pub stays_redoes : (old new : Machine) → OnlyRedoes old new → Stays old new
stays_redoes old new r = record { grows = grows_redoes old new r; same = ap (λ (m : Machine). m.held.log) r; published = ap (λ (m : Machine). m.published) r }

-- ---- readers see what is acknowledged

ended_shown : (old new : Machine) (result : Result (Unit {0}) Fault) → PublishesEnded old result new → (new.published ≡ old.published) ⊎ (new.published ≡ acknowledged_in old)
ended_shown old new (Ok done) acts = inr (ap (λ (m : Machine). m.published) acts.1)
ended_shown old new (Err fault) acts = inl (shows_same old new acts.1)

view_shown : (old new : Machine) (result : Result (Unit {0}) Fault) → PublishesView old result new → (new.published ≡ old.published) ⊎ (new.published ≡ acknowledged_in old)
view_shown old new result e = refused_or_acts (refusal old step.PublishView) (PublishesEnded old result new) ((new.published ≡ old.published) ⊎ (new.published ≡ acknowledged_in old)) (λ f. (result ≡ Err f) × (new ≡ old)) (ended_shown old new result) (λ f same. inl (shows_same old new same.1)) e

pub publishes_view : (old new : Machine) (result : Result (Unit {0}) Fault) → PublishesView old result new → Keeps old new → Publishes old new
publishes_view old new result e k = record { grows = grows_keeps old new k; same = (publish_same old new result e).log; published = view_shown old new result e }

-- ---- the log acknowledged

pub stable_to : (m : Machine) (status : Status) → Tells m status → status.end.0 ≤ status.acknowledged.0 → IsStableTo m status.acknowledged
stable_to m status t le = record { whole = omega (arith, le, t.end); reaches = omega (arith, t.acknowledged) }

pub stable_on : (old new : Machine) (lsn : Lsn) → Grows old new → new.held.log ≡ old.held.log → IsStableTo old lsn → IsStableTo new lsn
stable_on old new lsn g same t = record {
  whole = subst (λ (l : List Record). end_of l ≤ lsn.0) (sym same) t.whole;
  reaches = omega (arith, g.acknowledged, t.reaches);
}

-- ---- no commit comes

pub tidies_refl : (m : Machine) → Tidies m m
tidies_refl m = record { grows = grows_refl m; commits = refl; published = refl }

pub tidies_done : (old new : Machine) → Tidied old new → Keeps old new → Tidies old new
tidies_done old new t k = record { grows = grows_keeps old new k; commits = t.commits; published = ap (λ (m : Machine). m.published) t.after }

not_tidied_shows : (old new : Machine) → NotTidied old new → new.published ≡ old.published
not_tidied_shows old new t = elim t.front [
  | inl e ↦ ap (λ (m : Machine). m.published) e
  | inr e ↦ ap (λ (m : Machine). m.published) e
]

pub tidies_refused : (old new : Machine) → NotTidied old new → Keeps old new → Tidies old new
tidies_refused old new t k = record { grows = grows_keeps old new k; commits = t.commits; published = not_tidied_shows old new t }

pub tidies_by : (alone : Type 0) (old new : Machine) (result : Result (Unit {0}) Refusal) → OnOk result (alone → Tidied old new) → OnErr result (alone → NotTidied old new) → (alone → Keeps old new) → alone → Tidies old new
tidies_by alone old new (Ok done) t n k a = tidies_done old new (t a) (k a)
tidies_by alone old new (Err refusal) t n k a = tidies_refused old new (n a) (k a)

pub tidies_stays : (old new : Machine) → Stays old new → Tidies old new
tidies_stays old new s = record { grows = s.grows; commits = ap (λ (l : List Record). commits_of l) s.same; published = s.published }

pub tidies_trans : (a b c : Machine) → Tidies a b → Tidies b c → Tidies a c
tidies_trans a b c p q = record { grows = grows_trans a b c p.grows q.grows; commits = q.commits ∙ p.commits; published = q.published ∙ p.published }

-- ---- what bounds the last commits

pub same_bounds : (old new : Machine) (bounds : List ℕ) → Grows old new → new.held.log ≡ old.held.log → AreBounds bounds old.held.pages old.held.log → AreBounds bounds new.held.pages new.held.log
same_bounds old new bounds g same a =
    let at : AreBounds bounds new.held.pages old.held.log = subst (λ (pages : ℕ). AreBounds bounds pages old.held.log) (sym g.pages) a in
    subst (λ (l : List Record). AreBounds bounds new.held.pages l) (sym same) at

pub stays_bounds : (old new : Machine) (bounds : List ℕ) → Stays old new → AreBounds bounds old.held.pages old.held.log → AreBounds bounds new.held.pages new.held.log
stays_bounds old new bounds s a = same_bounds old new bounds s.grows s.same a
