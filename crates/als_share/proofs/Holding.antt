-- How many records each event holds, once the log is sealed: `undo_one` and `resolve` one, the
-- others none.
use Rattle.std.proofs.Common.{◌≡◌, ℕ, ◌+◌, false, List, [], ◌∷◌, ◌++◌, Option, Some, None, Result}
use Rattle.std.proofs.Common.{Ok, Err, inl, inr, refl, ap, subst, ◌∙◌, arith, length}
use Rattle.std.specs.Borrow.{Bor}
use Rattle.std.specs.Prelude.{MatchOption, IsSomeAnd}
use Rattle.std.proofs.lemmas.Bool.{cases_Bool}
use Rattle.std.proofs.lemmas.List.{length-append}
use Rattle.als_record.specs.declared.lsn.Lsn.{Lsn}
use Rattle.als_record.specs.declared.record.Record.{Record}
use Rattle.als_record.specs.declared.trans_id.TransId.{TransId}
use Rattle.als_record.specs.Tail.{decision, tail_of}
use Rattle.als_lease.specs.Lease.{Leased}
use Rattle.als_ckpt.specs.Regions.{Begun}
use Rattle.als_store.specs.declared.fault.Fault.{Fault as StoreFault}
use Rattle.als_store.specs.declared.fault.Fault.TheVariants as store_fault
use Rattle.als_store.specs.CheckpointEvents.{Publishes, BreaksPublish}
use Rattle.als_store.specs.Events.{ReadsInVain}
use Rattle.als_store.specs.Stored.{Stored}
use Rattle.als_store.specs.Takeover.{is_following, decision_body}
use Rattle.als_store.specs.declared.decision.Decision.{Decision}
use Rattle.als_engine.specs.declared.fault.Fault.{Fault}
use Rattle.als_engine.specs.declared.fault.Fault.TheVariants.{Stopped, Recovering, Sealed}
use Rattle.als_engine.specs.declared.fed.FeedFault.{FeedFault}
use Rattle.als_engine.specs.declared.fed.Fed.{Fed}
use Rattle.als_engine.specs.declared.not_given.NotGiven.{NotGiven}
use Rattle.als_engine.specs.declared.step.Step.{Step}
use Rattle.als_engine.specs.declared.step.Step.TheVariants as step
use Rattle.als_engine.specs.declared.step.Reply.{Reply}
use Rattle.als_engine.specs.declared.step.Reply.TheVariants as reply
use Rattle.als_engine.specs.Checkpointing.{Begins, WritesNext, PublishesNext}
use Rattle.als_engine.specs.Events.{Changes, DropsPartial, WritesPage, SyncsAllPages}
use Rattle.als_engine.specs.Events.{WritesBlock, SyncsBlocks, MovesMark, Acknowledges}
use Rattle.als_engine.specs.Feeds.{Feeds}
use Rattle.als_engine.specs.Leases.{LendsPageOf, TakesLease, EndsLease, handed_back, Lends, Gives}
use Rattle.als_engine.specs.Machine.{Machine}
use Rattle.als_engine.specs.Publishing.{PublishesEnded}
use Rattle.als_engine.specs.Readiness.{BecomesReady}
use Rattle.als_engine.specs.Refusals.{refusal, feed_refusal, Does, first_of, lend_causes, give_causes}
use Rattle.als_engine.specs.Runs.{Steps}
use Rattle.als_engine.specs.Takeover.{AdoptsIt, SealsLog, Undoes, FinishesTakeover, ResolvesIt}
use Rattle.als_share.specs.Undoing.{undone_by, resolved_by}

-- ---- a machine whose log is another one's, and a store's

log_of : Machine → List Record
log_of m = m.held.log

pub record IsSameLog (old new : Machine) : Type 0 where
  pub log : new.held.log ≡ old.held.log

unchanged : (old new : Machine) → new ≡ old → IsSameLog old new
unchanged old new e = record { log = ap (λ (m : Machine). m.held.log) e }

-- an event that is refused changes nothing
does : {A : Type 0} (old new : Machine) (event : Step) (acts : Result A Fault → Machine → Type 0)
    (result : Result A Fault) → Does old event acts result new
    → (acts result new → IsSameLog old new) → IsSameLog old new
does {A} old new event acts result d k = go (refusal old event) d
  where
    go : (r : Option Fault)
        → MatchOption r (acts result new) (λ fault. (result ≡ Err fault) × (new ≡ old))
        → IsSameLog old new
    go None h = k h
    go (Some fault) h = unchanged old new h.1

-- what is held changes, and not its log
changes : (old new : Machine) (event : Stored → Stored → Type 0) → Changes old event new
    → ((held : Stored) → event old.held held → held.log ≡ old.held.log) → IsSameLog old new
changes old new event c k =
    record { log = ap (λ (m : Machine). m.held.log) c.after ∙ k c.held c.becomes }

after : (old held becomes : Stored) → held ≡ becomes → becomes.log ≡ old.log
    → held.log ≡ old.log
after old held becomes e same = ap (λ (s : Stored). s.log) e ∙ same

in_vain : (old held : Stored) (page : ℕ) (cause : StoreFault) → ReadsInVain old page cause held
    → held.log ≡ old.log
in_vain old held page store_fault.NothingToDo r = after old held _ r.after refl
in_vain old held page store_fault.Device r = after old held _ r.after refl
in_vain old held page (store_fault.BadPage p) r = after old held _ r.after refl
in_vain old held page store_fault.Memory r = after old held _ r refl
in_vain old held page (store_fault.Invalid c) r = absurd r
in_vain old held page store_fault.LogBehind r = absurd r
in_vain old held page store_fault.CkptBusy r = absurd r
in_vain old held page store_fault.PoolFull r = absurd r
in_vain old held page store_fault.PageLent r = absurd r
in_vain old held page store_fault.NumbersSpent r = absurd r
in_vain old held page store_fault.LogFull r = absurd r

published : (old held : Stored) (b : Option Begun) → IsSomeAnd b (λ x. Publishes old x held)
    → held.log ≡ old.log
published old held None h = absurd h
published old held (Some b) h = after old held _ h.after refl

torn : (old held : Stored) (b : Option Begun) → IsSomeAnd b (λ x. BreaksPublish old x held)
    → held.log ≡ old.log
torn old held None h = absurd h
torn old held (Some b) h = after old held _ h.after refl

-- a feed is refused once the log is sealed
refuses_feed : (m : Machine) → is_following m.held ≡ false
    → (fault : Fault) × (feed_refusal m ≡ Some fault)
refuses_feed m sealed = elim (cases_Bool m.held.broken) [
  | inl y ↦ (Stopped, rw y refl)
  | inr n ↦ elim (cases_Bool m.held.recovering) [
    | inl y ↦ (Recovering, rw (n, y) refl)
    | inr r ↦ (Sealed, rw (n, r, sealed) refl)
  ]
]

fed : (old new : Machine) (piece : List ℕ) (answer : Result Fed FeedFault)
    → is_following old.held ≡ false → Feeds old piece (feed_refusal old) answer new
    → IsSameLog old new
fed old new piece answer sealed f =
    let refused = refuses_feed old sealed in
    let g : Feeds old piece (Some refused.0) answer new =
    subst (λ (r : Option Fault). Feeds old piece r answer new) refused.1 f in
    unchanged old new g.1

-- as many records are held as a reply tells of
abbrev pub HoldsBy : Machine → Reply → Machine → Type 0
HoldsBy old answer new =
    length new.held.log ≡ length old.held.log + undone_by answer + resolved_by answer

pub none : (old new : Machine) → IsSameLog old new
    → length new.held.log ≡ length old.held.log + 0 + 0
none old new e = omega (arith, ap (λ (l : List Record). length l) e.log)

-- ---- the events

resync : (old new : Machine) (answer : Reply) → Steps old step.Resync answer new
    → HoldsBy old answer new
resync old new (reply.Fed fed) s = absurd s
resync old new (reply.FeedRefused refusal) s = absurd s
resync old new reply.Done s =
    none old new (does old new step.Resync (DropsPartial old) (Ok tt) s
    (λ c. record { log = ap (λ (m : Machine). m.held.log) c }))
resync old new (reply.Acknowledged lsn) s = absurd s
resync old new (reply.Undone lsn) s = absurd s
resync old new (reply.Resolved lsn) s = absurd s
resync old new (reply.Refused fault) s =
    none old new (does old new step.Resync (DropsPartial old) (Err fault) s
    (λ c. absurd c))

recall : (old new : Machine) (page : ℕ) (answer : Reply) → Steps old (step.Recall page) answer new
    → HoldsBy old answer new
recall old new page (reply.Fed fed) s = absurd s
recall old new page (reply.FeedRefused refusal) s = absurd s
recall old new page reply.Done s =
    none old new (does old new (step.Recall page) (EndsLease old page) (Ok tt) s
    (λ c. changes old new _ c (λ held e. after old.held held _ e.after refl)))
recall old new page (reply.Acknowledged lsn) s = absurd s
recall old new page (reply.Undone lsn) s = absurd s
recall old new page (reply.Resolved lsn) s = absurd s
recall old new page (reply.Refused fault) s =
    none old new (does old new (step.Recall page) (EndsLease old page) (Err fault) s
    (λ c. absurd c))

flush : (old new : Machine) (page : ℕ) (answer : Reply) → Steps old (step.Flush page) answer new
    → HoldsBy old answer new
flush old new page (reply.Fed fed) s = absurd s
flush old new page (reply.FeedRefused refusal) s = absurd s
flush old new page reply.Done s =
    none old new (does old new (step.Flush page) (WritesPage old page) (Ok tt) s
    (λ c. changes old new _ c (λ held e. after old.held held _ e.after refl)))
flush old new page (reply.Acknowledged lsn) s = absurd s
flush old new page (reply.Undone lsn) s = absurd s
flush old new page (reply.Resolved lsn) s = absurd s
flush old new page (reply.Refused fault) s =
    none old new (does old new (step.Flush page) (WritesPage old page) (Err fault) s
    (λ c. changes old new _ c.1 (λ held e. after old.held held _ e.after refl)))

sync_pages : (old new : Machine) (answer : Reply) → Steps old step.SyncPages answer new
    → HoldsBy old answer new
sync_pages old new (reply.Fed fed) s = absurd s
sync_pages old new (reply.FeedRefused refusal) s = absurd s
sync_pages old new reply.Done s =
    none old new (does old new step.SyncPages (SyncsAllPages old) (Ok tt) s
    (λ c. changes old new _ c (λ held e. after old.held held _ e.after refl)))
sync_pages old new (reply.Acknowledged lsn) s = absurd s
sync_pages old new (reply.Undone lsn) s = absurd s
sync_pages old new (reply.Resolved lsn) s = absurd s
sync_pages old new (reply.Refused fault) s =
    none old new (does old new step.SyncPages (SyncsAllPages old) (Err fault) s
    (λ c. changes old new _ c.1 (λ held e. after old.held held _ e.after refl)))

log_write : (old new : Machine) (answer : Reply) → Steps old step.LogWrite answer new
    → HoldsBy old answer new
log_write old new (reply.Fed fed) s = absurd s
log_write old new (reply.FeedRefused refusal) s = absurd s
log_write old new reply.Done s =
    none old new (does old new step.LogWrite (WritesBlock old) (Ok tt) s
    (λ c. changes old new _ c (λ held e. after old.held held _ e.after refl)))
log_write old new (reply.Acknowledged lsn) s = absurd s
log_write old new (reply.Undone lsn) s = absurd s
log_write old new (reply.Resolved lsn) s = absurd s
log_write old new (reply.Refused fault) s =
    none old new (does old new step.LogWrite (WritesBlock old) (Err fault) s
    (λ c. changes old new _ c.1 (λ held e. after old.held held _ e.after refl)))

log_sync : (old new : Machine) (answer : Reply) → Steps old step.LogSync answer new
    → HoldsBy old answer new
log_sync old new (reply.Fed fed) s = absurd s
log_sync old new (reply.FeedRefused refusal) s = absurd s
log_sync old new reply.Done s =
    none old new (does old new step.LogSync (SyncsBlocks old) (Ok tt) s
    (λ c. changes old new _ c (λ held e. after old.held held _ e.after refl)))
log_sync old new (reply.Acknowledged lsn) s = absurd s
log_sync old new (reply.Undone lsn) s = absurd s
log_sync old new (reply.Resolved lsn) s = absurd s
log_sync old new (reply.Refused fault) s =
    none old new (does old new step.LogSync (SyncsBlocks old) (Err fault) s
    (λ c. changes old new _ c.1 (λ held e. after old.held held _ e.after refl)))

mark_write : (old new : Machine) (answer : Reply) → Steps old step.MarkWrite answer new
    → HoldsBy old answer new
mark_write old new (reply.Fed fed) s = absurd s
mark_write old new (reply.FeedRefused refusal) s = absurd s
mark_write old new reply.Done s =
    none old new (does old new step.MarkWrite (MovesMark old) (Ok tt) s
    (λ c. changes old new _ c (λ held e. after old.held held _ e.after refl)))
mark_write old new (reply.Acknowledged lsn) s = absurd s
mark_write old new (reply.Undone lsn) s = absurd s
mark_write old new (reply.Resolved lsn) s = absurd s
mark_write old new (reply.Refused fault) s =
    none old new (does old new step.MarkWrite (MovesMark old) (Err fault) s
    (λ c. changes old new _ c.1 (λ held e. after old.held held _ e.after refl)))

ctl_sync : (old new : Machine) (answer : Reply) → Steps old step.ControlSync answer new
    → HoldsBy old answer new
ctl_sync old new (reply.Fed fed) s = absurd s
ctl_sync old new (reply.FeedRefused refusal) s = absurd s
ctl_sync old new reply.Done s = absurd s
ctl_sync old new (reply.Acknowledged lsn) s =
    none old new (does old new step.ControlSync (Acknowledges old) (Ok lsn) s
    (λ c. changes old new _ c (λ held e. after old.held held _ e.after refl)))
ctl_sync old new (reply.Undone lsn) s = absurd s
ctl_sync old new (reply.Resolved lsn) s = absurd s
ctl_sync old new (reply.Refused fault) s =
    none old new (does old new step.ControlSync (Acknowledges old) (Err fault) s
    (λ c. changes old new _ c.1 (λ held e. after old.held held _ e.after refl)))

ckpt_begin : (old new : Machine) (answer : Reply) → Steps old step.CkptBegin answer new
    → HoldsBy old answer new
ckpt_begin old new (reply.Fed fed) s = absurd s
ckpt_begin old new (reply.FeedRefused refusal) s = absurd s
ckpt_begin old new reply.Done s =
    none old new (does old new step.CkptBegin (Begins old) (Ok tt) s
    (λ c. changes old new _ c (λ held e. after old.held held _ e.after refl)))
ckpt_begin old new (reply.Acknowledged lsn) s = absurd s
ckpt_begin old new (reply.Undone lsn) s = absurd s
ckpt_begin old new (reply.Resolved lsn) s = absurd s
ckpt_begin old new (reply.Refused fault) s =
    none old new (does old new step.CkptBegin (Begins old) (Err fault) s
    (λ c. unchanged old new c.1))

ckpt_block : (old new : Machine) (answer : Reply) → Steps old step.CkptBlock answer new
    → HoldsBy old answer new
ckpt_block old new (reply.Fed fed) s = absurd s
ckpt_block old new (reply.FeedRefused refusal) s = absurd s
ckpt_block old new reply.Done s =
    none old new (does old new step.CkptBlock (WritesNext old) (Ok tt) s
    (λ c. changes old new _ c (λ held e. after old.held held _ e.after refl)))
ckpt_block old new (reply.Acknowledged lsn) s = absurd s
ckpt_block old new (reply.Undone lsn) s = absurd s
ckpt_block old new (reply.Resolved lsn) s = absurd s
ckpt_block old new (reply.Refused fault) s =
    none old new (does old new step.CkptBlock (WritesNext old) (Err fault) s
    (λ c. changes old new _ c.1 (λ held e. after old.held held _ e.after refl)))

ckpt_publish : (old new : Machine) (answer : Reply) → Steps old step.CkptPublish answer new
    → HoldsBy old answer new
ckpt_publish old new (reply.Fed fed) s = absurd s
ckpt_publish old new (reply.FeedRefused refusal) s = absurd s
ckpt_publish old new reply.Done s =
    none old new (does old new step.CkptPublish (PublishesNext old) (Ok tt) s
    (λ c. changes old new _ c (λ held e. published old.held held old.held.begun e)))
ckpt_publish old new (reply.Acknowledged lsn) s = absurd s
ckpt_publish old new (reply.Undone lsn) s = absurd s
ckpt_publish old new (reply.Resolved lsn) s = absurd s
ckpt_publish old new (reply.Refused fault) s =
    none old new (does old new step.CkptPublish (PublishesNext old) (Err fault) s
    (λ c. changes old new _ c.1 (λ held e. torn old.held held old.held.begun e)))

publish_view : (old new : Machine) (answer : Reply) → Steps old step.PublishView answer new
    → HoldsBy old answer new
publish_view old new (reply.Fed fed) s = absurd s
publish_view old new (reply.FeedRefused refusal) s = absurd s
publish_view old new reply.Done s =
    none old new (does old new step.PublishView (PublishesEnded old) (Ok tt) s
    (λ c. record { log = ap (λ (m : Machine). m.held.log) c.1 }))
publish_view old new (reply.Acknowledged lsn) s = absurd s
publish_view old new (reply.Undone lsn) s = absurd s
publish_view old new (reply.Resolved lsn) s = absurd s
publish_view old new (reply.Refused fault) s =
    none old new (does old new step.PublishView (PublishesEnded old) (Err fault) s
    (λ c. record { log = ap (λ (m : Machine). m.held.log) c.1 }))

ready : (old new : Machine) (answer : Reply) → Steps old step.Ready answer new
    → HoldsBy old answer new
ready old new (reply.Fed fed) s = absurd s
ready old new (reply.FeedRefused refusal) s = absurd s
ready old new reply.Done s =
    none old new (does old new step.Ready (BecomesReady old) (Ok tt) s
    (λ c. record { log = ap (λ (m : Machine). m.held.log) c }))
ready old new (reply.Acknowledged lsn) s = absurd s
ready old new (reply.Undone lsn) s = absurd s
ready old new (reply.Resolved lsn) s = absurd s
ready old new (reply.Refused fault) s =
    none old new (does old new step.Ready (BecomesReady old) (Err fault) s
    (λ c. record { log = ap (λ (m : Machine). m.held.log) c.1 }))

seal : (old new : Machine) (answer : Reply) → Steps old step.Seal answer new
    → HoldsBy old answer new
seal old new (reply.Fed fed) s = absurd s
seal old new (reply.FeedRefused refusal) s = absurd s
seal old new reply.Done s =
    none old new (does old new step.Seal (SealsLog old) (Ok tt) s
    (λ c. record {
      log = ap (λ (m : Machine). m.held.log) c.after ∙ ap (λ (h : Stored). h.log) c.seals.after;
    }))
seal old new (reply.Acknowledged lsn) s = absurd s
seal old new (reply.Undone lsn) s = absurd s
seal old new (reply.Resolved lsn) s = absurd s
seal old new (reply.Refused fault) s =
    none old new (does old new step.Seal (SealsLog old) (Err fault) s
    (λ c. changes old new _ c.1 (λ held e. after old.held held _ e.after refl)))

adopt : (old new : Machine) (history : List ℕ) (answer : Reply)
    → Steps old (step.Adopt history) answer new → HoldsBy old answer new
adopt old new history (reply.Fed fed) s = absurd s
adopt old new history (reply.FeedRefused refusal) s = absurd s
adopt old new history reply.Done s =
    none old new (does old new (step.Adopt history) (AdoptsIt history old) (Ok tt) s
    (λ c. record {
      log = ap (λ (m : Machine). m.held.log) c.after ∙ ap (λ (h : Stored). h.log) c.adopts.after;
    }))
adopt old new history (reply.Acknowledged lsn) s = absurd s
adopt old new history (reply.Undone lsn) s = absurd s
adopt old new history (reply.Resolved lsn) s = absurd s
adopt old new history (reply.Refused fault) s =
    none old new (does old new (step.Adopt history) (AdoptsIt history old) (Err fault) s
    (λ c. changes old new _ c.1 (λ held e. after old.held held _ e.after refl)))

finish : (old new : Machine) (answer : Reply) → Steps old step.Finish answer new
    → HoldsBy old answer new
finish old new (reply.Fed fed) s = absurd s
finish old new (reply.FeedRefused refusal) s = absurd s
finish old new reply.Done s =
    none old new (does old new step.Finish (FinishesTakeover old) (Ok tt) s
    (λ c. changes old new _ c (λ held e. after old.held held _ e.after refl)))
finish old new (reply.Acknowledged lsn) s = absurd s
finish old new (reply.Undone lsn) s = absurd s
finish old new (reply.Resolved lsn) s = absurd s
finish old new (reply.Refused fault) s =
    none old new (does old new step.Finish (FinishesTakeover old) (Err fault) s
    (λ c. changes old new _ c.1 (λ held e. after old.held held _ e.after refl)))

feed : (old new : Machine) (piece : Bor (List ℕ)) (answer : Reply) → is_following old.held ≡ false
    → Steps old (step.Feed piece) answer new → HoldsBy old answer new
feed old new piece (reply.Fed held) sealed s =
    none old new (fed old new piece.now (Ok held) sealed s)
feed old new piece (reply.FeedRefused refused) sealed s =
    none old new (fed old new piece.now (Err refused) sealed s)
feed old new piece reply.Done sealed s = absurd s
feed old new piece (reply.Acknowledged lsn) sealed s = absurd s
feed old new piece (reply.Undone lsn) sealed s = absurd s
feed old new piece (reply.Resolved lsn) sealed s = absurd s
feed old new piece (reply.Refused fault) sealed s = absurd s

held_next : (old new : Machine) (lsn : Lsn) (r : Option Fault)
    → MatchOption r (Undoes old (Ok lsn) new)
    (λ fault. (◌≡◌ {A = Result Lsn Fault} (Ok lsn) (Err fault)) × (new ≡ old))
    → length new.held.log ≡ length old.held.log + 1 + 0
held_next old new lsn None u = omega (
  arith,
  ap (λ (m : Machine). length m.held.log) u.after,
  ap (λ (h : Stored). length h.log) u.undoes.after,
  length-append old.held.log (u.undoes.made ∷ []),
)
held_next old new lsn (Some fault) h = absurd (cc h.0)

undo_one : (old new : Machine) (answer : Reply) → Steps old step.UndoOne answer new
    → HoldsBy old answer new
undo_one old new (reply.Undone lsn) s = held_next old new lsn (refusal old step.UndoOne) s
undo_one old new (reply.Refused fault) s =
    none old new (does old new step.UndoOne (Undoes old) (Err fault) s go)
  where
    go : Undoes old (Err fault) new → IsSameLog old new
    go (inl c) = unchanged old new c.1
    go (inr c) = changes old new _ c.1 (λ held e. after old.held held _ e.after refl)
undo_one old new (reply.Fed fed) s = absurd s
undo_one old new (reply.FeedRefused refusal) s = absurd s
undo_one old new reply.Done s = absurd s
undo_one old new (reply.Acknowledged lsn) s = absurd s
undo_one old new (reply.Resolved lsn) s = absurd s

held_decision : (old new : Machine) (trans : TransId) (verdict : Decision) (lsn : Lsn)
    (r : Option Fault)
    → MatchOption r (ResolvesIt trans verdict old (Ok lsn) new)
    (λ fault. (◌≡◌ {A = Result Lsn Fault} (Ok lsn) (Err fault)) × (new ≡ old))
    → length new.held.log ≡ length old.held.log + 0 + 1
held_decision old new trans verdict lsn None d = omega (
  arith,
  ap (λ (m : Machine). length m.held.log) d.after,
  ap (λ (h : Stored). length h.log) d.resolves.after,
  length-append old.held.log (decision old.held.log trans.0 (decision_body verdict) ∷ []),
)
held_decision old new trans verdict lsn (Some fault) h = absurd (cc h.0)

resolve : (old new : Machine) (trans : TransId) (verdict : Decision) (answer : Reply)
    → Steps old (step.Resolve trans verdict) answer new → HoldsBy old answer new
resolve old new trans verdict (reply.Resolved lsn) s =
    held_decision old new trans verdict lsn (refusal old (step.Resolve trans verdict)) s
resolve old new trans verdict (reply.Refused fault) s =
    none old new (does old new (step.Resolve trans verdict) (ResolvesIt trans verdict old) (Err fault)
    s go)
  where
    go : ResolvesIt trans verdict old (Err fault) new → IsSameLog old new
    go (inl c) = unchanged old new c.1
    go (inr c) = changes old new _ c.1 (λ held e. after old.held held _ e.after refl)
resolve old new trans verdict (reply.Fed fed) s = absurd s
resolve old new trans verdict (reply.FeedRefused refusal) s = absurd s
resolve old new trans verdict reply.Done s = absurd s
resolve old new trans verdict (reply.Acknowledged lsn) s = absurd s
resolve old new trans verdict (reply.Undone lsn) s = absurd s

-- an `undo_one` that is not refused holds the next record of the log's tail
pub record IsNext (old new : Machine) : Type 0 where
  pub made : Record
  pub rest : List Record
  pub first : tail_of old.held.log ≡ made ∷ rest
  pub log : new.held.log ≡ old.held.log ++ made ∷ []

next_of : (old new : Machine) (lsn : Lsn) (r : Option Fault)
    → MatchOption r (Undoes old (Ok lsn) new)
    (λ fault. (◌≡◌ {A = Result Lsn Fault} (Ok lsn) (Err fault)) × (new ≡ old)) → IsNext old new
next_of old new lsn None u = record {
  made = u.undoes.made;
  rest = u.undoes.rest;
  first = u.undoes.first;
  log = ap (λ (m : Machine). m.held.log) u.after ∙ ap (λ (h : Stored). h.log) u.undoes.after;
}
next_of old new lsn (Some fault) h = absurd (cc h.0)

pub undoes_next : (old new : Machine) (event : Step) (lsn : Lsn)
    → Steps old event (reply.Undone lsn) new → IsNext old new
undoes_next old new step.UndoOne lsn s = next_of old new lsn (refusal old step.UndoOne) s
undoes_next old new (step.Feed piece) lsn s = absurd s
undoes_next old new step.Resync lsn s = absurd s
undoes_next old new (step.Recall page) lsn s = absurd s
undoes_next old new (step.Flush page) lsn s = absurd s
undoes_next old new step.SyncPages lsn s = absurd s
undoes_next old new step.LogWrite lsn s = absurd s
undoes_next old new step.LogSync lsn s = absurd s
undoes_next old new step.MarkWrite lsn s = absurd s
undoes_next old new step.ControlSync lsn s = absurd s
undoes_next old new step.CkptBegin lsn s = absurd s
undoes_next old new step.CkptBlock lsn s = absurd s
undoes_next old new step.CkptPublish lsn s = absurd s
undoes_next old new step.PublishView lsn s = absurd s
undoes_next old new step.Ready lsn s = absurd s
undoes_next old new (step.Adopt history) lsn s = absurd s
undoes_next old new step.Seal lsn s = absurd s
undoes_next old new step.Finish lsn s = absurd s
undoes_next old new (step.Resolve trans verdict) lsn s = absurd s

-- ---- leases

-- a form over its causes: refused, it changes nothing
by : {A B : Type 0} (old new : Machine) (causes : Option Fault) (answer : Fault → B)
    (acts : Result A B → Machine → Type 0) (result : Result A B)
    → MatchOption causes (acts result new) (λ f. (result ≡ Err (answer f)) × (new ≡ old))
    → (acts result new → IsSameLog old new) → IsSameLog old new
by old new None answer acts result h k = k h
by old new (Some f) answer acts result h k = unchanged old new h.1

pub lend : (old new : Machine) (page : ℕ) (answer : Result Leased Fault) → Lends old page answer new
    → IsSameLog old new
lend old new page answer s =
    by old new (first_of (lend_causes old page)) (λ f. f) (LendsPageOf old page) answer s (go answer)
  where
    go : (a : Result Leased Fault) → LendsPageOf old page a new → IsSameLog old new
    go (Ok lease) c = changes old new _ c.changes (λ held e. after old.held held _ e.after refl)
    go (Err f) c = changes old new _ c.changes
        (λ held e. in_vain old.held held page c.cause e.reads)

pub give : (old new : Machine) (lease : Leased) (answer : Result (Unit {0}) NotGiven)
    → Gives old lease answer new → IsSameLog old new
give old new lease answer s =
    by old new (first_of (give_causes old)) (handed_back lease) (TakesLease old lease) answer s
    (go answer)
  where
    go : (a : Result (Unit {0}) NotGiven) → TakesLease old lease a new → IsSameLog old new
    go (Ok done) c = changes old new _ c.changes (λ held e. after old.held held _ e.after refl)
    go (Err f) c = unchanged old new c.after

-- once the log is sealed, an event holds as many records as its reply tells of
pub holds : (old new : Machine) (event : Step) (answer : Reply) → is_following old.held ≡ false
    → Steps old event answer new → HoldsBy old answer new
holds old new (step.Feed piece) answer sealed s = feed old new piece answer sealed s
holds old new step.UndoOne answer sealed s = undo_one old new answer s
holds old new step.Resync answer sealed s = resync old new answer s
holds old new (step.Recall page) answer sealed s = recall old new page answer s
holds old new (step.Flush page) answer sealed s = flush old new page answer s
holds old new step.SyncPages answer sealed s = sync_pages old new answer s
holds old new step.LogWrite answer sealed s = log_write old new answer s
holds old new step.LogSync answer sealed s = log_sync old new answer s
holds old new step.MarkWrite answer sealed s = mark_write old new answer s
holds old new step.ControlSync answer sealed s = ctl_sync old new answer s
holds old new step.CkptBegin answer sealed s = ckpt_begin old new answer s
holds old new step.CkptBlock answer sealed s = ckpt_block old new answer s
holds old new step.CkptPublish answer sealed s = ckpt_publish old new answer s
holds old new step.PublishView answer sealed s = publish_view old new answer s
holds old new step.Ready answer sealed s = ready old new answer s
holds old new (step.Adopt history) answer sealed s = adopt old new history answer s
holds old new step.Seal answer sealed s = seal old new answer s
holds old new step.Finish answer sealed s = finish old new answer s
holds old new (step.Resolve trans verdict) answer sealed s = resolve old new trans verdict answer s
