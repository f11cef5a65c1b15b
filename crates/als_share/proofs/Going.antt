-- A run that goes on under the lock, with each event in turn. Each premise is what the engine says where nobody else drives it.
use Rattle.std.proofs.Common.{◌≡◌, ℕ, Bool, true, false, Option, List, inl, inr, refl, sym, ◌∙◌, Bor}
use Rattle.std.proofs.lemmas.Bool.{true≢false}
use Rattle.std.specs.Prelude.{Result, Ok, Err}
use Rattle.als_lease.specs.Lease.{Leased}
use Rattle.als_record.specs.declared.lsn.Lsn.{Lsn}
use Rattle.als_record.specs.declared.trans_id.TransId.{TransId}
use Rattle.als_store.specs.declared.decision.Decision.{Decision}
use Rattle.als_record.specs.declared.record.Record.{Record}
use Rattle.als_page.specs.declared.page.Page.{Page}
use Rattle.als_engine.specs.declared.fault.Fault.{Fault}
use Rattle.als_engine.specs.declared.fed.Fed.{Fed}
use Rattle.als_engine.specs.declared.fed.FeedFault.{FeedFault}
use Rattle.als_engine.specs.declared.not_given.NotGiven.{NotGiven}
use Rattle.als_engine.specs.declared.step.Step.{Step}
use Rattle.als_engine.specs.declared.step.Step.TheVariants as step
use Rattle.als_engine.specs.declared.step.Reply.{Reply}
use Rattle.als_engine.specs.declared.step.Reply.TheVariants as reply
use Rattle.als_engine.specs.Machine.{Machine, Keeps}
use Rattle.als_engine.specs.Refusals.{feed_refusal}
use Rattle.als_engine.specs.Runs.{Steps}
use Rattle.als_engine.specs.Telling.{Stands}
use Rattle.als_engine.specs.Feeds.{Feeds}
use Rattle.als_engine.specs.Checkpointing.{CkptBegins, CkptWrites, CkptPublishes}
use Rattle.als_engine.specs.Events.{Resyncs, FlushesOne, PagesSync, LogWrites, LogSyncs, MarkWrites, ControlSyncs, ShowsPage, Reads}
use Rattle.als_engine.specs.Leases.{Recalls, Lends, Gives}
use Rattle.als_engine.specs.Publishing.{PublishesView}
use Rattle.als_engine.specs.Readiness.{Readies}
use Rattle.als_engine.specs.Takeover.{Adopts, Seals, UndoesOneOf, ResolvesOf, Finishes}
use Rattle.als_share.specs.Reaching.{Makes, MakesLend, MakesGive, Asks, IsDriven, is_of_takeover}
use Rattle.als_share.proofs.Reached.{from-event, from-lend, from-give, from-query}
use Rattle.als_share.proofs.Following.{follows-event, follows-lend, follows-give, follows-query}

-- what every event says of a machine beside its own relation
pub record GoesOn (may : Bool) (from : Option Machine) (old new : Machine) : Type 0 where
  pub driven : IsDriven may from old
  pub keeps : Keeps old new
  pub stands : Stands new

-- an event that is not of a takeover
makes : (may : Bool) (from : Option Machine) (old new : Machine) (event : Step) (answer : Reply) → is_of_takeover event ≡ false → GoesOn may from old new → Steps old event answer new → IsDriven may from new
makes may from old new event answer other on steps =
    let made : Makes old event answer new = record { steps = steps; keeps = on.keeps; stands = on.stands } in
    record {
      reached = from-event from old event answer new on.driven.reached made;
      follows = λ none. follows-event from old event answer new other (on.driven.follows none) made;
    }

-- one that is, where threads may take the database over
takes : (may : Bool) (from : Option Machine) (old new : Machine) (event : Step) (answer : Reply) → may ≡ true → GoesOn may from old new → Steps old event answer new → IsDriven may from new
takes may from old new event answer allowed on steps = record {
  reached = from-event from old event answer new on.driven.reached (record { steps = steps; keeps = on.keeps; stands = on.stands });
  follows = λ none. absurd (true≢false (sym allowed ∙ none));
}

pub resync : (may : Bool) (from : Option Machine) (old new : Machine) (answer : Result (Unit {0}) Fault) → GoesOn may from old new → Resyncs old answer new → IsDriven may from new
resync may from old new (Ok tt) on acts = makes may from old new step.Resync reply.Done refl on acts
resync may from old new (Err fault) on acts = makes may from old new step.Resync (reply.Refused fault) refl on acts

pub recall : (may : Bool) (from : Option Machine) (old new : Machine) (page : ℕ) (answer : Result (Unit {0}) Fault) → GoesOn may from old new → Recalls old page answer new → IsDriven may from new
recall may from old new page (Ok tt) on acts = makes may from old new (step.Recall page) reply.Done refl on acts
recall may from old new page (Err fault) on acts = makes may from old new (step.Recall page) (reply.Refused fault) refl on acts

pub flush : (may : Bool) (from : Option Machine) (old new : Machine) (page : ℕ) (answer : Result (Unit {0}) Fault) → GoesOn may from old new → FlushesOne old page answer new → IsDriven may from new
flush may from old new page (Ok tt) on acts = makes may from old new (step.Flush page) reply.Done refl on acts
flush may from old new page (Err fault) on acts = makes may from old new (step.Flush page) (reply.Refused fault) refl on acts

pub sync_pages : (may : Bool) (from : Option Machine) (old new : Machine) (answer : Result (Unit {0}) Fault) → GoesOn may from old new → PagesSync old answer new → IsDriven may from new
sync_pages may from old new (Ok tt) on acts = makes may from old new step.SyncPages reply.Done refl on acts
sync_pages may from old new (Err fault) on acts = makes may from old new step.SyncPages (reply.Refused fault) refl on acts

pub log_write : (may : Bool) (from : Option Machine) (old new : Machine) (answer : Result (Unit {0}) Fault) → GoesOn may from old new → LogWrites old answer new → IsDriven may from new
log_write may from old new (Ok tt) on acts = makes may from old new step.LogWrite reply.Done refl on acts
log_write may from old new (Err fault) on acts = makes may from old new step.LogWrite (reply.Refused fault) refl on acts

pub log_sync : (may : Bool) (from : Option Machine) (old new : Machine) (answer : Result (Unit {0}) Fault) → GoesOn may from old new → LogSyncs old answer new → IsDriven may from new
log_sync may from old new (Ok tt) on acts = makes may from old new step.LogSync reply.Done refl on acts
log_sync may from old new (Err fault) on acts = makes may from old new step.LogSync (reply.Refused fault) refl on acts

pub mark_write : (may : Bool) (from : Option Machine) (old new : Machine) (answer : Result (Unit {0}) Fault) → GoesOn may from old new → MarkWrites old answer new → IsDriven may from new
mark_write may from old new (Ok tt) on acts = makes may from old new step.MarkWrite reply.Done refl on acts
mark_write may from old new (Err fault) on acts = makes may from old new step.MarkWrite (reply.Refused fault) refl on acts

pub ctl_sync : (may : Bool) (from : Option Machine) (old new : Machine) (answer : Result Lsn Fault) → GoesOn may from old new → ControlSyncs old answer new → IsDriven may from new
ctl_sync may from old new (Ok lsn) on acts = makes may from old new step.ControlSync (reply.Acknowledged lsn) refl on acts
ctl_sync may from old new (Err fault) on acts = makes may from old new step.ControlSync (reply.Refused fault) refl on acts

pub ckpt_begin : (may : Bool) (from : Option Machine) (old new : Machine) (answer : Result (Unit {0}) Fault) → GoesOn may from old new → CkptBegins old answer new → IsDriven may from new
ckpt_begin may from old new (Ok tt) on acts = makes may from old new step.CkptBegin reply.Done refl on acts
ckpt_begin may from old new (Err fault) on acts = makes may from old new step.CkptBegin (reply.Refused fault) refl on acts

pub ckpt_block : (may : Bool) (from : Option Machine) (old new : Machine) (answer : Result (Unit {0}) Fault) → GoesOn may from old new → CkptWrites old answer new → IsDriven may from new
ckpt_block may from old new (Ok tt) on acts = makes may from old new step.CkptBlock reply.Done refl on acts
ckpt_block may from old new (Err fault) on acts = makes may from old new step.CkptBlock (reply.Refused fault) refl on acts

pub ckpt_publish : (may : Bool) (from : Option Machine) (old new : Machine) (answer : Result (Unit {0}) Fault) → GoesOn may from old new → CkptPublishes old answer new → IsDriven may from new
ckpt_publish may from old new (Ok tt) on acts = makes may from old new step.CkptPublish reply.Done refl on acts
ckpt_publish may from old new (Err fault) on acts = makes may from old new step.CkptPublish (reply.Refused fault) refl on acts

pub publish_view : (may : Bool) (from : Option Machine) (old new : Machine) (answer : Result (Unit {0}) Fault) → GoesOn may from old new → PublishesView old answer new → IsDriven may from new
publish_view may from old new (Ok tt) on acts = makes may from old new step.PublishView reply.Done refl on acts
publish_view may from old new (Err fault) on acts = makes may from old new step.PublishView (reply.Refused fault) refl on acts

pub ready : (may : Bool) (from : Option Machine) (old new : Machine) (answer : Result (Unit {0}) Fault) → GoesOn may from old new → Readies old answer new → IsDriven may from new
ready may from old new (Ok tt) on acts = makes may from old new step.Ready reply.Done refl on acts
ready may from old new (Err fault) on acts = makes may from old new step.Ready (reply.Refused fault) refl on acts

pub seal : (may : Bool) (from : Option Machine) (old new : Machine) (answer : Result (Unit {0}) Fault) → may ≡ true → GoesOn may from old new → Seals old answer new → IsDriven may from new
seal may from old new (Ok tt) allowed on acts = takes may from old new step.Seal reply.Done allowed on acts
seal may from old new (Err fault) allowed on acts = takes may from old new step.Seal (reply.Refused fault) allowed on acts

pub undo_one : (may : Bool) (from : Option Machine) (old new : Machine) (answer : Result Lsn Fault) → may ≡ true → GoesOn may from old new → UndoesOneOf old answer new → IsDriven may from new
undo_one may from old new (Ok lsn) allowed on acts = takes may from old new step.UndoOne (reply.Undone lsn) allowed on acts
undo_one may from old new (Err fault) allowed on acts = takes may from old new step.UndoOne (reply.Refused fault) allowed on acts

pub resolve : (may : Bool) (from : Option Machine) (old new : Machine) (trans : TransId) (verdict : Decision) (answer : Result Lsn Fault) → may ≡ true → GoesOn may from old new → ResolvesOf old trans verdict answer new → IsDriven may from new
resolve may from old new trans verdict (Ok lsn) allowed on acts = takes may from old new (step.Resolve trans verdict) (reply.Resolved lsn) allowed on acts
resolve may from old new trans verdict (Err fault) allowed on acts = takes may from old new (step.Resolve trans verdict) (reply.Refused fault) allowed on acts

pub adopt : (may : Bool) (from : Option Machine) (old new : Machine) (history : List ℕ) (answer : Result (Unit {0}) Fault) → GoesOn may from old new → Adopts old history answer new → IsDriven may from new
adopt may from old new history (Ok tt) on acts = makes may from old new (step.Adopt history) reply.Done refl on acts
adopt may from old new history (Err fault) on acts = makes may from old new (step.Adopt history) (reply.Refused fault) refl on acts

pub finish : (may : Bool) (from : Option Machine) (old new : Machine) (answer : Result (Unit {0}) Fault) → may ≡ true → GoesOn may from old new → Finishes old answer new → IsDriven may from new
finish may from old new (Ok tt) allowed on acts = takes may from old new step.Finish reply.Done allowed on acts
finish may from old new (Err fault) allowed on acts = takes may from old new step.Finish (reply.Refused fault) allowed on acts

pub feed : (may : Bool) (from : Option Machine) (old new : Machine) (piece : Bor (List ℕ)) (answer : Result Fed FeedFault) → GoesOn may from old new
    → Feeds old piece.now (feed_refusal old) answer new → IsDriven may from new
feed may from old new piece (Ok fed) on acts = makes may from old new (step.Feed piece) (reply.Fed fed) refl on acts
feed may from old new piece (Err refusal) on acts = makes may from old new (step.Feed piece) (reply.FeedRefused refusal) refl on acts

pub lend : (may : Bool) (from : Option Machine) (old new : Machine) (page : ℕ) (answer : Result Leased Fault) → GoesOn may from old new → Lends old page answer new → IsDriven may from new
lend may from old new page answer on acts =
    let made : MakesLend old page answer new = record { lends = acts; keeps = on.keeps; stands = on.stands } in
    record { reached = from-lend from old page answer new on.driven.reached made; follows = λ none. follows-lend from old page answer new (on.driven.follows none) made }

pub give : (may : Bool) (from : Option Machine) (old new : Machine) (lease : Leased) (answer : Result (Unit {0}) NotGiven) → GoesOn may from old new → Gives old lease answer new
    → IsDriven may from new
give may from old new lease answer on acts =
    let made : MakesGive old lease answer new = record { gives = acts; keeps = on.keeps; stands = on.stands } in
    record { reached = from-give from old lease answer new on.driven.reached made; follows = λ none. follows-give from old lease answer new (on.driven.follows none) made }

-- ---- queries that may read a device

asks : (may : Bool) (from : Option Machine) (old new : Machine) → IsDriven may from old → Asks old new → IsDriven may from new
asks may from old new driven asked = record {
  reached = from-query from old new driven.reached asked;
  follows = λ none. follows-query from old new (driven.follows none) asked;
}

pub page_now : (may : Bool) (from : Option Machine) (old new : Machine) (page : ℕ) (answer : Result Page Fault) → GoesOn may from old new → ShowsPage old page answer new
    → IsDriven may from new
page_now may from old new page answer on acts = asks may from old new on.driven (record { asked = inl (page, answer, acts); keeps = on.keeps; stands = on.stands })

pub record_at : (may : Bool) (from : Option Machine) (old new : Machine) (lsn : Lsn) (answer : Result (Option Record) Fault) → GoesOn may from old new → Reads old lsn answer new
    → IsDriven may from new
record_at may from old new lsn answer on acts = asks may from old new on.driven (record { asked = inr (lsn, answer, acts); keeps = on.keeps; stands = on.stands })
