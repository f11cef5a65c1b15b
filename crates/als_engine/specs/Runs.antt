-- Steps of the small machine.
use Rattle.std.specs.Prelude.{Result, Ok, Err}
use Rattle.als_engine.specs.declared.fault.Fault.{Fault}
use Rattle.als_engine.specs.declared.step.Step.{Step}
use Rattle.als_engine.specs.declared.step.Step.TheVariants as step
use Rattle.als_engine.specs.declared.step.Reply.{Reply}
use Rattle.als_engine.specs.declared.step.Reply.TheVariants as reply
use Rattle.als_engine.specs.Machine.{Machine}
use Rattle.als_engine.specs.Refusals.{feed_refusal}
use Rattle.als_engine.specs.Feeds.{Feeds}
use Rattle.als_engine.specs.Events.{Resyncs, FlushesOne, PagesSync, LogWrites, LogSyncs}
use Rattle.als_engine.specs.Events.{MarkWrites, ControlSyncs}
use Rattle.als_engine.specs.Leases.{Recalls}
use Rattle.als_engine.specs.Publishing.{PublishesView}
use Rattle.als_engine.specs.Readiness.{Readies}
use Rattle.als_engine.specs.Takeover.{Adopts, Seals, UndoesOneOf, ResolvesOf, Finishes}
use Rattle.als_engine.specs.Checkpointing.{CkptBegins, CkptWrites, CkptPublishes}

-- the reply to an event that answers no value
abbrev pub reply_of : Result (Unit {0}) Fault → Reply
reply_of (Ok done) = reply.Done
reply_of (Err fault) = reply.Refused fault

-- From old, a step may have this reply and lead to new.
abbrev pub Steps : Machine → Step → Reply → Machine → Type 0
Steps old (step.Feed piece) (reply.Fed fed) new =
    Feeds old piece.now (feed_refusal old) (Ok fed) new
Steps old (step.Feed piece) (reply.FeedRefused fault) new =
    Feeds old piece.now (feed_refusal old) (Err fault) new
Steps old step.Resync reply.Done new = Resyncs old (Ok tt) new
Steps old step.Resync (reply.Refused fault) new = Resyncs old (Err fault) new
Steps old (step.Recall page) reply.Done new = Recalls old page (Ok tt) new
Steps old (step.Recall page) (reply.Refused fault) new = Recalls old page (Err fault) new
Steps old (step.Flush page) reply.Done new = FlushesOne old page (Ok tt) new
Steps old (step.Flush page) (reply.Refused fault) new = FlushesOne old page (Err fault) new
Steps old step.SyncPages reply.Done new = PagesSync old (Ok tt) new
Steps old step.SyncPages (reply.Refused fault) new = PagesSync old (Err fault) new
Steps old step.LogWrite reply.Done new = LogWrites old (Ok tt) new
Steps old step.LogWrite (reply.Refused fault) new = LogWrites old (Err fault) new
Steps old step.LogSync reply.Done new = LogSyncs old (Ok tt) new
Steps old step.LogSync (reply.Refused fault) new = LogSyncs old (Err fault) new
Steps old step.MarkWrite reply.Done new = MarkWrites old (Ok tt) new
Steps old step.MarkWrite (reply.Refused fault) new = MarkWrites old (Err fault) new
Steps old step.ControlSync (reply.Acknowledged lsn) new = ControlSyncs old (Ok lsn) new
Steps old step.ControlSync (reply.Refused fault) new = ControlSyncs old (Err fault) new
Steps old step.CkptBegin reply.Done new = CkptBegins old (Ok tt) new
Steps old step.CkptBegin (reply.Refused fault) new = CkptBegins old (Err fault) new
Steps old step.CkptBlock reply.Done new = CkptWrites old (Ok tt) new
Steps old step.CkptBlock (reply.Refused fault) new = CkptWrites old (Err fault) new
Steps old step.CkptPublish reply.Done new = CkptPublishes old (Ok tt) new
Steps old step.CkptPublish (reply.Refused fault) new = CkptPublishes old (Err fault) new
Steps old step.PublishView reply.Done new = PublishesView old (Ok tt) new
Steps old step.PublishView (reply.Refused fault) new = PublishesView old (Err fault) new
Steps old step.Ready reply.Done new = Readies old (Ok tt) new
Steps old step.Ready (reply.Refused fault) new = Readies old (Err fault) new
Steps old (step.Adopt history) reply.Done new = Adopts old history (Ok tt) new
Steps old (step.Adopt history) (reply.Refused fault) new = Adopts old history (Err fault) new
Steps old step.Seal reply.Done new = Seals old (Ok tt) new
Steps old step.Seal (reply.Refused fault) new = Seals old (Err fault) new
Steps old step.UndoOne (reply.Undone lsn) new = UndoesOneOf old (Ok lsn) new
Steps old step.UndoOne (reply.Refused fault) new = UndoesOneOf old (Err fault) new
Steps old step.Finish reply.Done new = Finishes old (Ok tt) new
Steps old step.Finish (reply.Refused fault) new = Finishes old (Err fault) new
Steps old (step.Resolve trans verdict) (reply.Resolved lsn) new = ResolvesOf old trans verdict (Ok lsn) new
Steps old (step.Resolve trans verdict) (reply.Refused fault) new = ResolvesOf old trans verdict (Err fault) new
-- no other reply comes
Steps _ _ _ _ = ⊥
