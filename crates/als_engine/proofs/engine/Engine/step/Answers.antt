use Rattle.std.specs.Prelude.{Err}
use Rattle.als_engine.specs.Refusals.{feed_refusal}
use Rattle.als_engine.proofs.LeaseLaws.{recalls_step}
use Rattle.als_engine.proofs.StepLaws.{attempts_refused, begins_step, attempts_finish}
use Rattle.als_engine.proofs.StepLaws.{flushes_step, finishes_step, attempts_flush, attempts_begin}
use Rattle.als_engine.proofs.StepLaws.{attempts_seal, attempts_not_undone, seals_step}
use Rattle.als_engine.proofs.StepLaws.{attempts_resolve, attempts_mark_write, attempts_publish}
use Rattle.als_engine.proofs.StepLaws.{publishes_step}
use Rattle.als_engine.proofs.StepLaws.{attempts_ready, attempts_resync, attempts_log_write}
use Rattle.als_engine.proofs.StepLaws.{attempts_adopt, adopts_step}
use Rattle.als_engine.proofs.engine.Engine.step.Goals as goal

pub returns-in-Recall-clause-steps : goal.returns-in-Recall-clause-steps
returns-in-Recall-clause-steps g c =
    rw (c.in-Recall.is, c.done-in-Recall.ensures)
    (recalls_step c.args.self.now.machine c.recall.new.self.machine c.in-Recall.page c.recall.result
    c.recall.ensures.recalls)

pub returns-in-Err-clause-attempts : goal.returns-in-Err-clause-attempts
returns-in-Err-clause-attempts g c =
    attempts_refused c.args.self.now.machine c.feed.new.self.machine c.in-Feed.piece.now
    (feed_refusal c.args.self.now.machine) c.in-Err.refusal c.in-Err.ensures.feeds

pub returns-in-CkptBegin-clause-steps : goal.returns-in-CkptBegin-clause-steps
returns-in-CkptBegin-clause-steps g c =
    rw (c.in-CkptBegin.is, c.done-in-CkptBegin.ensures)
    (begins_step c.args.self.now.machine c.ckpt_begin.new.self.machine c.ckpt_begin.result
    c.ckpt_begin.ensures.begins)

pub returns-in-Finish-clause-attempts : goal.returns-in-Finish-clause-attempts
returns-in-Finish-clause-attempts g c =
    attempts_finish c.args.self.now.machine c.finish.new.self.machine c.finish.result
    c.finish.ensures.finishes

pub returns-in-Flush-clause-steps : goal.returns-in-Flush-clause-steps
returns-in-Flush-clause-steps g c =
    rw (c.in-Flush.is, c.done-in-Flush.ensures)
    (flushes_step c.args.self.now.machine c.flush.new.self.machine c.in-Flush.page c.flush.result
    c.flush.ensures.flushes)

pub returns-in-Finish-clause-steps : goal.returns-in-Finish-clause-steps
returns-in-Finish-clause-steps g c =
    rw (c.in-Finish.is, c.done-in-Finish.ensures)
    (finishes_step c.args.self.now.machine c.finish.new.self.machine c.finish.result
    c.finish.ensures.finishes)

pub returns-in-Flush-clause-attempts : goal.returns-in-Flush-clause-attempts
returns-in-Flush-clause-attempts g c =
    attempts_flush c.args.self.now.machine c.flush.new.self.machine c.in-Flush.page c.flush.result
    c.flush.ensures.flushes

pub returns-in-CkptBegin-clause-attempts : goal.returns-in-CkptBegin-clause-attempts
returns-in-CkptBegin-clause-attempts g c =
    attempts_begin c.args.self.now.machine c.ckpt_begin.new.self.machine c.ckpt_begin.result
    c.ckpt_begin.ensures.begins

pub returns-in-Adopt-clause-attempts : goal.returns-in-Adopt-clause-attempts
returns-in-Adopt-clause-attempts g c =
    attempts_adopt c.args.self.now.machine c.adopt.new.self.machine c.in-Adopt.history
    c.adopt.result c.adopt.ensures.adopts

pub returns-in-Adopt-clause-steps : goal.returns-in-Adopt-clause-steps
returns-in-Adopt-clause-steps g c =
    rw (c.in-Adopt.is, c.done-in-Adopt.ensures)
    (adopts_step c.args.self.now.machine c.adopt.new.self.machine c.in-Adopt.history
    c.adopt.result c.adopt.ensures.adopts)

pub returns-in-Seal-clause-attempts : goal.returns-in-Seal-clause-attempts
returns-in-Seal-clause-attempts g c =
    attempts_seal c.args.self.now.machine c.seal.new.self.machine c.seal.result
    c.seal.ensures.seals

pub returns-in-Err-undo_one-clause-attempts : goal.returns-in-Err-undo_one-clause-attempts
returns-in-Err-undo_one-clause-attempts g c =
    attempts_not_undone c.args.self.now.machine c.undo_one.new.self.machine
    c.in-Err-undo_one.fault c.in-Err-undo_one.ensures.undoes

pub returns-in-Err-resolve-clause-attempts : goal.returns-in-Err-resolve-clause-attempts
returns-in-Err-resolve-clause-attempts g c =
    attempts_resolve c.args.self.now.machine c.resolve.new.self.machine c.in-Resolve.trans
    c.in-Resolve.verdict (Err c.in-Err-resolve.fault) c.in-Err-resolve.ensures.resolves

pub returns-in-Resync-clause-attempts : goal.returns-in-Resync-clause-attempts
returns-in-Resync-clause-attempts g c =
    attempts_resync c.args.self.now.machine c.resync.new.self.machine c.resync.result
    c.resync.ensures.resyncs

pub returns-in-LogWrite-clause-attempts : goal.returns-in-LogWrite-clause-attempts
returns-in-LogWrite-clause-attempts g c =
    attempts_log_write c.args.self.now.machine c.log_write.new.self.machine c.log_write.result
    c.log_write.ensures.writes

pub returns-in-Ready-clause-attempts : goal.returns-in-Ready-clause-attempts
returns-in-Ready-clause-attempts g c =
    attempts_ready c.args.self.now.machine c.ready.new.self.machine c.ready.result
    c.ready.ensures.readies

pub returns-in-Seal-clause-steps : goal.returns-in-Seal-clause-steps
returns-in-Seal-clause-steps g c =
    rw (c.in-Seal.is, c.done-in-Seal.ensures)
    (seals_step c.args.self.now.machine c.seal.new.self.machine c.seal.result
    c.seal.ensures.seals)

pub returns-in-MarkWrite-clause-attempts : goal.returns-in-MarkWrite-clause-attempts
returns-in-MarkWrite-clause-attempts g c =
    attempts_mark_write c.args.self.now.machine c.mark_write.new.self.machine c.mark_write.result
    c.mark_write.ensures.writes

pub returns-in-CkptPublish-clause-steps : goal.returns-in-CkptPublish-clause-steps
returns-in-CkptPublish-clause-steps g c =
    rw (c.in-CkptPublish.is, c.done-in-CkptPublish.ensures)
    (publishes_step c.args.self.now.machine c.ckpt_publish.new.self.machine c.ckpt_publish.result
    c.ckpt_publish.ensures.publishes)

pub returns-in-CkptPublish-clause-attempts : goal.returns-in-CkptPublish-clause-attempts
returns-in-CkptPublish-clause-attempts g c =
    attempts_publish c.args.self.now.machine c.ckpt_publish.new.self.machine c.ckpt_publish.result
    c.ckpt_publish.ensures.publishes
