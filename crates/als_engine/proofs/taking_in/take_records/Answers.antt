use Rattle.std.proofs.lemmas.Result.{err_from_is_err_and}
use Rattle.als_engine.proofs.TakingLaws.{so_far_start, so_far_more, one_shorter, front_from_so_far}
use Rattle.als_engine.proofs.ReaderLaws.{goes_on_still, goes_on_then}
use Rattle.als_engine.proofs.RoomLaws.{room_behind}
use Rattle.als_engine.proofs.taking_in.take_records.Goals as goal

pub loop-init : goal.loop-init
loop-init g c = record {
  goes_on = goes_on_still c.args.held.now.stored.log c.args.shown.now;
  so_far =
      so_far_start c.args.held.now.stored c.args.receiver.now c.requires.meets;
  room = λ room. room;
}

pub loop-smaller : goal.loop-smaller
loop-smaller g c =
    let one = rw c.if-branch.true at c.in_ok-take_next.ensures.ok in
    one_shorter c.loop.held.stored c.take_next.new.held.stored c.loop.receiver
    c.take_next.new.receiver one

pub loop-preserved : goal.loop-preserved
loop-preserved g c =
    let one = rw c.if-branch.true at c.in_ok-take_next.ensures.ok in
    record {
      goes_on = goes_on_then c.args.held.now.stored.log c.loop.held.stored.log
          c.take_next.new.held.stored.log c.args.shown.now c.loop.shown c.take_next.new.shown
          c.loop.invariant.goes_on c.take_next.ensures.goes_on;
      so_far = so_far_more c.args.held.now.stored c.loop.held.stored c.take_next.new.held.stored
          c.args.receiver.now.kept c.loop.receiver c.take_next.new.receiver
          c.loop.invariant.so_far one;
      room = λ room. room_behind c.loop.held c.take_next.new.held c.loop.receiver
          c.take_next.new.receiver one (c.loop.invariant.room room);
    }

pub returns-in_err-take_next-clause-err : goal.returns-in_err-take_next-clause-err
returns-in_err-take_next-clause-err g c =
    let p = err_from_is_err_and c.from_residual.result c.from_residual.ensures.1 in
    let refused = c.in_err-take_next.ensures.err in
    rw (p.1, p.2, refused.0) (front_from_so_far c.args.held.now.stored c.loop.held.stored
    c.args.receiver.now.kept c.loop.receiver c.in_err-take_next.field-0.0
    c.loop.invariant.so_far refused.1)

pub returns-in_err-take_next-clause-goes_on : goal.returns-in_err-take_next-clause-goes_on
returns-in_err-take_next-clause-goes_on g c =
    goes_on_then c.args.held.now.stored.log c.loop.held.stored.log
    c.take_next.new.held.stored.log c.args.shown.now c.loop.shown c.take_next.new.shown
    c.loop.invariant.goes_on c.take_next.ensures.goes_on

pub returns-clause-goes_on : goal.returns-clause-goes_on
returns-clause-goes_on g c =
    goes_on_then c.args.held.now.stored.log c.loop.held.stored.log
    c.take_next.new.held.stored.log c.args.shown.now c.loop.shown c.take_next.new.shown
    c.loop.invariant.goes_on c.take_next.ensures.goes_on
