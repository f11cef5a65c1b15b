use Rattle.std.proofs.Common.{◌∙◌}
use Rattle.als_view.specs.Views.{all_by}
use Rattle.als_view.proofs.Moves.{moves_more}
use Rattle.als_view.proofs.publisher.Publisher.take_first.Goals as goal

pub loop-preserved : goal.loop-preserved
loop-preserved c =
    let same = c.take_next.ensures.same in
    record {
      moved = moves_more c.loop.counter (all_by c.args.self.now) c.args.waiting.now.queued (all_by c.loop.self) c.loop.waiting.queued (all_by c.take_next.new.self) c.take_next.new.waiting.queued
          c.loop.invariant.moved c.in_ok-take_next.ensures.moves;
      same = (same.0 ∙ c.loop.invariant.same.0, same.1 ∙ c.loop.invariant.same.1);
      published = c.take_next.ensures.published ∙ c.loop.invariant.published;
    }
