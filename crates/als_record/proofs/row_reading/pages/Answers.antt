use Rattle.std.proofs.Common.{arith, length-append, [], ◌∷◌}
use Rattle.als_record.specs.Reading.{pages_at}
use Rattle.als_record.proofs.RowSteps.{pages_step, pages_end}
use Rattle.als_record.proofs.row_reading.pages.Goals as goal

pub loop-preserved : goal.loop-preserved
loop-preserved c =
    let step = pages_step c.loop.rows (pages_at c.args.count c.args.bytes.now) c.args.count c.loop.counter c.loop.rest.now c.loop-test.true c.loop.invariant.told in
    record {
      told = rw (c.in_ok-push.ensures.ok, c.split_at.ensures.back, c.page.ensures) step;
      size = omega arith;
      len = rw (c.in_ok-push.ensures.ok) (omega (arith, length-append c.loop.rows (c.page.result ∷ [])));
    }

pub returns : goal.returns
returns c = pages_end c.loop.rows (pages_at c.args.count c.args.bytes.now) c.args.count c.loop.counter c.loop.rest.now c.loop-test.false c.loop.invariant.told
