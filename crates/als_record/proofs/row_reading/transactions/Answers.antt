use Rattle.std.proofs.Common.{arith, length-append, [], ◌∷◌}
use Rattle.als_record.specs.Reading.{transactions_at}
use Rattle.als_record.proofs.RowSteps.{transactions_step, transactions_end}
use Rattle.als_record.proofs.row_reading.transactions.Goals as goal

pub loop-preserved : goal.loop-preserved
loop-preserved c =
    let step = transactions_step c.loop.rows (transactions_at c.args.count c.args.bytes.now) c.args.count c.loop.counter c.loop.rest.now c.loop-test.true c.loop.invariant.told in
    record {
      told = rw (c.in_ok-push.ensures.ok, c.split_at.ensures.back, c.transaction.ensures) step;
      size = omega arith;
      len = rw (c.in_ok-push.ensures.ok) (omega (arith, length-append c.loop.rows (c.transaction.result ∷ [])));
    }

pub returns : goal.returns
returns c = transactions_end c.loop.rows (transactions_at c.args.count c.args.bytes.now) c.args.count c.loop.counter c.loop.rest.now c.loop-test.false c.loop.invariant.told
