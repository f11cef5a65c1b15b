use Rattle.als_analysis.specs.Open.{fresh_open}
use Rattle.als_lookback.proofs.DoubtLaws.{IsRowOf, row-of, doubts-next, doubts-all}
use Rattle.als_lookback.proofs.doubt.doubts_of.Goals as goal

pub loop-i-preserved : goal.loop-i-preserved
loop-i-preserved c = record {
  so_far = λ pages log known.
      let i = c.loop-i.i in
      let r : IsRowOf log i c.row.result = row-of log c.rows-rows.result.now i (fresh_open 0) c.row.result (c.rows-rows.ensures.rows pages log known) c.loop-i-test.true c.row.ensures in
      doubts-next log i c.row.result c.loop-i.doubts.items c.add_doubt.new.doubts.items r (c.loop-i.invariant.so_far pages log known) (c.in_ok-add_doubt.ensures pages log known r.open_one);
}

pub returns : goal.returns
returns c pages log known = doubts-all log c.rows-rows.result.now c.loop-i.i c.loop-i.doubts.items (c.rows-rows.ensures.rows pages log known) c.loop-i-test.false (c.loop-i.invariant.so_far pages log known)
