use Rattle.std.proofs.Common.{◌≡◌, List, ap, ◌∙◌, arith}
use Rattle.als_record.specs.declared.record.Record.{Record as AnyRecord}
use Rattle.als_record.specs.LogText.{end_of}
use Rattle.als_record.specs.Transactions.{greatest_trans}
use Rattle.als_record.specs.Table.{table_of}
use Rattle.als_record.specs.Tail.{reserve_of}
use Rattle.als_log.specs.History.{records_in}
use Rattle.als_lookback.specs.Doubts.{doubts_in}
use Rattle.als_lookback.specs.Judged.{Judged}
use Rattle.als_lookback.proofs.judge.Judge.standing.Goals as goal

pub returns : goal.returns
returns c =
    let i = c.self.invariant in
    let pages = c.self.inside.receiver.pages in
    let log : List AnyRecord = records_in c.self.inside.history in
    let same : log ≡ c.args.self.now.log = ap (λ (j : Judged). j.log) c.self.view_is in
    record {
      end_is = c.end.ensures;
      reserve_is = λ lt. c.reserve_bytes.ensures pages log i.known (omega (arith, lt, ap end_of same)) ∙ ap reserve_of same;
      greatest_is = c.greatest.ensures pages log i.known ∙ ap greatest_trans same;
      rows_are = c.in_ok-rows.ensures ∙ c.rows.ensures.rows pages log i.known ∙ ap table_of same;
      doubts_are = c.in_ok-doubts.ensures pages log i.known ∙ ap doubts_in same;
    }
