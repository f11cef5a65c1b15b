use Rattle.std.proofs.Common.{◌≡◌, ◌<◌, ◌≢◌, length, get_or, set, ap, ◌∙◌, arith, below_more}
use Rattle.std.proofs.lemmas.List.{length-set, get_or_default, get_or-set_same, get_or-set_other}
use Rattle.als_record.specs.declared.transaction_row.TransactionRow.{TransactionRow}
use Rattle.als_analysis.specs.declared.open_row.OpenRow.{OpenRow}
use Rattle.als_analysis.specs.Open.{fresh_open}
use Rattle.als_takeover.specs.Next.{cursor_in}
use Rattle.als_takeover.proofs.undo.cursors_of.Goals as goal

pub loop-at-preserved : goal.loop-at-preserved
loop-at-preserved c =
    let at = c.loop-at.at in
    let rows = c.args.rows.now in
    let xs = c.loop-at.cursors in
    let v = c.cursor_of.result in
    let n : length xs ≡ 256 = c.loop-at.invariant.count in
    let lt : at < length rows = c.loop-at-test.true in
    let room : at < length xs = omega (arith, n, lt, c.requires) in
    record {
      count = length-set xs at v ∙ n;
      copied = below_more (λ k. (d : OpenRow) → get_or (set xs at v) k 0 ≡ cursor_in (get_or rows k d).row) at
          (λ k h. let ne : k ≢ at = omega arith in λ d. get_or-set_other xs at k v 0 ne ∙ c.loop-at.invariant.copied k h d)
          (λ d. get_or-set_same xs at v 0 room ∙ c.cursor_of.ensures ∙ ap (λ (r : TransactionRow). cursor_in r) c.row.ensures ∙ ap (λ (o : OpenRow). cursor_in o.row) (get_or_default rows at (fresh_open 0) d lt));
    }

pub returns : goal.returns
returns c k d lt = c.loop-at.invariant.copied k (omega (arith, lt, c.loop-at-test.false)) d
