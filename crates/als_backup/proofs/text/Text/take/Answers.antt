use Rattle.std.proofs.Common.{rules, ◌<◌, length, arith}
use Rattle.std.proofs.lemmas.Result.{err_from_is_err_and}
use Rattle.als_backup.specs.Texts.{held_in}
use Rattle.als_backup.proofs.Texts.{length_held, sums_end, take_refused}
use Rattle.als_backup.proofs.text.Text.take.Goals as goal

pub add-requires : goal.add-requires
add-requires c =
    let room : length c.args.piece.now < 9223372036854775808 = search (rules, arith) in
    record {
      room = omega (arith, room, sums_end c.self.inside.summing (held_in c.self.inside.judge) c.self.invariant.2, length_held c.self.inside.judge, c.position.ensures, c.if-position-gt-LOG_LIMIT.false);
    }

pub returns-in_err-judge_whole-clause-fails : goal.returns-in_err-judge_whole-clause-fails
returns-in_err-judge_whole-clause-fails c =
    let found = take_refused c.self.inside.judge c.push.new.self c.judge_whole.new.judge c.args.piece.now c.in_err-judge_whole.field-0.0 c.in_ok-push.ensures.ok c.self.invariant.1 c.in_err-judge_whole.ensures.text c.in_err-judge_whole.ensures.valid c.in_err-judge_whole.ensures.fails in
    let p = err_from_is_err_and c.from_residual-in_err-judge_whole.result c.from_residual-in_err-judge_whole.ensures.1 in
    rw (← c.self.view_is) (rw (p.1, p.2) found)
