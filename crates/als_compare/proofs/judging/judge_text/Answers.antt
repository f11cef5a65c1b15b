use Rattle.als_compare.proofs.Answering.{text_answers}
use Rattle.als_compare.proofs.judging.judge_text.Goals as goal

pub returns : goal.returns
returns c text sums =
    text_answers text c.args.own.now c.args.end c.args.question.now c.summary-summary.result c.judge_digest.result c.requires
    (c.summary-summary.ensures _ sums) c.judge_digest.ensures
