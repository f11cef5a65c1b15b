use Rattle.std.proofs.Common.{subst, sym}
use Rattle.als_epochs.specs.Judging.{Judges}
use Rattle.als_epochs.proofs.JudgingLaws.{judged-means}
use Rattle.als_epochs.proofs.judging.judge.Goals as goal

pub returns-clause-words : goal.returns-clause-words
returns-clause-words c =
    subst (Judges c.args.own.now c.args.offered.now c.args.end.0) (sym c.judgement.ensures)
    (judged-means c.args.own.now c.args.offered.now c.args.end.0)
