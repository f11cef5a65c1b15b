use Rattle.std.proofs.Common.{◌≡◌, [], ◌∷◌, ◌++◌, sym, subst}
use Rattle.als_record.specs.Shown.{shown}
use Rattle.als_record.specs.Commits.{commits_of}
use Rattle.als_lookback.specs.Past.{Past, past_of}
use Rattle.als_lookback.proofs.PastLaws.{past_more, past_same}
use Rattle.als_lookback.proofs.past.PastCommitsTakeRecord.take.Goals as goal

pub returns-in_ok-add-clause-ok : goal.returns-in_ok-add-clause-ok
returns-in_ok-add-clause-ok c pages log known valid fits place good bytes from is =
    let found = rw c.in-Some.is at (c.in_ok-commit.ensures.ok pages log known valid fits place good) in
    let longer = log ++ shown c.args.logged.now ∷ [] in
    subst (λ (p : Past). p ≡ past_of from (commits_of longer)) (sym c.in_ok-add.ensures.ok) (past_more from c.args.self.now log longer c.in-Some.commit is found)
