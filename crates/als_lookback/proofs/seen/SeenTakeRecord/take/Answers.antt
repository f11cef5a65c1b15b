use Rattle.std.proofs.Common.{[], ◌∷◌, ◌++◌, sym, subst}
use Rattle.als_record.specs.Shown.{shown}
use Rattle.als_lookback.specs.Seen.{Seen, IsSeenOf}
use Rattle.als_lookback.proofs.SeenLaws.{seen_more}
use Rattle.als_lookback.proofs.seen.SeenTakeRecord.take.Goals as goal

pub returns-in_ok-add-clause-ok : goal.returns-in_ok-add-clause-ok
returns-in_ok-add-clause-ok c pages log known valid fits place good bytes count is =
    let found = rw c.in-Some.is at (c.in_ok-commit.ensures.ok pages log known valid fits place good) in
    let longer = log ++ shown c.args.logged.now ∷ [] in
    subst (λ (s : Seen). IsSeenOf s count longer) (sym c.in_ok-add.ensures.ok) (seen_more c.args.self.now count log longer c.in-Some.commit is found)
