use Rattle.als_analysis.proofs.LogSteps.{stands-found, row-absent}
use Rattle.als_analysis.proofs.trans_table.TransTable.place.Goals as goal

pub returns-in-Some-clause-stands : goal.returns-in-Some-clause-stands
returns-in-Some-clause-stands c log h = stands-found log c.args.self.now c.in-Some.at c.args.trans.0 h c.in-Some.ensures.within c.in-Some.ensures.here

pub returns-in-None-clause-stands : goal.returns-in-None-clause-stands
returns-in-None-clause-stands c log h = row-absent log c.args.self.now c.args.trans.0 h c.in-None.ensures.none
