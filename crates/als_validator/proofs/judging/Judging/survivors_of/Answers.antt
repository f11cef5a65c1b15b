use Rattle.std.proofs.Common.{refl, ◌∙◌}
use Rattle.als_analysis.specs.Noted.{StandsAt}
use Rattle.als_validator.proofs.ListSteps.{list-standing}
use Rattle.als_validator.proofs.judging.Judging.survivors_of.Goals as goal

pub returns-in-Some : goal.returns-in-Some
returns-in-Some c log are table =
    let s : StandsAt log c.args.trans.0 c.in-Some.at = c.in-Some.ensures.stands log table in
    rw s.is_open (c.at.ensures ∙ list-standing log c.args.self.now.survivors.lists c.args.trans.0 c.in-Some.at are s)

pub returns-in-None : goal.returns-in-None
returns-in-None c log are table = let f = c.in-None.ensures.stands log table in rw f refl
