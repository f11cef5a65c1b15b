use Rattle.als_lead.proofs.Going.{tidies_by}
use Rattle.als_lead.proofs.serving.tidy_owed.Goals as goal

pub returns-clause-tidies : goal.returns-clause-tidies
returns-clause-tidies g c = tidies_by g.E.Events.alone (g.E.Events.machine c.args.engine.now) (g.E.Events.machine c.tidy.new.engine) c.tidy.result c.tidy.ensures.done c.tidy.ensures.refused c.tidy.ensures.keeps
