use Rattle.als_engine.specs.Machine.{Machine}
use Rattle.als_lead.proofs.Going.{tidies_done, tidies_refused}
use Rattle.als_lead.proofs.Doing.{does_tidied, does_not_begin}
use Rattle.als_lead.proofs.writing.write_again.Goals as goal

pub returns-in-Ok-clause-does : goal.returns-in-Ok-clause-does
returns-in-Ok-clause-does g c a =
    let old : Machine = g.E.Events.machine c.args.engine.now in
    let tidied : Machine = g.E.Events.machine c.tidy.new.engine in
    let new : Machine = g.E.Events.machine c.write_once.new.engine in
    does_tidied old tidied new c.args.work.now c.write_once.result
    (tidies_done old tidied (c.in-Ok.ensures.done a) (c.tidy.ensures.keeps a))
    (c.write_once.ensures.does a)

pub returns-in-Err-clause-does : goal.returns-in-Err-clause-does
returns-in-Err-clause-does g c a =
    let old : Machine = g.E.Events.machine c.args.engine.now in
    let new : Machine = g.E.Events.machine c.tidy.new.engine in
    does_not_begin old new c.args.work.now c.not_begun.result
    (tidies_refused old new (c.in-Err.ensures.refused a) (c.tidy.ensures.keeps a))
    c.not_begun.ensures.not
