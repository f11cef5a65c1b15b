use Rattle.als_engine.specs.Machine.{Machine}
use Rattle.als_writer.specs.declared.not_decided.NotDecided.TheVariants as undecided
use Rattle.als_writer.specs.declared.refusal.Refusal.TheVariants as refusal
use Rattle.als_lead.proofs.Doing.{refused_again, undecided_again}
use Rattle.als_lead.proofs.writing.write_tidily.Goals as goal

pub returns-in-Refused-Untidy-clause-does : goal.returns-in-Refused-Untidy-clause-does
returns-in-Refused-Untidy-clause-does g c a =
    let old : Machine = g.E.Events.machine c.args.engine.now in
    let mid : Machine = g.E.Events.machine c.write_once.new.engine in
    let new : Machine = g.E.Events.machine c.write_again.new.engine in
    refused_again old mid new c.args.work.now refusal.Untidy c.write_again.result
    (rw c.in-Refused-Untidy.field-0-is at (c.in-Refused-Untidy.ensures.does a))
    (c.write_again.ensures.does a)

pub returns-in-NotDecided-Untidy-clause-does : goal.returns-in-NotDecided-Untidy-clause-does
returns-in-NotDecided-Untidy-clause-does g c a =
    let old : Machine = g.E.Events.machine c.args.engine.now in
    let mid : Machine = g.E.Events.machine c.write_once.new.engine in
    let new : Machine = g.E.Events.machine c.write_again-in-NotDecided-Untidy.new.engine in
    undecided_again old mid new c.args.work.now undecided.Untidy c.write_again-in-NotDecided-Untidy.result
    (rw c.in-NotDecided-Untidy.field-0-is at (c.in-NotDecided-Untidy.ensures.does a))
    (c.write_again-in-NotDecided-Untidy.ensures.does a)
