use Rattle.als_lead.proofs.Going.{stays_trans}
use Rattle.als_lead.proofs.Failing.{refused_on}
use Rattle.als_lead.proofs.forcing.force.Goals as goal

pub returns-clause-refused : goal.returns-clause-refused
returns-clause-refused g c =
    let start = g.E.Events.machine c.args.engine.now in
    let written = g.E.Events.machine c.write_log.new.engine in
    let synced = g.E.Events.machine c.sync_log.new.engine in
    let marked = g.E.Events.machine c.write_mark.new.engine in
    refused_on g.E.Events.machine g.E.Events.alone start marked c.sync_control.result
    (λ a. stays_trans start synced marked (stays_trans start written synced (c.write_log.ensures.stays a) (c.sync_log.ensures.stays a)) (c.write_mark.ensures.stays a))
    c.sync_control.ensures.refused
