use Rattle.std.proofs.Common.{[], refl}
use Rattle.als_lead.specs.Account.{taken_of, told_of}
use Rattle.als_lead.proofs.Rounds.{leads_none}
use Rattle.als_commit.proofs.Due.{due_by_itself}
use Rattle.als_commit.proofs.command.write_as.Goals as goal

pub lead-requires : goal.lead-requires
lead-requires g c = record {
  fresh = refl;
  owed = λ e u asked answer keeps misses same due.
      c.requires.owed asked answer (λ a. (e, due_by_itself g.E.Events.machine c.args.engine.now e u asked.work answer (due a)));
}

pub returns-in_err-new-clause-leads : goal.returns-in_err-new-clause-leads
returns-in_err-new-clause-leads g c = ([], [], leads_none g.E.Events.alone (g.E.Events.machine c.args.engine.now) [] [])

pub returns-clause-leads : goal.returns-clause-leads
returns-clause-leads g c = (taken_of c.lead.new.clients.account, told_of c.lead.new.clients.account, c.lead.ensures.leads)
