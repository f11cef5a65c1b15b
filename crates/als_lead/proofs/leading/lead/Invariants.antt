use Rattle.std.specs.Prelude.{◌≡◌, []}
use Rattle.als_writer.specs.Changes.{AreBounds}
use Rattle.als_lead.specs.Leading.{Leads, AllTold}
use Rattle.als_lead.specs.Confirming.{IsShown, IsConfirmedOf, IsCarriedOut, IsExcusedOf}
use Rattle.als_lead.specs.Answers.{asked_of}
use Rattle.als_lead.specs.Owed.{Owes}
use Rattle.als_lead.proofs.leading.lead.Given as goal

abbrev pub invariant-loop : goal.invariant-loop
invariant-loop g l = record {
  leads : Leads g.E.Events.alone (g.E.Events.machine l.fn.engine) (g.E.Events.machine l.engine) (g.C.Clients.taken l.fn.clients) (g.C.Clients.taken l.clients) (g.C.Clients.told l.fn.clients) (g.C.Clients.told l.clients);
  confirmed : g.E.Events.alone → AllTold (IsConfirmedOf (g.U.Upkeep.confirmed l.upkeep) (g.E.Events.machine l.engine)) (g.C.Clients.told l.fn.clients) (g.C.Clients.told l.clients);
  works : AllTold (IsCarriedOut (g.U.Upkeep.missed l.upkeep)) (g.C.Clients.told l.fn.clients) (g.C.Clients.told l.clients);
  known : g.E.Events.alone → AllTold (IsExcusedOf (g.U.Upkeep.missed l.upkeep) g.E.Events.machine (g.E.Events.machine l.engine)) (g.C.Clients.told l.fn.clients) (g.C.Clients.told l.clients);
  shown : g.E.Events.alone → IsShown (g.U.Upkeep.confirmed l.upkeep) (g.E.Events.machine l.fn.engine) (g.E.Events.machine l.engine);
  fresh : g.C.Clients.taken l.clients ≡ asked_of (g.C.Clients.told l.clients);
  owed : Owes g.E.Events.alone g.E.Events.machine g.U.Upkeep.confirmed g.U.Upkeep.missed g.U.Upkeep.alike g.U.Upkeep.failed l.engine l.upkeep g.C.Clients.may_tell;
  empty : l.queue.items ≡ [];
  bounds : g.E.Events.alone → AreBounds l.changes (g.E.Events.machine l.engine).held.pages (g.E.Events.machine l.engine).held.log;
  book : g.E.Events.book l.engine ≡ g.E.Events.book l.fn.engine;
}
