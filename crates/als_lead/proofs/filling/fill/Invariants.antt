use Rattle.std.specs.Prelude.{◌≡◌}
use Rattle.als_writer.specs.Changes.{AreBounds}
use Rattle.als_lead.specs.Groups.{Fills}
use Rattle.als_lead.specs.Leading.{AllTold}
use Rattle.als_lead.specs.Confirming.{IsTriedOf, IsBegunOf}
use Rattle.als_lead.proofs.filling.fill.Given as goal

abbrev pub invariant-loop : goal.invariant-loop
invariant-loop g l = record {
  fills : Fills g.E.Events.alone (g.E.Events.machine l.fn.engine) (g.E.Events.machine l.engine) (g.C.Clients.taken l.fn.clients) (g.C.Clients.taken l.clients) l.fn.queue.items l.queue.items;
  tried : AllTold IsTriedOf l.fn.queue.items l.queue.items;
  begun : AllTold IsBegunOf l.fn.queue.items l.queue.items;
  told : g.C.Clients.told l.clients ≡ g.C.Clients.told l.fn.clients;
  bounds : g.E.Events.alone → AreBounds l.changes (g.E.Events.machine l.engine).held.pages (g.E.Events.machine l.engine).held.log;
  book : g.E.Events.book l.engine ≡ g.E.Events.book l.fn.engine;
}
