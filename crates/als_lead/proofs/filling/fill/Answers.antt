use Rattle.std.proofs.Common.{refl, ◌∙◌}
use Rattle.als_lead.specs.declared.told.Told.{Told}
use Rattle.als_lead.specs.Confirming.{IsTriedOf, IsBegunOf}
use Rattle.als_lead.proofs.Rounds.{fills_none, fills_more, one_taken}
use Rattle.als_lead.proofs.Confirms.{told_none, told_both}
use Rattle.als_lead.proofs.filling.fill.Goals as goal

pub loop-init : goal.loop-init
loop-init g c = record {
  fills = fills_none g.E.Events.alone (g.E.Events.machine c.args.engine.now) (g.C.Clients.taken c.args.clients.now) c.args.queue.now.items;
  tried = told_none IsTriedOf c.args.queue.now.items c.args.queue.now.items refl;
  begun = told_none IsBegunOf c.args.queue.now.items c.args.queue.now.items refl;
  told = refl;
  bounds = c.requires.bounded;
  book = refl;
}

pub loop-preserved : goal.loop-preserved
loop-preserved g c =
    let x : Told = record { asked = c.in-Some.asked; answer = c.take.ensures.does.0 } in
    record {
      fills = fills_more g.E.Events.alone (g.E.Events.machine c.args.engine.now) (g.E.Events.machine c.loop.engine) (g.E.Events.machine c.take.new.engine)
          (g.C.Clients.taken c.args.clients.now) (g.C.Clients.taken c.loop.clients) (g.C.Clients.taken c.next.new.self)
          c.args.queue.now.items c.loop.queue.items c.take.new.queue.items x c.loop.invariant.fills
          (one_taken (g.C.Clients.taken c.loop.clients) (g.C.Clients.taken c.next.new.self) c.in_ok-asked.field-0 c.in-Some.asked c.in-Some.is c.in_ok-asked.ensures.taken)
          c.take.ensures.does.1 c.take.ensures.does.2;
      tried = told_both IsTriedOf IsTriedOf c.args.queue.now.items c.loop.queue.items c.take.new.queue.items (λ y h. h) c.loop.invariant.tried c.take.ensures.tried;
      begun = told_both IsBegunOf IsBegunOf c.args.queue.now.items c.loop.queue.items c.take.new.queue.items (λ y h. h) c.loop.invariant.begun c.in_ok-take.ensures.begun;
      told = c.next.ensures.told ∙ c.loop.invariant.told;
      bounds = c.take.ensures.bounds;
      book = c.take.ensures.book ∙ c.loop.invariant.book;
    }

pub returns-in_err-take-clause-fills : goal.returns-in_err-take-clause-fills
returns-in_err-take-clause-fills g c =
    let x : Told = record { asked = c.in-Some.asked; answer = c.take.ensures.does.0 } in
    fills_more g.E.Events.alone (g.E.Events.machine c.args.engine.now) (g.E.Events.machine c.loop.engine) (g.E.Events.machine c.take.new.engine)
    (g.C.Clients.taken c.args.clients.now) (g.C.Clients.taken c.loop.clients) (g.C.Clients.taken c.next.new.self)
    c.args.queue.now.items c.loop.queue.items c.take.new.queue.items x c.loop.invariant.fills
    (one_taken (g.C.Clients.taken c.loop.clients) (g.C.Clients.taken c.next.new.self) c.in_ok-asked.field-0 c.in-Some.asked c.in-Some.is c.in_ok-asked.ensures.taken)
    c.take.ensures.does.1 c.take.ensures.does.2

pub returns-in_err-take-clause-tried : goal.returns-in_err-take-clause-tried
returns-in_err-take-clause-tried g c =
    told_both IsTriedOf IsTriedOf c.args.queue.now.items c.loop.queue.items c.take.new.queue.items (λ y h. h) c.loop.invariant.tried c.take.ensures.tried
