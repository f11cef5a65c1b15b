use Rattle.std.proofs.Common.{subst, sym, ap, ◌∙◌, ◌∷◌, ◌++◌, List}
use Rattle.std.specs.List.{AllByRecursion}
use Rattle.als_lead.specs.declared.answer.Answer.{Answer}
use Rattle.als_lead.specs.declared.told.Told.{Told}
use Rattle.als_lead.specs.Answers.{asked_of}
use Rattle.als_lead.specs.Groups.{answer_after}
use Rattle.als_lead.proofs.Rounds.{tells_more, waits_less}
use Rattle.als_lead.proofs.telling.tell_all.Goals as goal

pub tell-result-requires : goal.tell-result-requires
tell-result-requires g c =
    let told : Told = c.in-Some.told in
    let may : AllByRecursion (λ (x : Told). g.C.Clients.may_tell x.asked (answer_after c.args.forced x.asked.work x.answer)) (told ∷ c.pop_front.new.self.items) =
    subst (λ (q : List Told). AllByRecursion (λ (x : Told). g.C.Clients.may_tell x.asked (answer_after c.args.forced x.asked.work x.answer)) q) c.in-Some.ensures.items c.tell.invariant.owed in
    record {
      may = subst (λ (a : Answer). g.C.Clients.may_tell told.asked a) (sym c.answer_after-answer.ensures) may.0;
      next = (asked_of c.pop_front.new.self.items, c.tell.invariant.waiting ∙ ap (λ (q : List Told). asked_of (g.C.Clients.told c.tell.clients) ++ asked_of q) c.in-Some.ensures.items);
    }

pub tell-preserved : goal.tell-preserved
tell-preserved g c = record {
  owed = (subst (λ (q : List Told). AllByRecursion (λ (x : Told). g.C.Clients.may_tell x.asked (answer_after c.args.forced x.asked.work x.answer)) q) c.in-Some.ensures.items c.tell.invariant.owed).1;
  waiting = waits_less (g.C.Clients.taken c.tell.clients) (g.C.Clients.taken c.tell-result.new.self) (g.C.Clients.told c.tell.clients) (g.C.Clients.told c.tell-result.new.self) c.in-Some.told
      c.answer_after-answer.result c.pop_front.new.self.items c.tell.queue.items c.tell-result.ensures.taken c.tell-result.ensures.told c.in-Some.ensures.items c.tell.invariant.waiting;
  told = tells_more c.args.forced (g.C.Clients.told c.tell.clients) (g.C.Clients.told c.tell-result.new.self) c.in-Some.told c.answer_after-answer.result c.pop_front.new.self.items c.tell.queue.items
      c.answer_after-answer.ensures c.tell-result.ensures.told c.in-Some.ensures.items ∙ c.tell.invariant.told;
  taken = c.tell-result.ensures.taken ∙ c.tell.invariant.taken;
}
