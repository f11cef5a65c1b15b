use Rattle.std.proofs.Common.{◌≡◌, ◌<◌, true, length, ap, ◌∙◌, subst, arith, Some}
use Rattle.std.specs.List.{All}
use Rattle.std.proofs.lemmas.List.Elements.{All-pop}
use Rattle.als_validator.specs.Lists.{Left, Lists, AreKept}
use Rattle.als_validator.proofs.ListSteps.{kept-push}
use Rattle.als_validator.proofs.survivors.Survivors.begin.Goals as goal

pub invariant_of-self : goal.invariant_of-self
invariant_of-self c =
    let xs = c.self.inside.lists.items in
    let ready : c.self.inside.has_room ≡ true = ap (λ (t : Lists). t.has_room) c.self.view_is ∙ c.requires in
    let k = subst (λ b. AreKept xs c.self.inside.spares.items c.self.inside.tight b c.self.inside.lists.cap) ready c.self.invariant in
    let spared : All (λ o. 0 < o.room) c.pop.new.self.items = (All-pop (λ (o : Left). 0 < o.room) c.self.inside.spares.items c.pop.new.self.items (Some c.in-Some.fresh) c.in-Some.ensures.items c.self.invariant.spared).0 in
    let l : c.len-self-inside.result ≡ length xs = omega (arith, c.len-self-inside.ensures) in
    rw (c.push_reserved.ensures.items, l, c.push_reserved.ensures.capacity) (kept-push xs c.self.inside.spares.items c.self.inside.tight c.self.inside.lists.cap k c.pop.new.self.items c.extend.new.self spared)
