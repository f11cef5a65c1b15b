use Rattle.std.proofs.Common.{◌≡◌, ◌<◌, true, length, ap, ◌∙◌, subst, arith, vec_capacity}
use Rattle.als_validator.specs.Lists.{Left, Lists, MakesRoom, lists_of}
use Rattle.als_validator.proofs.ListSteps.{kept-made, map-made}
use Rattle.als_validator.proofs.survivors.Survivors.grow.Goals as goal

pub invariant_of-self-2 : goal.invariant_of-self-2
invariant_of-self-2 c =
    let xs = c.self.inside.lists.items in
    let made : MakesRoom xs c.make_room.new.lists.items c.self.inside.tight = subst (λ zs. MakesRoom zs c.make_room.new.lists.items c.self.inside.tight) c.reserve.ensures.items c.in_ok-make_room.ensures.ok in
    let place : length xs < vec_capacity c.make_room.new.lists = omega (arith, c.in_ok-reserve.ensures.ok, c.reserve.ensures.len, c.make_room.ensures.capacity) in
    let spare : 0 < length c.make_spare.new.spares.items = omega (arith, c.in_ok-make_spare.ensures.ok) in
    kept-made xs c.self.inside.spares.items c.self.inside.tight c.self.inside.lists.cap c.self.inside.has_room c.self.invariant c.make_room.new.lists.items c.make_spare.new.spares.items (vec_capacity c.make_room.new.lists) c.make_spare.ensures.all place spare made

pub returns-clause-ok : goal.returns-clause-ok
returns-clause-ok c =
    let xs = c.self.inside.lists.items in
    let made : MakesRoom xs c.make_room.new.lists.items c.self.inside.tight = subst (λ zs. MakesRoom zs c.make_room.new.lists.items c.self.inside.tight) c.reserve.ensures.items c.in_ok-make_room.ensures.ok in
    let left : lists_of c.make_room.new.lists.items ≡ lists_of xs = ap lists_of made.is ∙ map-made (λ (o : Left). o.left) xs c.self.inside.tight made.entry (made.left made.entry) in
    let now : lists_of xs ≡ c.args.self.now.lists = ap (λ (t : Lists). t.lists) c.self.view_is in
    let p = left ∙ now in
    λ i. record { lists = p i; has_room = true }
