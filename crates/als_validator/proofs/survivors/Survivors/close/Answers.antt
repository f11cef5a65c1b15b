use Rattle.std.proofs.Common.{◌≡◌, ◌<◌, true, length, sym, ap, ◌∙◌, subst, arith}
use Rattle.std.specs.List.{remove}
use Rattle.std.proofs.lemmas.List.{length-map}
use Rattle.als_analysis.proofs.KeptSteps.{remove-map}
use Rattle.als_validator.specs.Lists.{Left, Lists, AreKept, lists_of}
use Rattle.als_validator.proofs.ListSteps.{kept-remove}
use Rattle.als_validator.proofs.survivors.Survivors.close.Goals as goal

pub invariant_of-self : goal.invariant_of-self
invariant_of-self c =
    let xs = c.self.inside.lists.items in
    let ready : c.self.inside.has_room ≡ true = ap (λ (t : Lists). t.has_room) c.self.view_is ∙ c.requires.room in
    let n : length (lists_of xs) ≡ length xs = length-map xs (λ o. o.left) in
    let m : length (lists_of xs) ≡ length c.args.self.now.lists = ap (λ (t : Lists). length t.lists) c.self.view_is in
    let lt : c.args.at < length xs = omega (arith, c.requires.within) in
    let k = subst (λ b. AreKept xs c.self.inside.spares.items c.self.inside.tight b c.self.inside.lists.cap) ready c.self.invariant in
    rw (c.remove-ended.ensures.items, c.remove-ended.ensures.capacity) (kept-remove xs c.self.inside.spares.items c.self.inside.tight c.self.inside.lists.cap k c.keep_spare.new.spares.items c.args.at lt c.keep_spare.ensures)

pub returns : goal.returns
returns c =
    let xs = c.self.inside.lists.items in
    let n : length (lists_of xs) ≡ length xs = length-map xs (λ o. o.left) in
    let m : length (lists_of xs) ≡ length c.args.self.now.lists = ap (λ (t : Lists). length t.lists) c.self.view_is in
    let lt : c.args.at < length xs = omega (arith, c.requires.within) in
    ap lists_of c.remove-ended.ensures.items ∙ sym (remove-map (λ (o : Left). o.left) xs c.args.at lt) ∙ ap (λ (t : Lists). remove t.lists c.args.at) c.self.view_is
