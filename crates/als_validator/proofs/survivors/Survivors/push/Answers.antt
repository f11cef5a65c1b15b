use Rattle.std.proofs.Common.{◌≡◌, ◌<◌, true, length, get_or, set, sym, ap, ◌∙◌, subst, arith}
use Rattle.std.proofs.lemmas.List.{length-map, get_or-map, map-set}
use Rattle.als_record.specs.Shown.{shown}
use Rattle.als_validator.specs.Lists.{Left, Lists, AreKept, lists_of, left_after}
use Rattle.als_validator.proofs.ListSteps.{kept-set}
use Rattle.als_validator.proofs.survivors.Survivors.push.Goals as goal

pub invariant_of-self : goal.invariant_of-self
invariant_of-self c =
    let xs = c.self.inside.lists.items in
    let ready : c.self.inside.has_room ≡ true = ap (λ (t : Lists). t.has_room) c.self.view_is ∙ c.requires.room in
    let n : length (lists_of xs) ≡ length xs = length-map xs (λ o. o.left) in
    let m : length (lists_of xs) ≡ length c.args.self.now.lists = ap (λ (t : Lists). length t.lists) c.self.view_is in
    let lt : c.args.at < length xs = omega (arith, c.requires.within) in
    let k = subst (λ b. AreKept xs c.self.inside.spares.items c.self.inside.tight b c.self.inside.lists.cap) ready c.self.invariant in
    kept-set xs c.self.inside.spares.items c.self.inside.tight c.self.inside.lists.cap k c.args.at c.push.new.self lt c.has_room-self-inside.result (λ f. c.has_room-self-inside.ensures.0 f)

pub returns : goal.returns
returns c d =
    let xs = c.self.inside.lists.items in
    let e = c.index_mut-entry.result.now in
    let n : length (lists_of xs) ≡ length xs = length-map xs (λ o. o.left) in
    let m : length (lists_of xs) ≡ length c.args.self.now.lists = ap (λ (t : Lists). length t.lists) c.self.view_is in
    let lt : c.args.at < length xs = omega (arith, c.requires.within) in
    map-set (λ (o : Left). o.left) xs c.args.at c.push.new.self
    ∙ ap (λ left. set (lists_of xs) c.args.at left) (c.push.ensures ∙ ap (λ left. left_after left (shown c.args.logged.now) (shown c.args.logged.now).body) (ap (λ (p : Left). p.left) c.index_mut-entry.ensures.value ∙ sym (get_or-map (λ (o : Left). o.left) xs c.args.at e d lt)))
    ∙ ap (λ (t : Lists). set t.lists c.args.at (left_after (get_or t.lists c.args.at d) (shown c.args.logged.now) (shown c.args.logged.now).body)) c.self.view_is
