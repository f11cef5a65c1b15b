use Rattle.std.proofs.Common.{◌≤◌, [], length, sym, arith}
use Rattle.std.proofs.lemmas.List.{set_past}
use Rattle.als_validator.specs.Lists.{Left}
use Rattle.als_validator.proofs.survivors.make_room.Goals as goal

pub returns-then-at-len-clause-ok : goal.returns-then-at-len-clause-ok
returns-then-at-len-clause-ok c =
    let xs = c.args.lists.now.items in
    let past : length xs ≤ c.args.at = omega (arith, c.len.ensures, c.if-at-len.true) in
    let none : Left = record { left = []; room = 0 } in
    record { entry = none; is = sym (set_past xs c.args.at none past); left = λ d lt. absurd (omega arith); room = λ lt. absurd (omega arith) }
