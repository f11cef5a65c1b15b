use Rattle.std.proofs.Common.{◌≡◌, ◌*◌, length, arith}
use Rattle.als_validator.proofs.KeySteps.{keys-none}
use Rattle.als_validator.proofs.keys.unwritten_keys.Goals as goal

pub returns-clause-ok : goal.returns-clause-ok
returns-clause-ok c =
    let n : length c.loop.keys.items ≡ c.args.pages * 15 = omega arith in
    keys-none c.args.pages c.loop.keys.items n c.loop.invariant.1
