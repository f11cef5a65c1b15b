use Rattle.std.proofs.Common.{rules}
use Rattle.std.proofs.lemmas.Nat.{be_bytes_8}
use Rattle.als_compare.proofs.numbers.long_of.Goals as goal

pub returns : goal.returns
returns c = be_bytes_8 c.args.bytes c.from_be_bytes.result (search rules) (search rules) (search rules)
