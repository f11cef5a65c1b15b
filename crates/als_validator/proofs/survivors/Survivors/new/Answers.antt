use Rattle.std.proofs.Common.{ap}
use Rattle.als_record.specs.Transactions.{transactions, unended}
use Rattle.als_validator.specs.Lists.{lists_of}
use Rattle.als_validator.proofs.survivors.Survivors.new.Goals as goal

pub returns : goal.returns
unfolding unended transactions
returns c = ap lists_of c.new.ensures.items
