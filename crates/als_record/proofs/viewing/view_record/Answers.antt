use Rattle.std.proofs.Common.{arith}
use Rattle.als_record.specs.Shown.{shown_found}
use Rattle.als_record.proofs.ReadingLaws.{given_shown, given_only}
use Rattle.als_record.proofs.viewing.view_record.Goals as goal

pub returns-clause-found : goal.returns-clause-found
returns-clause-found c = given_shown c.args.pages c.args.at.0 c.args.bytes.now c.read.result (λ i. omega (arith, c.type_inv.bytes i)) c.read.ensures.exact

pub returns-clause-only : goal.returns-clause-only
returns-clause-only c = given_only shown_found c.args.pages c.args.at.0 c.args.bytes.now c.read.result c.read.ensures.exact
