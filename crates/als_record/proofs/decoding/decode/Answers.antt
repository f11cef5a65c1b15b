use Rattle.std.proofs.Common.{arith, ℕ, Option}
use Rattle.als_record.specs.declared.record.Record.{Record}
use Rattle.als_record.proofs.ReadingLaws.{given_found, given_only, given_memory, given_rows}
use Rattle.als_record.proofs.decoding.decode.Goals as goal

pub returns-clause-found : goal.returns-clause-found
returns-clause-found c = given_found c.args.pages c.args.at.0 c.args.bytes.now c.copied.result (λ i. omega (arith, c.type_inv.bytes i)) c.copied.ensures.exact

pub returns-clause-only : goal.returns-clause-only
returns-clause-only c = given_only (λ (o : Option (Record × ℕ)). o) c.args.pages c.args.at.0 c.args.bytes.now c.copied.result c.copied.ensures.exact

pub returns-clause-memory : goal.returns-clause-memory
returns-clause-memory c = given_memory c.args.pages c.args.at.0 c.args.bytes.now c.copied.result (λ i. omega (arith, c.type_inv.bytes i)) c.copied.ensures.memory

pub returns-clause-rows : goal.returns-clause-rows
returns-clause-rows c = given_rows c.args.pages c.args.at.0 c.args.bytes.now c.copied.result c.copied.ensures.memory
