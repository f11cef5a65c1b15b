use Rattle.std.proofs.Common.{◌∙◌, ap, arith}
use Rattle.als_record.specs.HeaderReading.{read_header}
use Rattle.als_record.proofs.HeaderLaws.{given_header, header_again}
use Rattle.als_record.proofs.header.LogHeader.decode.Goals as goal

pub returns-clause-found : goal.returns-clause-found
returns-clause-found c = given_header c.args.bytes.now c.read.result (λ i. omega (arith, c.type_inv.bytes i)) c.read.ensures

pub returns-clause-only : goal.returns-clause-only
returns-clause-only c = λ pages rest low high e. c.read.ensures ∙ ap read_header e ∙ header_again pages rest low high
