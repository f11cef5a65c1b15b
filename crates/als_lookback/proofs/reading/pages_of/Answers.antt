use Rattle.std.proofs.Common.{◌≡◌, length, take, ap, ◌∙◌, arith}
use Rattle.std.proofs.lemmas.List.{length-take}
use Rattle.als_record.proofs.HeaderLaws.{length-header_bytes}
use Rattle.als_lookback.proofs.reading.pages_of.Goals as goal

pub returns-in-Ok-Some-clause-ok : goal.returns-in-Ok-Some-clause-ok
returns-in-Ok-Some-clause-ok c =
    let found = rw c.in-Ok-Some.field-0-is at c.in-Ok-Some.ensures.found in
    let size : length (take 16 c.args.front.now) ≡ 16 = ap length found.0 ∙ length-header_bytes c.in-Ok-Some.header.pages in
    (found.0, omega (arith, size, length-take 16 c.args.front.now))
