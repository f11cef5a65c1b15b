use Rattle.std.proofs.Common.{rules, ◌≡◌, sym, ◌∙◌, ap}
use Rattle.std.specs.Int.{to_le_bytes, w64}
use Rattle.std.proofs.lemmas.Nat.{le_bytes_8}
use Rattle.als_page.proofs.same.same_eight.Goals as goal

pub returns : goal.returns
returns c =
    let found : to_le_bytes w64 c.from_le_bytes.result ≡ c.args.one = le_bytes_8 c.args.one c.from_le_bytes.result (search rules) (search rules) (search rules) in
    let found-2 : to_le_bytes w64 c.from_le_bytes-2.result ≡ c.args.other = le_bytes_8 c.args.other c.from_le_bytes-2.result (search rules) (search rules) (search rules) in (
      (λ same. sym found ∙ ap (to_le_bytes w64) (search rules) ∙ found-2),
      (λ same. search rules),
    )
