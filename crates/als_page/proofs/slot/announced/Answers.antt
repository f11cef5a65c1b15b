use Rattle.std.proofs.Common.{◌≡◌, ◌<◌, Option, Some, get_or, refl, arith, ap, ◌∙◌}
use Rattle.als_page.proofs.SlotLaws.{slot_bytes-absent, slot_bytes-present, slot_bytes-first}
use Rattle.als_record.specs.Spelling.{Image}
use Rattle.als_page.proofs.slot.announced.Goals as goal

pub returns-in-0 : goal.returns-in-0
returns-in-0 c image fits is =
    let to_found : Image → Option Image = λ i. Some i in
    ap to_found (c.absent.ensures ∙ slot_bytes-absent c.args.bytes.now image is c.in-0.is)

pub returns-in-1-to-32 : goal.returns-in-1-to-32
returns-in-1-to-32 c image fits is =
    let to_found : Image → Option Image = λ i. Some i in
    let n = get_or c.args.bytes.now 0 0 in
    let here : n ≡ n = refl in
    let some' : 0 < n = omega arith in
    ap to_found (c.of.ensures.kept ∙ slot_bytes-present c.args.bytes.now n image is here some')

pub returns-in_default : goal.returns-in_default
returns-in_default c image fits is = absurd (omega (arith, slot_bytes-first image fits, ap (λ xs. get_or xs 0 0) is))
