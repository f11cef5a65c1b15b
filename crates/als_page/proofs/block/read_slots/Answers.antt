use Rattle.std.proofs.Common.{◌≡◌, ◌*◌, ◌+◌, ◌-◌, ◌<◌, ◌≤◌, List, length, get_or, Option, Some, None, sym, ◌∙◌, ap, arith, length-set}
use Rattle.als_record.specs.Spelling.{Image}
use Rattle.als_page.proofs.SlotsLaws.{read-more, fits-set, slot-of_bytes, flat-injective, flat-whole, fits-whole}
use Rattle.als_page.proofs.block.read_slots.Goals as goal

pub returns-in_err-images-clause-only : goal.returns-in_err-images-clause-only
returns-in_err-images-clause-only c images count fit is =
    let i = c.loop-i.i in
    let lt : i < length images = omega arith in
    let n : 32 * i + 32 - 32 * i ≡ 32 = omega arith in
    let (here, fits) = slot-of_bytes c.args.bytes.now images i (32 * i + 32 - 32 * i) lt n fit is in
    let none : c.read_slot.result ≡ None = c.in_err-images.was in
    let some' : c.read_slot.result ≡ Some (get_or images i None) = c.read_slot.ensures.only (get_or images i None) fits here in
    absurd (cc)

pub loop-i-preserved : goal.loop-i-preserved
loop-i-preserved c =
    let i = c.loop-i.i in
    let n = 32 * i + 32 - 32 * i in
    let size : n ≡ 32 = omega arith in
    let lt : i < length c.loop-i.images = omega arith in
    let read = c.in_ok-images.ensures in
    record {
      len = length-set c.loop-i.images i c.in_ok-images.field-0 ∙ c.loop-i.invariant.len;
      found = read-more c.loop-i.images i n c.in_ok-images.field-0 c.args.bytes.now lt size read.found.0 c.loop-i.invariant.found;
      fits = fits-set c.loop-i.images i c.in_ok-images.field-0 lt c.loop-i.invariant.fits read.found.1;
    }

pub returns-clause-found : goal.returns-clause-found
returns-clause-found c =
    let images' : length c.loop-i.images ≤ c.loop-i.i = omega arith in
    let bytes' : length c.args.bytes.now ≤ 32 * c.loop-i.i = omega arith in
    (flat-whole c.loop-i.images c.loop-i.i c.args.bytes.now images' bytes' c.loop-i.invariant.found, c.loop-i.invariant.len, fits-whole c.loop-i.images c.loop-i.i images' c.loop-i.invariant.fits)

pub returns-clause-only : goal.returns-clause-only
returns-clause-only c images count fit is =
    let images' : length c.loop-i.images ≤ c.loop-i.i = omega arith in
    let bytes' : length c.args.bytes.now ≤ 32 * c.loop-i.i = omega arith in
    let to_found : List Image → Option (List Image) = λ xs. Some xs in
    ap to_found (flat-injective c.loop-i.images images (c.loop-i.invariant.len ∙ sym count) (fits-whole c.loop-i.images c.loop-i.i images' c.loop-i.invariant.fits) fit
    (sym (flat-whole c.loop-i.images c.loop-i.i c.args.bytes.now images' bytes' c.loop-i.invariant.found) ∙ is))
