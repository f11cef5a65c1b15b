use Rattle.std.proofs.Common.{◌≡◌, ◌<◌, ◌*◌, length, subst, arith}
use Rattle.als_record.specs.Shown.{shown, shown_image}
use Rattle.als_record.specs.declared.record.Body.TheVariants.{Update}
use Rattle.als_record.specs.Spelling.{IsBody}
use Rattle.als_validator.specs.Keys.{place_of}
use Rattle.als_validator.proofs.Bounds.{follows}
use Rattle.als_validator.proofs.KeySteps.{keys-update, place_of-below}
use Rattle.als_validator.proofs.keys.note_update.Goals as goal

pub returns-then-at-keys : goal.returns-then-at-keys
returns-then-at-keys c pages log before are is v =
    keys-update pages log (shown c.args.logged.now) c.args.keys.now are c.args.key before (shown_image c.args.after.now) is (follows pages log (shown c.args.logged.now) v) c.place-at.result c.place-at.ensures c.index-keys-at.result c.update.new.self
    c.update.ensures.image c.update.ensures.holder c.update.ensures.count

pub returns-else-at-keys : goal.returns-else-at-keys
returns-else-at-keys c pages log before are is v =
    let fits : IsBody pages (Update c.args.key before (shown_image c.args.after.now)) = subst (IsBody pages) is (follows pages log (shown c.args.logged.now) v).fits.body in
    let below : place_of c.args.key < pages * 15 = place_of-below pages c.args.key fits.0.page fits.0.slot in
    let count : length c.args.keys.now ≡ pages * 15 = are.count in
    absurd (omega arith)
