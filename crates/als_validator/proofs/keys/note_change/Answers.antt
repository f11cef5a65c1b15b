use Rattle.std.proofs.Common.{◌≡◌, ◌<◌, ◌*◌, length, subst, arith}
use Rattle.als_record.specs.Shown.{shown, shown_image}
use Rattle.als_record.specs.declared.record.Body.TheVariants.{Compensation}
use Rattle.als_record.specs.Spelling.{IsBody}
use Rattle.als_validator.specs.Keys.{place_of}
use Rattle.als_validator.proofs.Bounds.{follows}
use Rattle.als_validator.proofs.KeySteps.{keys-undo, keys-quiet, place_of-below}
use Rattle.als_validator.proofs.Views.{shows_update, shows_compensation, shows_no_update, shows_no_compensation}
use Rattle.als_validator.proofs.keys.note_change.Goals as goal

pub returns-in-Update : goal.returns-in-Update
returns-in-Update c pages log are v =
    c.note_update.ensures pages log (shown_image c.in-Update.before) are (shows_update c.args.logged.now.body c.in-Update.key c.in-Update.before c.in-Update.after c.in-Update.is) v

pub returns-then-at-keys : goal.returns-then-at-keys
returns-then-at-keys c pages log are v =
    let is = shows_compensation c.args.logged.now.body c.in-Compensation.undo_next c.in-Compensation.key c.in-Compensation.after c.in-Compensation.is in
    keys-undo pages log (shown c.args.logged.now) c.args.keys.now are c.in-Compensation.undo_next c.in-Compensation.key (shown_image c.in-Compensation.after) is (follows pages log (shown c.args.logged.now) v) c.place-at.result c.place-at.ensures c.index-keys-at.result c.undo.new.self
    c.undo.ensures.image c.undo.ensures.holder c.undo.ensures.count

pub returns-else-at-keys : goal.returns-else-at-keys
returns-else-at-keys c pages log are v =
    let is = shows_compensation c.args.logged.now.body c.in-Compensation.undo_next c.in-Compensation.key c.in-Compensation.after c.in-Compensation.is in
    let fits : IsBody pages (Compensation c.in-Compensation.undo_next c.in-Compensation.key (shown_image c.in-Compensation.after)) = subst (IsBody pages) is (follows pages log (shown c.args.logged.now) v).fits.body in
    let below : place_of c.in-Compensation.key < pages * 15 = place_of-below pages c.in-Compensation.key fits.1.page fits.1.slot in
    let count : length c.args.keys.now ≡ pages * 15 = are.count in
    absurd (omega arith)

pub returns-in_default : goal.returns-in_default
returns-in_default c pages log are v =
    keys-quiet pages log (shown c.args.logged.now) c.args.keys.now are (shows_no_update c.args.logged.now.body c.in_default.not-Update) (shows_no_compensation c.args.logged.now.body c.in_default.not-Compensation)
