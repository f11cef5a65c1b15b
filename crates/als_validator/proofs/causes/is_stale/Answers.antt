use Rattle.std.proofs.Common.{not, sym, ap, ◌∙◌, subst}
use Rattle.std.proofs.lemmas.Bool.{true≢false}
use Rattle.als_record.specs.Shown.{shown_image}
use Rattle.als_record.specs.declared.record.Body.TheVariants.{Update}
use Rattle.als_record.specs.Spelling.{IsBody}
use Rattle.als_record.specs.Images.{same_image}
use Rattle.als_record.specs.Validity.{before_image, saw_now}
use Rattle.als_validator.specs.Keys.{IsKeyOf}
use Rattle.als_validator.proofs.Views.{shows_update, shows_saw_now}
use Rattle.als_validator.proofs.causes.is_stale.Goals as goal

pub returns-in-Some : goal.returns-in-Some
unfolding before_image
returns-in-Some c pages log are fits =
    let is = shows_update c.args.logged.now.body c.in-Update.key c.in-Update.before c.in-Update.after c.in-Update.is in
    let body : IsBody pages (Update c.in-Update.key (shown_image c.in-Update.before) (shown_image c.in-Update.after)) = subst (IsBody pages) is fits.body in
    let k : IsKeyOf c.in-Some.kept.now log c.in-Update.key = c.in-Some.ensures pages log are body.0 in
    ap not (c.is.ensures ∙ ap (same_image (shown_image c.in-Update.before)) k.image ∙ ap (saw_now log) (sym is))

pub returns-in-None : goal.returns-in-None
returns-in-None c pages log are fits =
    let is = shows_update c.args.logged.now.body c.in-Update.key c.in-Update.before c.in-Update.after c.in-Update.is in
    let body : IsBody pages (Update c.in-Update.key (shown_image c.in-Update.before) (shown_image c.in-Update.after)) = subst (IsBody pages) is fits.body in
    absurd (true≢false (c.in-None.ensures pages log are body.0))

pub returns-in_default : goal.returns-in_default
unfolding before_image
returns-in_default c pages log are fits = ap not (sym (shows_saw_now log c.args.logged.now.body c.in_default.not-Update))
