use Rattle.std.proofs.Common.{sym, ◌∙◌, subst}
use Rattle.std.proofs.lemmas.Bool.{true≢false}
use Rattle.als_record.specs.Shown.{shown, shown_image}
use Rattle.als_record.specs.declared.record.Body.TheVariants.{Update}
use Rattle.als_record.specs.Spelling.{IsBody}
use Rattle.als_validator.specs.Keys.{IsKeyOf}
use Rattle.als_record.proofs.Held.{held_by-other}
use Rattle.als_validator.proofs.Views.{shows_update, shows_no_update}
use Rattle.als_validator.proofs.HolderSteps.{held_by-kept}
use Rattle.als_validator.proofs.causes.holder_of.Goals as goal

pub returns-in-Some : goal.returns-in-Some
returns-in-Some c pages log are h v fits =
    let is = shows_update c.args.logged.now.body c.in-Update.key c.in-Update.before c.in-Update.after c.in-Update.is in
    let body : IsBody pages (Update c.in-Update.key (shown_image c.in-Update.before) (shown_image c.in-Update.after)) = subst (IsBody pages) is fits.body in
    let k : IsKeyOf c.in-Some.kept.now log c.in-Update.key = c.in-Some.ensures pages log are body.0 in
    c.holder_in.ensures log h ∙ sym (held_by-kept log (shown c.args.logged.now) c.in-Update.key (shown_image c.in-Update.before) (shown_image c.in-Update.after) v is c.in-Some.kept.now k)

pub returns-in-None : goal.returns-in-None
returns-in-None c pages log are h v fits =
    let is = shows_update c.args.logged.now.body c.in-Update.key c.in-Update.before c.in-Update.after c.in-Update.is in
    let body : IsBody pages (Update c.in-Update.key (shown_image c.in-Update.before) (shown_image c.in-Update.after)) = subst (IsBody pages) is fits.body in
    absurd (true≢false (c.in-None.ensures pages log are body.0))

pub returns-in_default : goal.returns-in_default
returns-in_default c pages log are h v fits = sym (held_by-other log (shown c.args.logged.now) (shows_no_update c.args.logged.now.body c.in_default.not-Update))
