use Rattle.std.proofs.Common.{rules, ◌≡◌, ◌≤◌, Some, None, length, sym, ◌∙◌, refl}
use Rattle.std.specs.Prelude.{slice_get}
use Rattle.std.proofs.lemmas.Option.{slice_get-get_or}
use Rattle.als_record.specs.Pages.{change_of}
use Rattle.als_pages_check.proofs.CheckLaws.{AreChecked-none, AreChecked-beyond, AreChecked-noted}
use Rattle.als_pages_check.proofs.checks.Checks.note.Goals as goal

pub returns-in_default : goal.returns-in_default
returns-in_default c log checked =
    let none : change_of c.args.logged.now ≡ None = search rules in
    AreChecked-none c.args.self.now.pages.items log c.args.logged.now checked none

pub returns-then-place-len : goal.returns-then-place-len
returns-then-place-len c log checked =
    let pages = c.args.self.now.pages.items in
    let change = c.in-Some.change in
    let some : change_of c.args.logged.now ≡ Some change = sym c.change.ensures ∙ c.in-Some.is in
    let here : slice_get pages change.key.page ≡ Some c.index_mut.result.now = search (rules, slice_get-get_or) in
    AreChecked-noted pages log c.args.logged.now checked change some _ c.index_mut.result.now c.note.new.self here refl
    (record {
      block = c.note.ensures.block;
      page_lsn = c.note.ensures.page_lsn;
      redone_from = c.note.ensures.redone_from;
      below = c.note.ensures.below;
      above = c.note.ensures.above;
    })

pub returns-else-place-len : goal.returns-else-place-len
returns-else-place-len c log checked =
    let pages = c.args.self.now.pages.items in
    let change = c.in-Some.change in
    let some : change_of c.args.logged.now ≡ Some change = sym c.change.ensures ∙ c.in-Some.is in
    let beyond : length pages ≤ change.key.page = search rules in
    AreChecked-beyond pages log c.args.logged.now checked change some beyond
