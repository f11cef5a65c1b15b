use Rattle.std.proofs.Common.{rules, ◌≡◌, ◌++◌, ◌∷◌, [], List, get_or, None, sym, ◌∙◌, ap₂}
use Rattle.std.proofs.lemmas.List.{take_more}
use Rattle.std.proofs.lemmas.Option.{slice_get-get_or}
use Rattle.als_record.specs.Spelling.{Image}
use Rattle.als_page.specs.Page.{state_of}
use Rattle.als_pages_check.proofs.page_check.has_images.Goals as goal

pub loop-slot-preserved : goal.loop-slot-preserved
loop-slot-preserved c =
    let a : List Image = (state_of c.args.page.now).slots in
    let b : List Image = c.args.slots.now in
    let i = c.loop-slot.slot in
    let same : get_or a i None ≡ get_or b i None = search (rules, slice_get-get_or) in
    take_more a i None (search rules) ∙ ap₂ (λ (xs : List Image) (x : Image). xs ++ x ∷ []) c.loop-slot.invariant same ∙ sym (take_more b i None (search rules))
