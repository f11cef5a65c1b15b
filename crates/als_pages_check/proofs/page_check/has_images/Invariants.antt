use Rattle.std.proofs.Common.{◌≡◌, take}
use Rattle.als_page.specs.Page.{state_of}
use Rattle.als_pages_check.proofs.page_check.has_images.Given as goal

abbrev pub invariant-loop-slot : goal.invariant-loop-slot
invariant-loop-slot l = take l.slot (state_of l.page).slots ≡ take l.slot l.slots
