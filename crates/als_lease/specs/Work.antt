-- What the memory of a lease keeps.
use Rattle.std.specs.Prelude.{◌≡◌, ℕ, ◌≤◌, List, length, take, drop}
use Rattle.als_record.specs.declared.change.Change.{Change}
use Rattle.als_record.specs.Pages.{PageState}
use Rattle.als_page.specs.Changes.{AreNext, redone_all}

-- At most 64 changes, each of which redo can take after those before it; the working page is the base with the first of them.
pub record IsKept (id : ℕ) (base : PageState) (changes : List Change) (count done working_id : ℕ) (working : PageState) : Type 0 where
  pub most : count ≤ 64
  pub places : length changes ≡ 64
  pub within : done ≤ count
  pub same_page : working_id ≡ id
  pub folded : working ≡ redone_all base (take done (take count changes))
  pub next : AreNext id base.lsn (take count changes)
  pub left : AreNext id working.lsn (drop done (take count changes))
