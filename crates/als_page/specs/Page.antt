-- What callers see of a page: its number, and its content.
use Rattle.std.specs.Prelude.{ℕ}
use Rattle.als_record.specs.Pages.{PageState}
use Rattle.als_page.specs.declared.page.Page.{Page}

-- the page's number
abbrev pub id_of : Page → ℕ
id_of page = page.id

-- its page_LSN and the images of its slots
abbrev pub state_of : Page → PageState
state_of page = record { lsn = page.lsn.0; slots = page.slots }
