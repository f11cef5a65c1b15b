-- What is answered to who reads commits before the log with which a primary began is confirmed, and once too few standbys answer it.
use Rattle.std.specs.Prelude.{ℕ, Bool, ◌||◌, ◌≡◌, ◌⊎◌, true, false, List, codes, bytes_eq}
use Rattle.als_http.specs.Asking.{asked_by}
use Rattle.als_http.specs.declared.asked.Asked.{Asked}
use Rattle.als_http.specs.declared.asked.Asked.TheVariants.{Value, Page, Many}
use Rattle.als_asking.specs.declared.denied.Denied.{Denied as AnyDenied}
use Rattle.als_asking.specs.declared.denied.Denied.TheVariants.{Early, Unheard}
use Rattle.als_asking.specs.declared.told.Told.{Told}
use Rattle.als_asking.specs.declared.told.Told.TheVariants.{Denied}

-- keys are asked for: one, those of a page, or those that a body names
abbrev pub reads_keys : Asked → Bool
reads_keys (Value key) = true
reads_keys (Page page) = true
reads_keys Many = true
reads_keys asked = false

-- the answer to a request for this path tells of commits: it is of keys, or lists what is in doubt
abbrev pub reads_commits : List ℕ → Bool
reads_commits path = bytes_eq path (codes "/in-doubt") || reads_keys (asked_by path)

-- it is denied for the standbys' sake
abbrev pub IsWithheld : AnyDenied → Type 0
IsWithheld why = (why ≡ Early) ⊎ (why ≡ Unheard)
