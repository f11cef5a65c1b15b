-- Worked tables: the rows as the log goes on and images are written and synced.
use Rattle.std.proofs.Common.{◌≡◌, ℕ, List, [], ◌∷◌, Option, Some, None, replicate, map, refl}
use Rattle.std.specs.Prelude.{slice_set}
use Rattle.als_record.specs.declared.lsn.Lsn.{Lsn}
use Rattle.als_record.specs.declared.key.Key.{Key}
use Rattle.als_record.specs.declared.rows.LoggedPage.{LoggedPage}
use Rattle.als_record.specs.declared.record.Body.{Body}
use Rattle.als_record.specs.declared.record.Body.TheVariants.{Update, Commit, End}
use Rattle.als_record.specs.declared.record.Record.{Record}
use Rattle.als_record.specs.Spelling.{Image}
use Rattle.als_record.specs.Pages.{changes_on, changes_above}
use Rattle.als_dirty.specs.declared.dirty_page.DirtyPage.{DirtyPage}
use Rattle.als_dirty.specs.Entries.{untouched_page, entry_of, after_record, after_write, after_sync}
use Rattle.als_dirty.specs.Rows.{rows_of}
use Rattle.als_dirty.specs.Images.{first_lsn}

-- ---- how the tables are written here

abbrev lsn : ℕ → Lsn
lsn n = record { 0 = n }

abbrev row : ℕ → ℕ → LoggedPage
row page n = record { page = page; rec_lsn = lsn n }

abbrev routed : ℕ → ℕ → List DirtyPage → List DirtyPage
routed page n pages = slice_set pages page (after_record (entry_of pages page) (lsn n))

abbrev written : ℕ → Option Lsn → List DirtyPage → List DirtyPage
written page next pages = slice_set pages page (after_write (entry_of pages page) next)

abbrev synced : List DirtyPage → List DirtyPage
synced pages = map after_sync pages

abbrev two_pages : List DirtyPage
two_pages = replicate 2 untouched_page

-- ---- one image, written and synced

new-rows : rows_of two_pages ≡ []
new-rows = refl

abbrev changed : List DirtyPage
changed = routed 0 16 two_pages

changed-rows : rows_of changed ≡ row 0 16 ∷ []
changed-rows = refl

-- a write alone moves no row: a crash may still leave the empty image
abbrev flushed : List DirtyPage
flushed = written 0 None changed

flushed-rows : rows_of flushed ≡ row 0 16 ∷ []
flushed-rows = refl

stored-rows : rows_of (synced flushed) ≡ []
stored-rows = refl

-- the next record on the page gives it a row again
changed_again-rows : rows_of (routed 0 116 (synced flushed)) ≡ row 0 116 ∷ []
changed_again-rows = refl

-- a sync with no write in front of it moves no row
synced_early-rows : rows_of (synced changed) ≡ row 0 16 ∷ []
synced_early-rows = refl

-- ---- an image that lacks records by the time of the sync

-- written with one record above it
lagging-rows : rows_of (synced (written 0 (Some (lsn 80)) (routed 0 80 changed))) ≡ row 0 80 ∷ []
lagging-rows = refl

-- records that came between the write and the sync
between-rows : rows_of (synced (routed 0 116 (routed 0 80 flushed))) ≡ row 0 80 ∷ []
between-rows = refl

-- the second of two images written since the sync counts
newest-rows : rows_of (synced (written 0 None (written 0 (Some (lsn 80)) (routed 0 80 changed)))) ≡ []
newest-rows = refl

-- ---- two pages: rows in rising page, each by itself

both-rows : rows_of (routed 0 80 (routed 1 16 two_pages)) ≡ row 0 80 ∷ row 1 16 ∷ []
both-rows = refl

one_stored-rows : rows_of (synced (written 0 None (routed 0 80 (routed 1 16 two_pages)))) ≡ row 1 16 ∷ []
one_stored-rows = refl

-- ---- what the log has above an image

abbrev at : ℕ → ℕ → Body → Record
at n prev body = record { lsn = lsn n; prev = lsn prev; trans = record { 0 = 1 }; body = body }

abbrev byte : ℕ → Image
byte value = Some (record { items = value ∷ [] })

abbrev key : Key
key = record { page = 0; slot = 0 }

-- an update, its commit and its end
abbrev ended : List Record
ended = at 16 0 (Update key None (byte 0xaa)) ∷ at 52 16 Commit ∷ at 80 52 End ∷ []

above_nothing : first_lsn (changes_above ended 0 0) ≡ Some (lsn 16)
unfolding changes_above changes_on
above_nothing = refl

above_update : first_lsn (changes_above ended 0 16) ≡ None
unfolding changes_above changes_on
above_update = refl

above_elsewhere : first_lsn (changes_above ended 1 0) ≡ None
unfolding changes_above changes_on
above_elsewhere = refl
