-- What the keys of the database have: now, by history repeated (Mohan et al., TODS 1992, section 3), and after a takeover.
use Rattle.std.specs.Prelude.{ℕ, ◌==◌, Bool, false, not, ◌&&◌, ◌||◌, List, Option, Some, None, fold, find, filter_map, if◌then◌else◌}
use Rattle.std.specs.Str.{bytes_eq}
use Rattle.als_record.specs.declared.key.Key.{Key}
use Rattle.als_record.specs.declared.change.Change.{Change}
use Rattle.als_record.specs.declared.record.Body.{Body}
use Rattle.als_record.specs.declared.record.Body.TheVariants.{Update}
use Rattle.als_record.specs.declared.record.Record.{Record}
use Rattle.als_record.specs.Spelling.{Image}
use Rattle.als_record.specs.Pages.{change_of}
use Rattle.als_record.specs.Transactions.{is_committed, is_in_doubt, all_surviving}

abbrev pub same_key : Key → Key → Bool
same_key a b = (a.page == b.page) && (a.slot == b.slot)

abbrev pub same_image : Image → Image → Bool
same_image None None = Bool.true
same_image (Some a) (Some b) = bytes_eq a.items b.items
same_image _ _ = false

-- what a key has after one more change
abbrev pub image_after : Key → Image → Change → Image
image_after k image change = if same_key change.key k then change.after else image

-- the last image that an update or compensation of the log writes at a key: history repeated; absent if none
unfoldable pub image_now : List Record → Key → Image
image_now log k = fold (image_after k) None (filter_map change_of log)

-- an update of this key
abbrev pub is_update_at : Key → Body → Bool
is_update_at k (Update key before after) = same_key key k
is_update_at k _ = false

-- the images of an update
abbrev pub image_before : Body → Image
image_before (Update key before after) = before
image_before _ = None

abbrev pub image_written : Body → Image
image_written (Update key before after) = after
image_written _ = None

-- the image of the record found, absent without one
abbrev pub image_of_found : Option Record → Image
image_of_found None = None
image_of_found (Some u) = image_written u.body

-- What the committed transactions leave at a key: the after image of the last update there that survives for a committed
-- transaction, absent if there is none. No pages, page_LSNs, undo, checkpoints or kept tables.
unfoldable pub won : List Record → Key → Image
won log k = image_of_found (find (λ u. is_update_at k u.body && is_committed log u.trans.0) (all_surviving log))

-- a transaction whose updates a takeover keeps: committed, or in doubt
abbrev pub is_kept : List Record → ℕ → Bool
is_kept log t = is_committed log t || is_in_doubt log t

-- What a takeover keeps at a key: the after image of the last update there that survives for a transaction that is committed or
-- in doubt, absent if there is none. What readers see is said by the word above: updates in doubt are kept and not read.
unfoldable pub kept : List Record → Key → Image
kept log k = image_of_found (find (λ u. is_update_at k u.body && is_kept log u.trans.0) (all_surviving log))

-- what a takeover would keep at a key if one transaction were left out
unfoldable pub kept_without : List Record → ℕ → Key → Image
kept_without log t k = image_of_found (find (λ u. is_update_at k u.body && (is_kept log u.trans.0 && not (u.trans.0 == t))) (all_surviving log))
