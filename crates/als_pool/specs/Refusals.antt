-- Why a page is not lent, and why it is not written: tests that compute.
use Rattle.std.specs.Prelude.{ℕ, Bool, true, false, not, ◌&&◌, ◌||◌, nat_eq, nat_le, List, [], ◌∷◌, length, Option, Some, None, is_none, is_some}
use Rattle.als_record.specs.declared.change.Change.{Change}
use Rattle.als_frames.specs.Frames.{Framed, Paged, frame_of}
use Rattle.als_frames.specs.Leases.{lent_of}
use Rattle.als_pool.specs.Queues.{pending_of}
use Rattle.als_pool.specs.Pooled.{Pooled, PageView}

-- ---- leases

-- a page is lent
abbrev pub is_lent : Pooled → ℕ → Bool
is_lent v page = is_some (lent_of v.frames page)

-- all numbers of leases are given
abbrev pub are_spent : Pooled → Bool
are_spent v = is_none v.next

-- there are changes
abbrev pub are_some : List Change → Bool
are_some [] = false
are_some (change ∷ rest) = true

-- changes wait for a page
abbrev pub has_waiting : Pooled → ℕ → Bool
has_waiting v page = are_some (pending_of v.waits page)

-- no other page can have this frame, if it is one: the page in it is lent, or is not the image last synced
abbrev pub is_taken : Option Framed → Bool
is_taken None = true
is_taken (Some f) = is_some f.lent || not (nat_eq f.content.lsn f.synced)

-- so it is with each of the frames
abbrev pub are_taken : Paged → List (ℕ × Framed) → Bool
are_taken v [] = true
are_taken v (entry ∷ rest) = is_taken (frame_of v entry.0) && are_taken v rest

-- the page has no frame, all frames are used, and none of them is free
abbrev pub is_full : Pooled → ℕ → Bool
is_full v page = is_none (frame_of v.frames page) && nat_le v.frames.most (length v.frames.frames) && are_taken v.frames v.frames.frames

-- ---- images

-- a page is resident, and is not the image last written
abbrev pub is_due : PageView → Bool
is_due page = page.resident && not (nat_eq page.written page.now)

-- the log is not acknowledged past a page's page_LSN
abbrev pub is_behind : PageView → ℕ → Bool
is_behind page acknowledged = nat_le acknowledged page.now
