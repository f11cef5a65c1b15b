-- The changes that wait for pages.
use Rattle.std.specs.Prelude.{◌≡◌, ℕ, ◌<◌, ◌≤◌, Bool, false, List, [], length, map, nat_lt, slice_index_or, filter, Option, Some, None}
use Rattle.std.specs.List.{sum_by}
use Rattle.als_record.specs.declared.change.Change.{Change}
use Rattle.als_lease.specs.Queue.{flag_of}

-- what waits for each page, and for which pages there is room for one more change
pub record Waiting : Type 0 where
  pub waits : List (List Change)
  pub places : List Bool

-- what waits for a page
abbrev pub pending_of : List (List Change) → ℕ → List Change
pending_of waits page = slice_index_or waits page []

-- there is room for one more change of a page
abbrev pub has_place : List Bool → ℕ → Bool
has_place places page = slice_index_or places page false

-- for each page 1 where changes wait for it, else 0
abbrev pub flags_of : List (List Change) → List ℕ
flags_of waits = map flag_of waits

-- the first page from a number on whose flag is set
abbrev pub IsNextFlag : List ℕ → ℕ → Option ℕ → Type 0
IsNextFlag flags from None = (page : ℕ) → from ≤ page → slice_index_or flags page 0 ≡ 1 → ⊥
IsNextFlag flags from (Some page) = (from ≤ page) × (page < length flags) × (slice_index_or flags page 0 ≡ 1)
    × ((other : ℕ) → from ≤ other → other < page → slice_index_or flags other 0 ≡ 1 → ⊥)

-- how many changes wait, over all pages
abbrev pub total_waiting : List (List Change) → ℕ
total_waiting waits = sum_by (λ changes. length changes) waits

-- the first page from a number on for which changes wait
abbrev pub WaitsFirst : List (List Change) → ℕ → Option ℕ → Type 0
WaitsFirst waits from None = (page : ℕ) → from ≤ page → pending_of waits page ≡ []
WaitsFirst waits from (Some page) = (from ≤ page) × (page < length waits) × (pending_of waits page ≡ [] → ⊥)
    × ((other : ℕ) → from ≤ other → other < page → pending_of waits other ≡ [])

-- the changes above an LSN
abbrev pub above : ℕ → List Change → List Change
above lsn changes = filter (λ change. nat_lt lsn change.lsn.0) changes
