-- The rows of a checkpoint, and where the changes of each page begin to wait.
use Rattle.std.proofs.Common.{◌≡◌, ◌⊎◌, ℕ, zero, suc, ◌+◌, ◌-◌, ◌<◌, ◌≤◌, ◌==◌, max, if◌then◌else◌, true, false, List, [], ◌∷◌, length, Option, Some, None, inl, inr, refl, sym, ap, subst, ◌∙◌, eq-eqb, ne_eqb, arith}
use Rattle.std.specs.Prelude.{IsTrue, IfSome}
use Rattle.std.specs.List.{AllByRecursion, cons_option, enumerate_from, filter_map}
use Rattle.std.specs.Option.{option_map}
use Rattle.std.proofs.lemmas.Bool.{cases_eq, cond-true, cond-false}
use Rattle.als_record.specs.declared.lsn.Lsn.{Lsn}
use Rattle.als_record.specs.declared.change.Change.{Change}
use Rattle.als_record.specs.declared.record.Record.{Record}
use Rattle.als_record.specs.declared.rows.LoggedPage.{LoggedPage}
use Rattle.als_record.specs.LogText.{end_of, follow_from}
use Rattle.als_record.specs.Pages.{changes_above, IsChangeAbove}
use Rattle.als_record.proofs.PageLaws.{changes_above-each}
use Rattle.als_frames.specs.Frames.{Framed, frame_of}
use Rattle.als_frames.specs.Images.{synced_lsn}
use Rattle.als_dirty.specs.declared.dirty_page.DirtyPage.{DirtyPage}
use Rattle.als_dirty.specs.Entries.{entry_of}
use Rattle.als_dirty.specs.Images.{first_lsn}
use Rattle.als_dirty.specs.Rows.{row_of, rows_of}
use Rattle.als_pool.specs.Queues.{pending_of}
use Rattle.als_pool.specs.Pooled.{Pooled, unread_of}
use Rattle.als_pool.specs.Images.{IsPageOf, IsPoolOf, IsCovered}
use Rattle.als_pool.specs.Restart.{at_first, row_after, row_in, or_from, start_of, IsRowBelow, CoversPages}
use Rattle.als_pool.proofs.PoolLaws.{covered-page}

-- ---- rows below a position

abbrev IsUnder : ℕ → Option Lsn → Type 0
IsUnder end found = IfSome found (λ row. row.0 < end)

under-one : (row : LoggedPage) (position : Lsn) (page end : ℕ) (found : Option Lsn) → position.0 ≤ end → IsRowBelow position row → IsUnder end found → IsUnder end (if row.page == page then Some (at_first row.rec_lsn) else found)
under-one row position page end found le low h =
    elim (cases_eq row.page page) [
      | inl same ↦
          let here : max 16 row.rec_lsn.0 < end = omega (arith, le, low.0, low.1) in
          subst (IsUnder end) (sym (cond-true (row.page == page) (Some (at_first row.rec_lsn)) found (eq-eqb row.page page same))) here
      | inr ne ↦ subst (IsUnder end) (sym (cond-false (row.page == page) (Some (at_first row.rec_lsn)) found (ne_eqb row.page page ne))) h
    ]

under-rows : (rows : List LoggedPage) (position : Lsn) (page end : ℕ) (found : Option Lsn) → position.0 ≤ end → AllByRecursion (IsRowBelow position) rows → IsUnder end found → IsUnder end (row_after found rows page)
under-rows [] position page end found le listed h = h
under-rows (row ∷ rows) position page end found le listed h =
    under-rows rows position page end (if row.page == page then Some (at_first row.rec_lsn) else found) le listed.1 (under-one row position page end found le listed.0 h)

-- the row of a page is below what the position is not above
pub row-under : (rows : List LoggedPage) (position : Lsn) (page end : ℕ) → position.0 ≤ end → AllByRecursion (IsRowBelow position) rows → IfSome (row_in rows page) (λ row. row.0 < end)
row-under rows position page end le listed = under-rows rows position page end None le listed tt

or-reached : (given : Option Lsn) (position : Lsn) (end : ℕ) → position.0 ≤ end → 16 ≤ end → IsUnder end given → (or_from given (at_first position)).0 ≤ end
or-reached None position end le least h = omega (arith, le, least)
or-reached (Some row) position end le least h = omega (arith, h)

-- a log that has reached the position has reached where changes begin to wait
pub start-reached : (rows : List LoggedPage) (position : Lsn) (page end : ℕ) → position.0 ≤ end → 16 ≤ end → AllByRecursion (IsRowBelow position) rows → (start_of position rows page).0 ≤ end
start-reached rows position page end le least listed = or-reached (row_in rows page) position end le least (row-under rows position page end le listed)

-- ---- the rows of a dirty page table

-- the row found before, or else this one
abbrev kept : Option Lsn → Option Lsn → Option Lsn
kept found None = found
kept found (Some lsn) = Some (at_first lsn)

abbrev numbered : ℕ → Option Lsn → Option LoggedPage
numbered from o = option_map (λ lsn. record { page = from; rec_lsn = lsn }) o

abbrev rows_from : ℕ → List DirtyPage → List LoggedPage
rows_from from ds = filter_map row_of (enumerate_from from ds)

head-other : (o found : Option Lsn) (rest : List LoggedPage) (from page : ℕ) → (from == page) ≡ false → row_after found (cons_option (numbered from o) rest) page ≡ row_after found rest page
head-other None found rest from page ne = refl
head-other (Some lsn) found rest from page ne = rw ne refl

head-same : (o found : Option Lsn) (rest : List LoggedPage) (from page : ℕ) → (from == page) ≡ true → row_after found (cons_option (numbered from o) rest) page ≡ row_after (kept found o) rest page
head-same None found rest from page e = refl
head-same (Some lsn) found rest from page e = rw e refl

none-lower : (ds : List DirtyPage) (from page : ℕ) (found : Option Lsn) → page < from → row_after found (rows_from from ds) page ≡ found
none-lower [] from page found lt = refl
none-lower (d ∷ ds) from page found lt =
    head-other d.synced found (rows_from (from + 1) ds) from page (ne_eqb from page (λ e. omega (arith, e, lt))) ∙ none-lower ds (from + 1) page found (omega (arith, lt))

found-from : (ds : List DirtyPage) (from i page : ℕ) (found : Option Lsn) → page ≡ from + i → i < length ds → row_after found (rows_from from ds) page ≡ kept found (entry_of ds i).synced
found-from [] from i page found at lt = absurd (omega arith)
found-from (d ∷ ds) from zero page found at lt =
    head-same d.synced found (rows_from (from + 1) ds) from page (eq-eqb from page (omega (arith, at))) ∙ none-lower ds (from + 1) page (kept found d.synced) (omega (arith, at))
found-from (d ∷ ds) from (suc i) page found at lt =
    let below : i < length ds = omega arith in
    let there : page ≡ from + 1 + i = omega (arith, at) in
    head-other d.synced found (rows_from (from + 1) ds) from page (ne_eqb from page (λ e. omega (arith, e, at))) ∙ found-from ds (from + 1) i page found there below

-- a page's row among all rows
pub row-found : (ds : List DirtyPage) (page : ℕ) → page < length ds → row_in (rows_of ds) page ≡ kept None (entry_of ds page).synced
row-found ds page lt = found-from ds 0 page page None (omega arith) lt

all-cons : (P : LoggedPage → Type 0) (o : Option LoggedPage) (rest : List LoggedPage) → IfSome o P → AllByRecursion P rest → AllByRecursion P (cons_option o rest)
all-cons P None rest h all = all
all-cons P (Some row) rest h all = (h, all)

some-row : (P : LoggedPage → Type 0) (from : ℕ) (o : Option Lsn) → IfSome o (λ lsn. P (record { page = from; rec_lsn = lsn })) → IfSome (numbered from o) P
some-row P from None h = tt
some-row P from (Some lsn) h = h

all-from : (P : LoggedPage → Type 0) (from : ℕ) (ds : List DirtyPage) → ((i : ℕ) → i < length ds → IfSome (entry_of ds i).synced (λ lsn. P (record { page = from + i; rec_lsn = lsn }))) → AllByRecursion P (rows_from from ds)
all-from P from [] h = tt
all-from P from (d ∷ ds) h =
    let here : from + 0 ≡ from = omega arith in
    let first : IfSome d.synced (λ lsn. P (record { page = from; rec_lsn = lsn })) = subst (λ (k : ℕ). IfSome d.synced (λ lsn. P (record { page = k; rec_lsn = lsn }))) here (h 0 (omega arith)) in
    all-cons P (numbered from d.synced) (rows_from (from + 1) ds) (some-row P from d.synced first) (all-from P (from + 1) ds (λ i lt.
    let place : from + suc i ≡ from + 1 + i = omega arith in
    subst (λ (k : ℕ). IfSome (entry_of ds i).synced (λ lsn. P (record { page = k; rec_lsn = lsn }))) place (h (suc i) (omega (arith, lt)))))

-- what holds of each row
pub all-rows_of : (P : LoggedPage → Type 0) (ds : List DirtyPage) → ((i : ℕ) → i < length ds → IfSome (entry_of ds i).synced (λ lsn. P (record { page = i; rec_lsn = lsn }))) → AllByRecursion P (rows_of ds)
all-rows_of P ds h = all-from P 0 ds (λ i lt.
    let place : i ≡ 0 + i = omega arith in
    subst (λ (k : ℕ). IfSome (entry_of ds i).synced (λ lsn. P (record { page = k; rec_lsn = lsn }))) place (h i lt))

-- ---- the rows of a pool of a log are a checkpoint's

-- the LSN is that of a record below an end
abbrev IsLsnBelow : ℕ → Lsn → Type 0
IsLsnBelow end lsn = (16 ≤ lsn.0) × (lsn.0 < end)

first-below : (cs : List Change) (page low end : ℕ) → AllByRecursion (IsChangeAbove page low end) cs → IfSome (first_lsn cs) (IsLsnBelow end)
first-below [] page low end h = tt
first-below (c ∷ cs) page low end h = (h.0.first, h.0.last)

module _ (log : List Record) (follow : IsTrue (follow_from 16 log)) where
  -- by what the table has of the page
  lsn-below : (page low : ℕ) (o : Option Lsn) → o ≡ first_lsn (changes_above log page low) → IfSome o (IsLsnBelow (end_of log))
  lsn-below page low o is =
      subst (λ (x : Option Lsn). IfSome x (IsLsnBelow (end_of log))) (sym is) (first-below (changes_above log page low) page low (end_of log) (changes_above-each log page low follow))

  row-below : (page s : ℕ) (frame : Option Framed) (e : DirtyPage) (w : List Change) (u : Option Lsn) → IsPageOf log page frame s e w u → IfSome e.synced (IsLsnBelow (end_of log))
  row-below page s frame e w None h = lsn-below page s e.synced h.row.synced_first.first
  row-below page s frame e w (Some from) h = by_row h.row
    where
      by_row : ((e.synced ≡ Some from) × (from.0 < end_of log)) ⊎ (e.synced ≡ first_lsn w) → IfSome e.synced (IsLsnBelow (end_of log))
      by_row (inl given) = subst (λ (x : Option Lsn). IfSome x (IsLsnBelow (end_of log))) (sym given.0) (h.first, given.1)
      by_row (inr first) = lsn-below page (from.0 - 1) e.synced (first ∙ ap first_lsn h.wait)

  raise-all : (cs : List Change) (page low n : ℕ) → AllByRecursion (IsChangeAbove page low (end_of log)) cs → AllByRecursion (λ c. n ≤ c.lsn.0) cs → AllByRecursion (λ c. max 16 n ≤ c.lsn.0) cs
  raise-all [] page low n each h = tt
  raise-all (c ∷ cs) page low n each h = let here : max 16 n ≤ c.lsn.0 = omega (arith, each.0.first, h.0) in (here, raise-all cs page low n each.1 h.1)

  all-first : (cs : List Change) (page low n : ℕ) → n ≤ 16 → AllByRecursion (IsChangeAbove page low (end_of log)) cs → AllByRecursion (λ c. max 16 n ≤ c.lsn.0) cs
  all-first [] page low n le each = tt
  all-first (c ∷ cs) page low n le each = let here : max 16 n ≤ c.lsn.0 = omega (arith, each.0.first, le) in (here, all-first cs page low n le each.1)

  -- the image last synced lacks nothing below the row, and nothing where there is none
  row-covers : (page s : ℕ) (o : Option Lsn) (position : Lsn) → IsCovered log page s o → AllByRecursion (λ c. (or_from (kept None o) (at_first position)).0 ≤ c.lsn.0) (changes_above log page s)
  row-covers page s None position none = rw none tt
  row-covers page s (Some first) position all = raise-all (changes_above log page s) page s first.0 (changes_above-each log page s follow) all

pub rows-listed : (log : List Record) (below : ℕ) (v : Pooled) → IsPoolOf log below v → AllByRecursion (IsRowBelow (record { 0 = end_of log })) (rows_of v.dirty)
rows-listed log below v h = all-rows_of (IsRowBelow (record { 0 = end_of log })) v.dirty (λ page lt.
    row-below log h.frames.is_log.laid_out page (synced_lsn v.frames page) (frame_of v.frames page) (entry_of v.dirty page) (pending_of v.waits page) (unread_of v.unread page) (h.each page (omega (arith, lt, h.tabled))))

pub rows-cover : (log : List Record) (below : ℕ) (v : Pooled) → IsPoolOf log below v → CoversPages log (record { 0 = end_of log }) (rows_of v.dirty) v
rows-cover log below v h page lt =
    let s = synced_lsn v.frames page in
    let position : Lsn = record { 0 = end_of log } in
    let le : s ≤ s = omega arith in
    let covered : IsCovered log page s (entry_of v.dirty page).synced
    = covered-page log page s s (frame_of v.frames page) (entry_of v.dirty page) (pending_of v.waits page) (unread_of v.unread page) h.frames.is_log.laid_out le (h.each page lt) in
    subst (λ (o : Option Lsn). AllByRecursion (λ c. (or_from o (at_first position)).0 ≤ c.lsn.0) (changes_above log page s)) (sym (row-found v.dirty page (omega (arith, lt, h.tabled))))
    (row-covers log h.frames.is_log.laid_out page s (entry_of v.dirty page).synced position covered)

-- where no checkpoint is published each image lacks nothing below the first record
pub none-covers : (log : List Record) (below : ℕ) (position : Lsn) (v : Pooled) → IsPoolOf log below v → position.0 ≤ 16 → CoversPages log position [] v
none-covers log below position v h le page lt =
    all-first log h.frames.is_log.laid_out (changes_above log page (synced_lsn v.frames page)) page (synced_lsn v.frames page) position.0 le (changes_above-each log page (synced_lsn v.frames page) h.frames.is_log.laid_out)
