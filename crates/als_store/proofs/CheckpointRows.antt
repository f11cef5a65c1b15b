-- The rows of the dirty pages, as a checkpoint has them: how many, and in which order; and those of
-- which each fits its spelling.
use Rattle.std.proofs.Common.{◌≡◌, ℕ, zero, suc, ◌+◌, ◌<◌, ◌≤◌, true, List, [], ◌∷◌, length, get_or}
use Rattle.std.proofs.Common.{take, Option, Some, None, refl, sym, subst, arith}
use Rattle.std.specs.Prelude.{nat_le, nat_lt, ◌&&◌}
use Rattle.std.specs.List.{AllByRecursion, cons_option, enumerate_from, filter_map}
use Rattle.std.specs.Option.{option_map}
use Rattle.std.proofs.lemmas.Bool.{and_from, le-leb, lt-ltb}
use Rattle.als_record.specs.declared.lsn.Lsn.{Lsn}
use Rattle.als_record.specs.declared.rows.LoggedPage.{LoggedPage}
use Rattle.als_record.specs.Spelling.{IsLoggedPage}
use Rattle.als_ckpt_codec.specs.Checkpoint.{are_pages}
use Rattle.als_dirty.specs.declared.dirty_page.DirtyPage.{DirtyPage}
use Rattle.als_dirty.specs.Rows.{row_of, rows_of}

abbrev numbered : ℕ → Option Lsn → Option LoggedPage
numbered from o = option_map (λ lsn. record { page = from; rec_lsn = lsn }) o

abbrev rows_from : ℕ → List DirtyPage → List LoggedPage
rows_from from ds = filter_map row_of (enumerate_from from ds)

-- ---- how many, and in which order

len_cons : (o : Option LoggedPage) (rest : List LoggedPage)
    → length (cons_option o rest) ≤ 1 + length rest
len_cons None rest = omega arith
len_cons (Some row) rest = omega arith

few_from : (from : ℕ) (ds : List DirtyPage) → length (rows_from from ds) ≤ length ds
few_from from [] = omega arith
few_from from (d ∷ ds) =
    omega (
      arith,
      len_cons (numbered from d.synced) (rows_from (from + 1) ds),
      few_from (from + 1)
          ds,
    )

pub few_rows : (ds : List DirtyPage) → length (rows_of ds) ≤ length ds
few_rows ds = few_from 0 ds

one_rises : (count least from : ℕ) (o : Option Lsn) (rest : List LoggedPage) → least ≤ from
    → from < count → are_pages count least rest ≡ true → are_pages count (from + 1) rest ≡ true
    → are_pages count least (cons_option (numbered from o) rest) ≡ true
one_rises count least from None rest le lt none some = none
one_rises count least from (Some lsn) rest le lt none some =
    and_from (nat_le least from) (nat_lt from count && are_pages count (from + 1) rest)
    (le-leb least from le)
    (and_from (nat_lt from count) (are_pages count (from + 1) rest) (lt-ltb from count lt) some)

rise_from : (count least from : ℕ) (ds : List DirtyPage) → least ≤ from → from + length ds ≤ count
    → are_pages count least (rows_from from ds) ≡ true
rise_from count least from [] le fits = refl
rise_from count least from (d ∷ ds) le fits =
    one_rises count least from d.synced (rows_from (from + 1) ds) le (omega (arith, fits))
    (rise_from count least (from + 1) ds (omega (arith, le)) (omega (arith, fits)))
    (rise_from count (from + 1) (from + 1) ds (omega arith) (omega (arith, fits)))

pub rows_rise : (count : ℕ) (ds : List DirtyPage) → length ds ≤ count
    → are_pages count 0 (rows_of ds) ≡ true
rows_rise count ds le = rise_from count 0 0 ds (omega arith) (omega (arith, le))

-- ---- the first rows fit their spelling

-- one row more
pub fit_more : (rows : List LoggedPage) (count : ℕ) (row d : LoggedPage) → count < length rows
    → get_or rows count d ≡ row → IsLoggedPage row → AllByRecursion IsLoggedPage (take count rows)
    → AllByRecursion IsLoggedPage (take (count + 1) rows)
fit_more rows count row d lt is fits all =
    let one : suc count ≡ count + 1 =
    omega arith in subst (λ (k : ℕ). AllByRecursion IsLoggedPage (take k rows)) one
    (go rows count lt is all)
  where
    go : (rows : List LoggedPage) (count : ℕ) → count < length rows → get_or rows count d ≡ row
        → AllByRecursion IsLoggedPage (take count rows)
        → AllByRecursion IsLoggedPage (take (suc count) rows)
    go [] count lt is all = absurd (omega arith)
    go (x ∷ rows) zero lt is all = (subst IsLoggedPage (sym is) fits, tt)
    go (x ∷ rows) (suc count) lt is all = let below : count < length rows =
        omega arith in (all.0, go rows count below is all.1)

pub all_fit : (rows : List LoggedPage) (count : ℕ) → length rows ≤ count
    → AllByRecursion IsLoggedPage (take count rows) → AllByRecursion IsLoggedPage rows
all_fit [] count le all = tt
all_fit (x ∷ rows) zero le all = absurd (omega arith)
all_fit (x ∷ rows) (suc count) le all =
    let below : length rows ≤ count = omega arith in (all.0, all_fit rows count below all.1)
