-- The rows that are chosen of a roll while its seats are gone through, one of each name.
use Rattle.std.proofs.Common.{◌≡◌, ◌≤◌, ◌+◌, ◌∙◌, ℕ, zero, suc, List, [], ◌∷◌, ◌++◌, length, map, take, Option, Some, None, refl, sym, ap, subst, inl, inr, ⊎_elim, arith, Contains, length-take-le, ◌<◌, get_or, add-one}
use Rattle.std.proofs.lemmas.List.{length-map, take_more}
use Rattle.std.proofs.lemmas.List.Elements.{Contains-append_left, Contains-push, Contains-push_cases}
use Rattle.als_callers.specs.declared.block.Block.{Block}
use Rattle.als_quorum.specs.declared.row.Row.{Row}
use Rattle.als_quorum.specs.declared.wanted.Wanted.{Wanted}
use Rattle.als_quorum.specs.Names.{name_of}
use Rattle.als_quorum.specs.Enough.{Vouches, IsVouched, AreDifferent, AreVouchers, HasEnough}
use Rattle.als_quorum.proofs.Members.{Among, among_of, contains_of, among_map, among_from_map, length-different}

-- each row that vouches is of the name of a chosen one
abbrev pub Covers : List Block → List (Option Row) → Wanted → List Row → Type 0
Covers blocks rows wanted chosen = (row : Row) → Contains rows (Some row) → Vouches blocks wanted row → Among (map name_of chosen) (name_of row)

-- so many rows are chosen of these seats, and no name is left out
abbrev pub IsChoice : List Block → List (Option Row) → Wanted → ℕ → Type 0
IsChoice blocks rows wanted count = (chosen : List Row) × (length chosen ≡ count) × AreVouchers blocks rows wanted chosen × Covers blocks rows wanted chosen

pub choice-none : (blocks : List Block) (wanted : Wanted) → IsChoice blocks [] wanted 0
choice-none blocks wanted = ([], refl, (λ row h. absurd (among_of [] row h), tt), λ row h v. absurd (among_of [] (Some row) h))

-- a seat more, of which no row is chosen: free, silent, or of a name that is chosen already
pub choice-kept : (blocks : List Block) (rows : List (Option Row)) (next : Option Row) (wanted : Wanted) (count : ℕ)
    → ((own : Row) → next ≡ Some own → Vouches blocks wanted own → IsVouched blocks rows wanted (name_of own))
    → IsChoice blocks rows wanted count → IsChoice blocks (rows ++ next ∷ []) wanted count
choice-kept blocks rows next wanted count known c = (
  c.0,
  c.1,
  (λ row h. let m = c.2.0 row h in (Contains-append_left rows (next ∷ []) (Some row) m.0, m.1), c.2.1),
  λ row h v. ⊎_elim (λ old. c.3 row old v)
      (λ e. let w = known row e v in subst (Among (map name_of c.0)) w.3 (c.3 w.0 w.1 w.2))
      (Contains-push_cases rows next (Some row) h),
)

-- a seat more whose row is chosen: it vouches, and none before it is of its name
pub choice-more : (blocks : List Block) (rows : List (Option Row)) (own : Row) (wanted : Wanted) (count : ℕ) → Vouches blocks wanted own → (IsVouched blocks rows wanted (name_of own) → ⊥)
    → IsChoice blocks rows wanted count → IsChoice blocks (rows ++ Some own ∷ []) wanted (count + 1)
choice-more blocks rows own wanted count vouches first c =
    let members : (row : Row) → Contains (own ∷ c.0) row → Contains (rows ++ Some own ∷ []) (Some row) × Vouches blocks wanted row = λ row h.
    ⊎_elim (λ e. (subst (λ (r : Row). Contains (rows ++ Some own ∷ []) (Some r)) e (Contains-push rows (Some own)), subst (Vouches blocks wanted) e vouches))
    (λ m. let old = c.2.0 row (contains_of c.0 row m) in (Contains-append_left rows (Some own ∷ []) (Some row) old.0, old.1))
    (among_of (own ∷ c.0) row h) in
    let apart : Contains (map name_of c.0) (name_of own) → ⊥ = λ h.
    let w = among_from_map name_of c.0 (name_of own) (among_of (map name_of c.0) (name_of own) h) in
    let old = c.2.0 w.0 (contains_of c.0 w.0 w.1) in
    first (w.0, old.0, old.1, w.2) in (
      own ∷ c.0,
      ap suc c.1 ∙ sym (add-one count),
      (members, (apart, c.2.1)),
      λ row h v. ⊎_elim (λ old. inr (c.3 row old v)) (λ e. inl (same_row own row e)) (Contains-push_cases rows (Some own) (Some row) h),
    )
  where
    same_row : (own row : Row) → Some own ≡ Some row → name_of own ≡ name_of row
    same_row own row e = cc

-- no choice of a roll has more rows
pub choice-most : (blocks : List Block) (rows : List (Option Row)) (wanted : Wanted) (count : ℕ) (other : List Row) → IsChoice blocks rows wanted count → AreVouchers blocks rows wanted other → length other ≤ count
choice-most blocks rows wanted count other c a =
    let short : length (map name_of other) ≤ length (map name_of c.0) = length-different (map name_of other) (map name_of c.0) a.1
    (λ x m. let w = among_from_map name_of other x m in
    let row = a.0 w.0 (contains_of other w.0 w.1) in
    subst (Among (map name_of c.0)) w.2 (c.3 w.0 row.0 row.1)) in
    let long = c.1 in
    let one : length (map name_of other) ≡ length other = length-map other name_of in
    let two : length (map name_of c.0) ≡ length c.0 = length-map c.0 name_of in omega arith

few_members : (xs : List Row) (k : ℕ) (x : Row) → Among (take k xs) x → Among xs x
few_members xs zero x h = absurd h
few_members [] (suc k) x h = absurd h
few_members (y ∷ ys) (suc k) x h = ⊎_elim (λ e. inl e) (λ m. inr (few_members ys k x m)) h

few_different : (xs : List Row) (k : ℕ) → AreDifferent (map name_of xs) → AreDifferent (map name_of (take k xs))
few_different xs zero d = tt
few_different [] (suc k) d = tt
few_different (y ∷ ys) (suc k) d = (
  λ h. let w = among_from_map name_of (take k ys) (name_of y) (among_of (map name_of (take k ys)) (name_of y) h) in
      d.0 (contains_of (map name_of ys) (name_of y) (subst (Among (map name_of ys)) w.2 (among_map name_of ys w.0 (few_members ys k w.0 w.1)))),
  few_different ys k d.1,
)

-- where there are more, there are so many
pub enough-fewer : (blocks : List Block) (rows : List (Option Row)) (wanted : Wanted) (count k : ℕ) → k ≤ count → HasEnough blocks rows count wanted → HasEnough blocks rows k wanted
enough-fewer blocks rows wanted count k le e =
    let short : k ≤ length e.0 = let long = e.1 in omega arith in (
      take k e.0,
      length-take-le k e.0 short,
      (
        (λ row h. e.2.0 row (contains_of e.0 row (few_members e.0 k row (among_of (take k e.0) row h)))),
        few_different e.0 k e.2.1,
      ),
    )

-- the same two, of the seat at an index
pub choice-next-kept : (blocks : List Block) (rows : List (Option Row)) (at : ℕ) (wanted : Wanted) (count : ℕ) → at < length rows
    → ((own : Row) → get_or rows at None ≡ Some own → Vouches blocks wanted own → IsVouched blocks (take at rows) wanted (name_of own))
    → IsChoice blocks (take at rows) wanted count → IsChoice blocks (take (at + 1) rows) wanted count
choice-next-kept blocks rows at wanted count lt known c =
    subst (λ (l : List (Option Row)). IsChoice blocks l wanted count) (sym (take_more rows at None lt))
    (choice-kept blocks (take at rows) (get_or rows at None) wanted count known c)

pub choice-next-more : (blocks : List Block) (rows : List (Option Row)) (at : ℕ) (own : Row) (wanted : Wanted) (count : ℕ) → at < length rows → get_or rows at None ≡ Some own
    → Vouches blocks wanted own → (IsVouched blocks (take at rows) wanted (name_of own) → ⊥)
    → IsChoice blocks (take at rows) wanted count → IsChoice blocks (take (at + 1) rows) wanted (count + 1)
choice-next-more blocks rows at own wanted count lt is vouches first c =
    subst (λ (l : List (Option Row)). IsChoice blocks l wanted (count + 1)) (sym (take_more rows at None lt))
    (subst (λ (o : Option Row). IsChoice blocks (take at rows ++ o ∷ []) wanted (count + 1)) (sym is)
    (choice-more blocks (take at rows) own wanted count vouches first c))
