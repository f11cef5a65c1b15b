-- The page_LSN of a page in a log stands below the log's end.
use Rattle.std.proofs.Common.{ℕ, ◌<◌, IsTrue, List, [], ◌∷◌, sym, subst, arith, inl, inr, filter, nat_lt, nat_le, le-leb, lt-ltb, le-ltb}
use Rattle.std.specs.List.{AllByRecursion}
use Rattle.std.proofs.lemmas.Bool.{cases_lt, cond-true, cond-false, lt-leb}
use Rattle.als_record.specs.declared.change.Change.{Change}
use Rattle.als_record.specs.declared.record.Record.{Record}
use Rattle.als_record.specs.LogText.{end_of, follow_from}
use Rattle.als_record.specs.Pages.{empty_page, changes_on, page_at, changes_above, lsn_after, IsChangeAbove}
use Rattle.als_record.proofs.LogLaws.{end_of_is}
use Rattle.als_record.proofs.PageLaws.{lsn-fold, changes_above-each}

-- what is above 0 of some changes, and what is up to an LSN
abbrev above_0 : List Change → List Change
above_0 cs = filter (λ change. nat_lt 0 change.lsn.0) cs

abbrev up_to : ℕ → List Change → List Change
up_to q cs = filter (λ change. nat_le change.lsn.0 q) cs

module _ (page end : ℕ) where
  -- a change below an end, if it is above 0, as are all above 0
  head-below : (c : Change) (cs : List Change) → 0 < end → AllByRecursion (IsChangeAbove page 0 end) (above_0 (c ∷ cs)) → (c.lsn.0 < end) × AllByRecursion (IsChangeAbove page 0 end) (above_0 cs)
  head-below c cs some all =
      elim (cases_lt 0 c.lsn.0) [
        | inl above ↦
            let both : AllByRecursion (IsChangeAbove page 0 end) (c ∷ above_0 cs) = subst (λ (ds : List Change). AllByRecursion (IsChangeAbove page 0 end) ds) (cond-true (nat_lt 0 c.lsn.0) (c ∷ above_0 cs) (above_0 cs) (lt-ltb 0 c.lsn.0 above)) all in
            (both.0.last, both.1)
        | inr none ↦
            (omega (arith, none, some), subst (λ (ds : List Change). AllByRecursion (IsChangeAbove page 0 end) ds) (cond-false (nat_lt 0 c.lsn.0) (c ∷ above_0 cs) (above_0 cs) (le-ltb 0 c.lsn.0 none)) all)
      ]

  -- so the last of those up to an LSN is below the end
  last-below : (q z : ℕ) (cs : List Change) → z < end → AllByRecursion (IsChangeAbove page 0 end) (above_0 cs) → lsn_after z (up_to q cs) < end
  last-below q z [] lt all = lt
  last-below q z (c ∷ cs) lt all =
      let (here, rest) = head-below c cs (omega (arith, lt)) all in
      elim (cases_lt q c.lsn.0) [
        | inl out ↦ subst (λ (ds : List Change). lsn_after z ds < end) (sym (cond-false (nat_le c.lsn.0 q) (c ∷ up_to q cs) (up_to q cs) (lt-leb c.lsn.0 q out))) (last-below q z cs lt rest)
        | inr in' ↦ subst (λ (ds : List Change). lsn_after z ds < end) (sym (cond-true (nat_le c.lsn.0 q) (c ∷ up_to q cs) (up_to q cs) (le-leb c.lsn.0 q in'))) (last-below q c.lsn.0 cs here rest)
      ]

pub lsn-below : (log : List Record) (page lsn : ℕ) → IsTrue (follow_from 16 log) → (page_at log page lsn).lsn < end_of log
unfolding page_at changes_above
lsn-below log page lsn follows =
    let low : 0 < end_of log = omega (arith, end_of_is log) in
    let last : lsn_after 0 (up_to lsn (changes_on page log)) < end_of log = last-below page (end_of log) lsn 0 (changes_on page log) low (changes_above-each log page 0 follows) in
    subst (λ (n : ℕ). n < end_of log) (sym (lsn-fold empty_page (up_to lsn (changes_on page log)))) last
