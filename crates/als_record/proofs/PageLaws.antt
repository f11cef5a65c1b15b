-- Laws of pages as history repeated, over logs whose records follow one another.
use Rattle.std.proofs.Common.{◌≡◌, ℕ, zero, suc, ◌+◌, ◌<◌, ◌≤◌, ◌^◌, replicate, slice_set, Bool, true, inl, inr, List, [], ◌∷◌, ◌++◌, length, get_or, Option, IfSome, Some, None, nat_lt, nat_le, ◌==◌, IsTrue, Contains, refl, ap, sym, ◌∙◌, subst, arith, fold, filter, filter_map, sum_by, append_assoc, append-nil, length-set, le-leb, lt-ltb, le-ltb, eq-eqb, ne_eqb, eqb-true}
use Rattle.std.proofs.lemmas.Bool.{cases_lt, cases_Bool, cond-true, cond-false, lt-leb, and_parts, and_from}
use Rattle.std.proofs.lemmas.List.Elements.{filter_map-append, filter-append}
use Rattle.std.proofs.lemmas.List.Sums.{sum_by-cons, sum_by-append}
use Rattle.std.proofs.lemmas.Grind.{fold-append}
use Rattle.std.specs.List.{AllByRecursion, cons_option}
use Rattle.als_record.specs.declared.change.Change.{Change}
use Rattle.als_record.specs.declared.record.Body.{Body}
use Rattle.als_record.specs.declared.record.Body.TheVariants.{Update, Compensation, Commit, Rollback, End, BeginCheckpoint, EndCheckpoint, Prepare}
use Rattle.als_record.specs.declared.record.Record.{Record}
use Rattle.als_record.specs.Spelling.{Image, IsImage, record_len, IsBody, IsRecord}
use Rattle.als_record.specs.LogText.{end_of, follow_from, IsLog}
use Rattle.als_record.specs.Pages.{change_in, change_of, PageState, empty_page, redone, changes_on, page_at, changes_above, lsn_after, IsChangeAbove, IsFittingChange, IsPageState}

-- ---- changes in rising order

-- the changes up to an LSN, and those above it
abbrev up_to : ℕ → List Change → List Change
up_to q cs = filter (λ change. nat_le change.lsn.0 q) cs

abbrev above : ℕ → List Change → List Change
above q cs = filter (λ change. nat_lt q change.lsn.0) cs

-- each LSN is above the one before, the first at least low, the last below high
abbrev IsRising : ℕ → ℕ → List Change → Type 0
IsRising low high [] = Unit {0}
IsRising low high (c ∷ cs) = (low ≤ c.lsn.0) × (c.lsn.0 < high) × IsRising (c.lsn.0 + 1) high cs

rising-lower : (low lower high : ℕ) (cs : List Change) → lower ≤ low → IsRising low high cs → IsRising lower high cs
rising-lower low lower high [] le h = tt
rising-lower low lower high (c ∷ cs) le h = let from : lower ≤ c.lsn.0 = omega (arith, h.0) in (from, h.1, h.2)

rising-filter : (keep : Change → Bool) (low high : ℕ) (cs : List Change) → IsRising low high cs → IsRising low high (filter keep cs)
rising-filter keep low high [] h = tt
rising-filter keep low high (c ∷ cs) h =
    elim (cases_Bool (keep c)) [
      | inl yes' ↦ rw (cond-true (keep c) (c ∷ filter keep cs) (filter keep cs) yes') (h.0, h.1, rising-filter keep (c.lsn.0 + 1) high cs h.2)
      | inr no' ↦ rw (cond-false (keep c) (c ∷ filter keep cs) (filter keep cs) no')
          (let le : low ≤ c.lsn.0 + 1 = omega (arith, h.0) in rising-lower (c.lsn.0 + 1) low high (filter keep cs) le (rising-filter keep (c.lsn.0 + 1) high cs h.2))
    ]

up_to-in : (q : ℕ) (c : Change) (cs : List Change) → c.lsn.0 ≤ q → up_to q (c ∷ cs) ≡ c ∷ up_to q cs
up_to-in q c cs le = cond-true (nat_le c.lsn.0 q) (c ∷ up_to q cs) (up_to q cs) (le-leb c.lsn.0 q le)

up_to-out : (q : ℕ) (c : Change) (cs : List Change) → q < c.lsn.0 → up_to q (c ∷ cs) ≡ up_to q cs
up_to-out q c cs lt = cond-false (nat_le c.lsn.0 q) (c ∷ up_to q cs) (up_to q cs) (lt-leb c.lsn.0 q lt)

above-in : (q : ℕ) (c : Change) (cs : List Change) → q < c.lsn.0 → above q (c ∷ cs) ≡ c ∷ above q cs
above-in q c cs lt = cond-true (nat_lt q c.lsn.0) (c ∷ above q cs) (above q cs) (lt-ltb q c.lsn.0 lt)

above-out : (q : ℕ) (c : Change) (cs : List Change) → c.lsn.0 ≤ q → above q (c ∷ cs) ≡ above q cs
above-out q c cs le = cond-false (nat_lt q c.lsn.0) (c ∷ above q cs) (above q cs) (le-ltb q c.lsn.0 le)

-- nothing that rises from above q is up to q
up_to-none : (q low high : ℕ) (cs : List Change) → q < low → IsRising low high cs → up_to q cs ≡ []
up_to-none q low high [] lt h = refl
up_to-none q low high (c ∷ cs) lt h =
    let here : q < c.lsn.0 = omega (arith, h.0) in
    let next : q < c.lsn.0 + 1 = omega arith in
    up_to-out q c cs here ∙ up_to-none q (c.lsn.0 + 1) high cs next h.2

above-whole : (q low high : ℕ) (cs : List Change) → q < low → IsRising low high cs → above q cs ≡ cs
above-whole q low high [] lt h = refl
above-whole q low high (c ∷ cs) lt h =
    let here : q < c.lsn.0 = omega (arith, h.0) in
    let next : q < c.lsn.0 + 1 = omega arith in
    above-in q c cs here ∙ ap (λ rest. c ∷ rest) (above-whole q (c.lsn.0 + 1) high cs next h.2)

above-none : (q low high : ℕ) (cs : List Change) → high ≤ q + 1 → IsRising low high cs → above q cs ≡ []
above-none q low high [] le h = refl
above-none q low high (c ∷ cs) le h =
    let here : c.lsn.0 ≤ q = omega (arith, h.1) in
    above-out q c cs here ∙ above-none q (c.lsn.0 + 1) high cs le h.2

-- what is up to and above the first LSN above q
record Advances (q m : ℕ) (front rest cs : List Change) : Type 0 where
  passed : up_to m cs ≡ up_to q cs ++ front
  left : above m cs ≡ rest
  rises : q ≤ m

advance : (q low high : ℕ) (c : Change) (rest cs : List Change) → IsRising low high cs → above q cs ≡ c ∷ rest
    → Advances q c.lsn.0 (c ∷ []) rest cs × (q < c.lsn.0)
advance q low high c rest [] h e = absurd cc
advance q low high c rest (x ∷ cs) h e =
    elim (cases_lt q x.lsn.0) [
      | inl lt ↦
          let at_head : x ∷ above q cs ≡ c ∷ rest = sym (above-in q x cs lt) ∙ e in
          let same : x ≡ c = cc at_head in
          let next : q < x.lsn.0 + 1 = omega arith in
          let le : x.lsn.0 ≤ x.lsn.0 = omega arith in
          let at_next : x.lsn.0 < x.lsn.0 + 1 = omega arith in
          let whole : above q cs ≡ cs = above-whole q (x.lsn.0 + 1) high cs next h.2 in
          let done : Advances q x.lsn.0 (x ∷ []) cs (x ∷ cs) = record {
            passed = up_to-in x.lsn.0 x cs le ∙ ap (λ xs. x ∷ xs) (up_to-none x.lsn.0 (x.lsn.0 + 1) high cs at_next h.2)
                ∙ sym (ap (λ xs. xs ++ x ∷ []) (up_to-out q x cs lt ∙ up_to-none q (x.lsn.0 + 1) high cs next h.2));
            left = above-out x.lsn.0 x cs le ∙ above-whole x.lsn.0 (x.lsn.0 + 1) high cs at_next h.2;
            rises = omega arith;
          } in
          let tail : cs ≡ rest = cc (at_head, whole) in
          let P : Change → List Change → Type 0 = λ y ys. Advances q y.lsn.0 (y ∷ []) ys (x ∷ cs) × (q < y.lsn.0) in
          subst (λ y. P y rest) same (subst (λ ys. P x ys) tail (done, lt))
      | inr le ↦
          let (step, lt) = advance q (x.lsn.0 + 1) high c rest cs h.2 (sym (above-out q x cs le) ∙ e) in
          let at_c : x.lsn.0 ≤ c.lsn.0 = omega arith in (
            record {
              passed = up_to-in c.lsn.0 x cs at_c ∙ ap (λ xs. x ∷ xs) step.passed ∙ sym (ap (λ xs. xs ++ c ∷ []) (up_to-in q x cs le));
              left = above-out c.lsn.0 x cs at_c ∙ step.left;
              rises = step.rises;
            },
            lt,
          )
    ]

-- several changes at once
advance-all : (q low high : ℕ) (front rest cs : List Change) → IsRising low high cs → above q cs ≡ front ++ rest
    → Advances q (lsn_after q front) front rest cs
advance-all q low high [] rest cs h e = record { passed = sym (append-nil (up_to q cs)); left = e; rises = omega arith }
advance-all q low high (c ∷ front) rest cs h e =
    let (step, lt) = advance q low high c (front ++ rest) cs h e in
    let more : Advances c.lsn.0 (lsn_after c.lsn.0 front) front rest cs = advance-all c.lsn.0 low high front rest cs h step.left in
    record {
      passed = more.passed ∙ ap (λ xs. xs ++ front) step.passed ∙ append_assoc (up_to q cs) (c ∷ []) front;
      left = more.left;
      rises = omega (arith, step.rises, more.rises);
    }

-- the LSN after changes is at least the one before, where they rise from there
lsn_after-rises : (q low high : ℕ) (cs : List Change) → q ≤ low → IsRising low high cs → q ≤ lsn_after q cs
lsn_after-rises q low high [] le h = omega arith
lsn_after-rises q low high (c ∷ cs) le h =
    let next : c.lsn.0 ≤ c.lsn.0 + 1 = omega arith in
    omega (arith, h.0, lsn_after-rises c.lsn.0 (c.lsn.0 + 1) high cs next h.2)

-- what is up to q is up to its last LSN, and what is above q above it
record Settles (q m : ℕ) (cs : List Change) : Type 0 where
  below : up_to m cs ≡ up_to q cs
  beyond : above m cs ≡ above q cs

settle : (z q low high : ℕ) (cs : List Change) → z < low → z ≤ q → IsRising low high cs → Settles q (lsn_after z (up_to q cs)) cs
settle z q low high [] lt le h = record { below = refl; beyond = refl }
settle z q low high (c ∷ cs) lt le h =
    elim (cases_lt q c.lsn.0) [
      | inl out ↦
          let next : q < c.lsn.0 + 1 = omega arith in
          let z_out : z < c.lsn.0 = omega arith in
          let z_next : z < c.lsn.0 + 1 = omega arith in
          let none : up_to q (c ∷ cs) ≡ [] = up_to-out q c cs out ∙ up_to-none q (c.lsn.0 + 1) high cs next h.2 in
          let none_z : up_to z (c ∷ cs) ≡ [] = up_to-out z c cs z_out ∙ up_to-none z (c.lsn.0 + 1) high cs z_next h.2 in
          let all : above q (c ∷ cs) ≡ c ∷ cs = above-in q c cs out ∙ ap (λ xs. c ∷ xs) (above-whole q (c.lsn.0 + 1) high cs next h.2) in
          let all_z : above z (c ∷ cs) ≡ c ∷ cs = above-in z c cs z_out ∙ ap (λ xs. c ∷ xs) (above-whole z (c.lsn.0 + 1) high cs z_next h.2) in
          let start : Settles q (lsn_after z []) (c ∷ cs) = record { below = none_z ∙ sym none; beyond = all_z ∙ sym all } in
          subst (λ xs. Settles q (lsn_after z xs) (c ∷ cs)) (sym none) start
      | inr in' ↦
          let m = lsn_after c.lsn.0 (up_to q cs) in
          let at_next : c.lsn.0 < c.lsn.0 + 1 = omega arith in
          let same : c.lsn.0 ≤ c.lsn.0 + 1 = omega arith in
          let rest : Settles q m cs = settle c.lsn.0 q (c.lsn.0 + 1) high cs at_next in' h.2 in
          let at_m : c.lsn.0 ≤ m = lsn_after-rises c.lsn.0 (c.lsn.0 + 1) high (up_to q cs) same (rising-filter (λ change. nat_le change.lsn.0 q) (c.lsn.0 + 1) high cs h.2) in
          let found : Settles q (lsn_after z (c ∷ up_to q cs)) (c ∷ cs) = record {
            below = up_to-in m c cs at_m ∙ ap (λ xs. c ∷ xs) rest.below ∙ sym (up_to-in q c cs in');
            beyond = above-out m c cs at_m ∙ rest.beyond ∙ sym (above-out q c cs in');
          } in
          subst (λ xs. Settles q (lsn_after z xs) (c ∷ cs)) (sym (up_to-in q c cs in')) found
    ]

rising-at : (low high : ℕ) (c : Change) (cs : List Change) (k : ℕ) → IsRising low high cs → k < length cs → get_or cs k c ≡ c → low ≤ c.lsn.0
rising-at low high c [] k h lt is = absurd (omega arith)
rising-at low high c (x ∷ cs) zero h lt is = subst (λ y. low ≤ y.lsn.0) is h.0
rising-at low high c (x ∷ cs) (suc k) h lt is =
    let below : k < length cs = omega arith in
    omega (arith, h.0, rising-at (x.lsn.0 + 1) high c cs k h.2 below is)

-- where q is a change's LSN, it is the last up to q
lsn_after-at : (z low high : ℕ) (c : Change) (cs : List Change) (k : ℕ) → IsRising low high cs → k < length cs → get_or cs k c ≡ c
    → lsn_after z (up_to c.lsn.0 cs) ≡ c.lsn.0
lsn_after-at z low high c [] k h lt is = absurd (omega arith)
lsn_after-at z low high c (x ∷ cs) zero h lt is =
    let le : x.lsn.0 ≤ x.lsn.0 = omega arith in
    let next : x.lsn.0 < x.lsn.0 + 1 = omega arith in
    let here : up_to x.lsn.0 (x ∷ cs) ≡ x ∷ [] = up_to-in x.lsn.0 x cs le ∙ ap (λ xs. x ∷ xs) (up_to-none x.lsn.0 (x.lsn.0 + 1) high cs next h.2) in
    subst (λ y. lsn_after z (up_to y.lsn.0 (x ∷ cs)) ≡ y.lsn.0) is (ap (lsn_after z) here)
lsn_after-at z low high c (x ∷ cs) (suc k) h lt is =
    let below : k < length cs = omega arith in
    let le : x.lsn.0 ≤ c.lsn.0 = omega (arith, rising-at (x.lsn.0 + 1) high c cs k h.2 below is) in
    ap (lsn_after z) (up_to-in c.lsn.0 x cs le) ∙ lsn_after-at x.lsn.0 (x.lsn.0 + 1) high c cs k h.2 below is

-- ---- logs whose records follow one another

pub end_of-append : (log more : List Record) → end_of (log ++ more) ≡ end_of log + sum_by record_len more
unfolding end_of
end_of-append log more = omega (arith, sum_by-append record_len log more)

-- the end moves by the length of a record appended
pub end_of-push : (log : List Record) (r : Record) → end_of (log ++ r ∷ []) ≡ end_of log + record_len r
unfolding end_of
end_of-push log r = omega (arith, sum_by-append record_len log (r ∷ []))

follow-append : (at : ℕ) (log more : List Record) → IsTrue (follow_from at log) → IsTrue (follow_from (at + sum_by record_len log) more)
    → IsTrue (follow_from at (log ++ more))
unfolding follow_from
follow-append at [] more h i = subst (λ n. IsTrue (follow_from n more)) (omega arith) i
follow-append at (r ∷ log) more h i =
    let (first, rest) = and_parts (r.lsn.0 == at) (follow_from (at + record_len r) log) h in
    let place : at + sum_by record_len (r ∷ log) ≡ at + record_len r + sum_by record_len log = omega (arith, sum_by-cons record_len r log) in
    and_from (r.lsn.0 == at) (follow_from (at + record_len r) (log ++ more)) first
    (follow-append (at + record_len r) log more rest (subst (λ n. IsTrue (follow_from n more)) place i))

follow-parts : (at : ℕ) (log more : List Record) → IsTrue (follow_from at (log ++ more))
    → IsTrue (follow_from at log) × IsTrue (follow_from (at + sum_by record_len log) more)
unfolding follow_from
follow-parts at [] more h = (refl, subst (λ n. IsTrue (follow_from n more)) (omega arith) h)
follow-parts at (r ∷ log) more h =
    let (first, rest) = and_parts (r.lsn.0 == at) (follow_from (at + record_len r) (log ++ more)) h in
    let (front, back) = follow-parts (at + record_len r) log more rest in
    let place : at + record_len r + sum_by record_len log ≡ at + sum_by record_len (r ∷ log) = omega (arith, sum_by-cons record_len r log) in
    (and_from (r.lsn.0 == at) (follow_from (at + record_len r) log) first front, subst (λ n. IsTrue (follow_from n more)) place back)

-- a log and what follows its end are one log
pub follow_from-append : (log more : List Record) → IsTrue (follow_from 16 log) → IsTrue (follow_from (end_of log) more) → IsTrue (follow_from 16 (log ++ more))
unfolding end_of
follow_from-append log more h i = follow-append 16 log more h i

pub follow_from-parts : (log more : List Record) → IsTrue (follow_from 16 (log ++ more)) → IsTrue (follow_from 16 log) × IsTrue (follow_from (end_of log) more)
unfolding end_of
follow_from-parts log more h = follow-parts 16 log more h

-- a record at the end follows a log
pub follow_from-push : (log : List Record) (r : Record) → IsTrue (follow_from 16 log) → r.lsn.0 ≡ end_of log → IsTrue (follow_from 16 (log ++ r ∷ []))
unfolding follow_from
follow_from-push log r h at = follow_from-append log (r ∷ []) h (and_from (r.lsn.0 == end_of log) true (eq-eqb r.lsn.0 (end_of log) at) refl)

-- a record takes at least its head
pub record_len-least : (r : Record) → 28 ≤ record_len r
unfolding record_len
record_len-least r = omega arith

-- a record's change has its LSN
change_in-lsn : (r : Record) (body : Body) → IfSome (change_in r body) (λ c. c.lsn.0 ≡ r.lsn.0)
change_in-lsn r (Update key before after) = refl
change_in-lsn r (Compensation undo_next key after) = refl
change_in-lsn r Commit = tt
change_in-lsn r Rollback = tt
change_in-lsn r End = tt
change_in-lsn r BeginCheckpoint = tt
change_in-lsn r (EndCheckpoint transactions pages) = tt
change_in-lsn r Prepare = tt

rising-cons : (low lsn high : ℕ) (o : Option Change) (cs : List Change) → IfSome o (λ c. c.lsn.0 ≡ lsn) → low ≤ lsn → lsn < high
    → IsRising (lsn + 1) high cs → IsRising low high (cons_option o cs)
rising-cons low lsn high None cs is le lt h = let lower : low ≤ lsn + 1 = omega arith in rising-lower (lsn + 1) low high cs lower h
rising-cons low lsn high (Some c) cs is le lt h =
    let le' : low ≤ c.lsn.0 = omega (arith, is) in
    let lt' : c.lsn.0 < high = omega (arith, is) in
    (le', lt', subst (λ n. IsRising (n + 1) high cs) (sym is) h)

follow-rises : (at : ℕ) (log : List Record) → IsTrue (follow_from at log) → IsRising at (at + sum_by record_len log) (filter_map change_of log)
unfolding follow_from
follow-rises at [] h = tt
follow-rises at (r ∷ log) h =
    let (first, rest) = and_parts (r.lsn.0 == at) (follow_from (at + record_len r) log) h in
    let here : r.lsn.0 ≡ at = eqb-true r.lsn.0 at first in
    let place : at + record_len r + sum_by record_len log ≡ at + sum_by record_len (r ∷ log) = omega (arith, sum_by-cons record_len r log) in
    let after : IsRising (at + record_len r) (at + sum_by record_len (r ∷ log)) (filter_map change_of log)
    = subst (λ n. IsRising (at + record_len r) n (filter_map change_of log)) place (follow-rises (at + record_len r) log rest) in
    let low : at ≤ r.lsn.0 = omega arith in
    let high : r.lsn.0 < at + sum_by record_len (r ∷ log) = omega (arith, record_len-least r, sum_by-cons record_len r log) in
    let next : r.lsn.0 + 1 ≤ at + record_len r = omega (arith, record_len-least r) in
    rising-cons at r.lsn.0 (at + sum_by record_len (r ∷ log)) (change_of r) (filter_map change_of log) (change_in-lsn r r.body) low high
    (rising-lower (at + record_len r) (r.lsn.0 + 1) (at + sum_by record_len (r ∷ log)) (filter_map change_of log) next after)

-- the changes of a page rise from 16 to the log's end
changes_on-rises : (page : ℕ) (log : List Record) → IsTrue (follow_from 16 log) → IsRising 16 (end_of log) (changes_on page log)
unfolding changes_on end_of
changes_on-rises page log h = rising-filter (λ change. change.key.page == page) 16 (16 + sum_by record_len log) (filter_map change_of log) (follow-rises 16 log h)

-- ---- the laws

pub page_at-nil : (page lsn : ℕ) → page_at [] page lsn ≡ empty_page
unfolding page_at changes_on
page_at-nil page lsn = refl

pub changes_above-nil : (page lsn : ℕ) → changes_above [] page lsn ≡ []
unfolding changes_above changes_on
changes_above-nil page lsn = refl

pub changes_on-append : (page : ℕ) (log more : List Record) → changes_on page (log ++ more) ≡ changes_on page log ++ changes_on page more
unfolding changes_on
changes_on-append page log more =
    ap (filter (λ change. change.key.page == page)) (filter_map-append change_of log more)
    ∙ filter-append (λ change. change.key.page == page) (filter_map change_of log) (filter_map change_of more)

-- the changes of a page by one record: the record's own, if it has one and that is of the page
pub changes_on-none : (page : ℕ) (r : Record) → change_of r ≡ None → changes_on page (r ∷ []) ≡ []
unfolding changes_on
changes_on-none page r none = ap (λ o. filter (λ change. change.key.page == page) (cons_option o [])) none

pub changes_on-same : (page : ℕ) (r : Record) (c : Change) → change_of r ≡ Some c → c.key.page ≡ page → changes_on page (r ∷ []) ≡ c ∷ []
unfolding changes_on
changes_on-same page r c is same =
    ap (λ o. filter (λ change. change.key.page == page) (cons_option o [])) is
    ∙ cond-true (c.key.page == page) (c ∷ []) [] (eq-eqb c.key.page page same)

pub changes_on-other : (page : ℕ) (r : Record) (c : Change) → change_of r ≡ Some c → (c.key.page ≡ page → ⊥) → changes_on page (r ∷ []) ≡ []
unfolding changes_on
changes_on-other page r c is other =
    ap (λ o. filter (λ change. change.key.page == page) (cons_option o [])) is
    ∙ cond-false (c.key.page == page) (c ∷ []) [] (ne_eqb c.key.page page other)

rising-page : (page at : ℕ) (more : List Record) → IsTrue (follow_from at more) → IsRising at (at + sum_by record_len more) (changes_on page more)
unfolding changes_on
rising-page page at more h = rising-filter (λ change. change.key.page == page) at (at + sum_by record_len more) (filter_map change_of more) (follow-rises at more h)

-- records above an LSN leave the page at that LSN as it is, and add their changes to those above
pub page_at-append : (log more : List Record) (page lsn at : ℕ) → IsTrue (follow_from at more) → lsn < at → page_at (log ++ more) page lsn ≡ page_at log page lsn
unfolding page_at
page_at-append log more page lsn at h lt =
    ap (fold redone empty_page)
    (ap (up_to lsn) (changes_on-append page log more)
    ∙ filter-append (λ change. nat_le change.lsn.0 lsn) (changes_on page log) (changes_on page more)
    ∙ ap (λ xs. up_to lsn (changes_on page log) ++ xs) (up_to-none lsn at (at + sum_by record_len more) (changes_on page more) lt (rising-page page at more h))
    ∙ append-nil (up_to lsn (changes_on page log)))

pub changes_above-append : (log more : List Record) (page lsn at : ℕ) → IsTrue (follow_from at more) → lsn < at
    → changes_above (log ++ more) page lsn ≡ changes_above log page lsn ++ changes_on page more
unfolding changes_above
changes_above-append log more page lsn at h lt =
    ap (above lsn) (changes_on-append page log more)
    ∙ filter-append (λ change. nat_lt lsn change.lsn.0) (changes_on page log) (changes_on page more)
    ∙ ap (λ xs. above lsn (changes_on page log) ++ xs) (above-whole lsn at (at + sum_by record_len more) (changes_on page more) lt (rising-page page at more h))

-- the same for one record
pub page_at-push : (log : List Record) (r : Record) (page lsn : ℕ) → lsn < r.lsn.0 → page_at (log ++ r ∷ []) page lsn ≡ page_at log page lsn
unfolding follow_from
page_at-push log r page lsn lt = page_at-append log (r ∷ []) page lsn r.lsn.0 (and_from (r.lsn.0 == r.lsn.0) true (eq-eqb r.lsn.0 r.lsn.0 refl) refl) lt

pub changes_above-push : (log : List Record) (r : Record) (page lsn : ℕ) → lsn < r.lsn.0 → changes_above (log ++ r ∷ []) page lsn ≡ changes_above log page lsn ++ changes_on page (r ∷ [])
unfolding follow_from
changes_above-push log r page lsn lt = changes_above-append log (r ∷ []) page lsn r.lsn.0 (and_from (r.lsn.0 == r.lsn.0) true (eq-eqb r.lsn.0 r.lsn.0 refl) refl) lt

-- What follows from the next changes of a page: the page at the last of them, and the changes above that.
pub record Passes (log : List Record) (page lsn : ℕ) (front rest : List Change) : Type 0 where
  pub page_then : page_at log page (lsn_after lsn front) ≡ fold redone (page_at log page lsn) front
  pub changes_then : changes_above log page (lsn_after lsn front) ≡ rest
  pub rises : lsn ≤ lsn_after lsn front

pub changes_above-front : (log : List Record) (page lsn : ℕ) (front rest : List Change) → IsTrue (follow_from 16 log)
    → changes_above log page lsn ≡ front ++ rest → Passes log page lsn front rest
unfolding page_at changes_above
changes_above-front log page lsn front rest h e =
    let done : Advances lsn (lsn_after lsn front) front rest (changes_on page log)
    = advance-all lsn 16 (end_of log) front rest (changes_on page log) (changes_on-rises page log h) e in
    record {
      page_then = ap (fold redone empty_page) done.passed ∙ fold-append redone empty_page (up_to lsn (changes_on page log)) front;
      changes_then = done.left;
      rises = done.rises;
    }

-- the LSN after changes is that of the last of them
pub lsn_after-last : (lsn : ℕ) (front : List Change) (last : Change) → lsn_after lsn (front ++ last ∷ []) ≡ last.lsn.0
lsn_after-last lsn front last = fold-append (λ _ change. change.lsn.0) lsn front (last ∷ [])

-- the next change alone
pub record PassesOne (log : List Record) (page lsn : ℕ) (c : Change) (rest : List Change) : Type 0 where
  pub page_then : page_at log page c.lsn.0 ≡ redone (page_at log page lsn) c
  pub changes_then : changes_above log page c.lsn.0 ≡ rest
  pub rises : lsn < c.lsn.0

pub changes_above-cons : (log : List Record) (page lsn : ℕ) (c : Change) (rest : List Change) → IsTrue (follow_from 16 log)
    → changes_above log page lsn ≡ c ∷ rest → PassesOne log page lsn c rest
unfolding page_at changes_above
changes_above-cons log page lsn c rest h e =
    let (done, lt) = advance lsn 16 (end_of log) c rest (changes_on page log) (changes_on-rises page log h) e in
    record {
      page_then = ap (fold redone empty_page) done.passed ∙ fold-append redone empty_page (up_to lsn (changes_on page log)) (c ∷ []);
      changes_then = done.left;
      rises = lt;
    }

-- at the log's end and past it no change is above
pub changes_above-end : (log : List Record) (page lsn : ℕ) → IsTrue (follow_from 16 log) → end_of log ≤ lsn + 1 → changes_above log page lsn ≡ []
unfolding changes_above
changes_above-end log page lsn h le = above-none lsn 16 (end_of log) (changes_on page log) le (changes_on-rises page log h)

-- below the first record a page is empty
pub page_at-start : (log : List Record) (page lsn : ℕ) → IsTrue (follow_from 16 log) → lsn < 16 → page_at log page lsn ≡ empty_page
unfolding page_at
page_at-start log page lsn h lt = ap (fold redone empty_page) (up_to-none lsn 16 (end_of log) (changes_on page log) lt (changes_on-rises page log h))

-- changes set the page_LSN to the last one's LSN, and keep the number of slots
pub lsn-fold : (page : PageState) (cs : List Change) → (fold redone page cs).lsn ≡ lsn_after page.lsn cs
lsn-fold page [] = refl
lsn-fold page (c ∷ cs) = lsn-fold (redone page c) cs

pub length-slots-fold : (page : PageState) (cs : List Change) → length (fold redone page cs).slots ≡ length page.slots
length-slots-fold page [] = refl
length-slots-fold page (c ∷ cs) = length-slots-fold (redone page c) cs ∙ length-set page.slots c.key.slot c.after

-- a page has 15 slots
pub length-slots-page_at : (log : List Record) (page lsn : ℕ) → length (page_at log page lsn).slots ≡ 15
unfolding page_at
length-slots-page_at log page lsn = length-slots-fold empty_page (up_to lsn (changes_on page log))

-- the page_LSN at a change's LSN is that LSN, and below the first record 0
pub lsn-page_at : (log : List Record) (page : ℕ) (c : Change) → IsTrue (follow_from 16 log) → Contains (changes_on page log) c → (page_at log page c.lsn.0).lsn ≡ c.lsn.0
unfolding page_at
lsn-page_at log page c h (k, lt, is) =
    lsn-fold empty_page (up_to c.lsn.0 (changes_on page log))
    ∙ lsn_after-at 0 16 (end_of log) c (changes_on page log) k (changes_on-rises page log h) lt is

-- The page_LSN of a page at an LSN: the same page stands at it, and the same changes above it.
pub record IsPageLsn (log : List Record) (page lsn page_lsn : ℕ) : Type 0 where
  pub same_page : page_at log page page_lsn ≡ page_at log page lsn
  pub same_changes : changes_above log page page_lsn ≡ changes_above log page lsn

pub page_at-lsn : (log : List Record) (page lsn : ℕ) → IsTrue (follow_from 16 log) → IsPageLsn log page lsn (page_at log page lsn).lsn
unfolding page_at changes_above
page_at-lsn log page lsn h =
    let low : 0 < 16 = omega arith in
    let all : 0 ≤ lsn = omega arith in
    let cs = changes_on page log in
    let done : Settles lsn (lsn_after 0 (up_to lsn cs)) cs = settle 0 lsn 16 (end_of log) cs low all (changes_on-rises page log h) in
    let is : (fold redone empty_page (up_to lsn cs)).lsn ≡ lsn_after 0 (up_to lsn cs) = lsn-fold empty_page (up_to lsn cs) in
    record {
      same_page = ap (fold redone empty_page) (ap (λ n. up_to n cs) is ∙ done.below);
      same_changes = ap (λ n. above n cs) is ∙ done.beyond;
    }

-- ---- what each change above an LSN is

above-changes : (page lsn low high : ℕ) (cs : List Change) → 16 ≤ low → IsRising low high cs
    → AllByRecursion (λ c. c.key.page ≡ page) cs → AllByRecursion (IsChangeAbove page lsn high) (above lsn cs)
above-changes page lsn low high [] from h on = tt
above-changes page lsn low high (c ∷ cs) from h on =
    let next : 16 ≤ c.lsn.0 + 1 = omega (arith, h.0) in
    let rest : AllByRecursion (IsChangeAbove page lsn high) (above lsn cs) = above-changes page lsn (c.lsn.0 + 1) high cs next h.2 on.1 in
    elim (cases_lt lsn c.lsn.0) [
      | inl lt ↦ rw (above-in lsn c cs lt) (record { of_page = on.0; above = lt; first = omega (arith, h.0); last = h.1 }, rest)
      | inr le ↦ rw (above-out lsn c cs le) rest
    ]

passed-changes : (page : ℕ) (cs : List Change) → AllByRecursion (λ c. c.key.page ≡ page) (filter (λ change. change.key.page == page) cs)
passed-changes page [] = tt
passed-changes page (c ∷ cs) =
    elim (cases_Bool (c.key.page == page)) [
      | inl yes' ↦ rw (cond-true (c.key.page == page) (c ∷ filter (λ change. change.key.page == page) cs) (filter (λ change. change.key.page == page) cs) yes') (eqb-true c.key.page page yes', passed-changes page cs)
      | inr no' ↦ rw (cond-false (c.key.page == page) (c ∷ filter (λ change. change.key.page == page) cs) (filter (λ change. change.key.page == page) cs) no') (passed-changes page cs)
    ]

-- each change above an LSN is of the page, and stands in the log
pub changes_above-each : (log : List Record) (page lsn : ℕ) → IsTrue (follow_from 16 log)
    → AllByRecursion (IsChangeAbove page lsn (end_of log)) (changes_above log page lsn)
unfolding changes_above changes_on
changes_above-each log page lsn h =
    let from : 16 ≤ 16 = omega arith in
    above-changes page lsn 16 (end_of log) (filter (λ change. change.key.page == page) (filter_map change_of log)) from
    (changes_on-rises page log h) (passed-changes page (filter_map change_of log))

all-filter : (P : Change → Type 0) (keep : Change → Bool) (cs : List Change) → AllByRecursion P cs → AllByRecursion P (filter keep cs)
all-filter P keep [] h = tt
all-filter P keep (c ∷ cs) h =
    elim (cases_Bool (keep c)) [
      | inl yes' ↦ rw (cond-true (keep c) (c ∷ filter keep cs) (filter keep cs) yes') (h.0, all-filter P keep cs h.1)
      | inr no' ↦ rw (cond-false (keep c) (c ∷ filter keep cs) (filter keep cs) no') (all-filter P keep cs h.1)
    ]

-- the change of a record of a database with this many pages fits it
change_in-fits : (pages : ℕ) (r : Record) (body : Body) → r.lsn.0 < 2 ^ 64 → IsBody pages body → IfSome (change_in r body) (IsFittingChange pages)
change_in-fits pages r (Update key before after) lsn h = record { width = lsn; key = h.0; after = h.2 }
change_in-fits pages r (Compensation undo_next key after) lsn h = record { width = lsn; key = h.1; after = h.2 }
change_in-fits pages r Commit lsn h = tt
change_in-fits pages r Rollback lsn h = tt
change_in-fits pages r End lsn h = tt
change_in-fits pages r BeginCheckpoint lsn h = tt
change_in-fits pages r (EndCheckpoint transactions rows) lsn h = tt
change_in-fits pages r Prepare lsn h = tt

all-cons : (P : Change → Type 0) (o : Option Change) (cs : List Change) → IfSome o P → AllByRecursion P cs → AllByRecursion P (cons_option o cs)
all-cons P None cs h all = all
all-cons P (Some c) cs h all = (h, all)

all-fit : (pages : ℕ) (log : List Record) → AllByRecursion (IsRecord pages) log → AllByRecursion (IsFittingChange pages) (filter_map change_of log)
all-fit pages [] h = tt
all-fit pages (r ∷ log) h = all-cons (IsFittingChange pages) (change_of r) (filter_map change_of log) (change_in-fits pages r r.body h.0.lsn h.0.body) (all-fit pages log h.1)

-- each change above an LSN fits the database, where the records do
pub changes_above-fit : (pages : ℕ) (log : List Record) (page lsn : ℕ) → AllByRecursion (IsRecord pages) log
    → AllByRecursion (IsFittingChange pages) (changes_above log page lsn)
unfolding changes_above changes_on
changes_above-fit pages log page lsn h =
    all-filter (IsFittingChange pages) (λ change. nat_lt lsn change.lsn.0) (filter (λ change. change.key.page == page) (filter_map change_of log))
    (all-filter (IsFittingChange pages) (λ change. change.key.page == page) (filter_map change_of log) (all-fit pages log h))

-- the next change's facts, by themselves
pub changes_above-head : (log : List Record) (page lsn : ℕ) (c : Change) (rest : List Change) → IsTrue (follow_from 16 log)
    → changes_above log page lsn ≡ c ∷ rest → IsChangeAbove page lsn (end_of log) c
changes_above-head log page lsn c rest h e =
    let all : AllByRecursion (IsChangeAbove page lsn (end_of log)) (c ∷ rest)
    = subst (λ cs. AllByRecursion (IsChangeAbove page lsn (end_of log)) cs) e (changes_above-each log page lsn h) in
    all.0

-- ---- what a page can be

pub IsPageState-empty : IsPageState empty_page
IsPageState-empty = record { width = omega arith; count = refl; images = absent 15; nothing = λ _. refl }
  where
    absent : (n : ℕ) → AllByRecursion IsImage (replicate n None)
    absent zero = tt
    absent (suc n) = (record { size = omega arith; bytes = tt }, absent n)

images-set : (images : List Image) (slot : ℕ) (image : Image) → AllByRecursion IsImage images → IsImage image → AllByRecursion IsImage (slice_set images slot image)
images-set [] slot image h i = tt
images-set (x ∷ xs) zero image h i = (i, h.1)
images-set (x ∷ xs) (suc slot) image h i = (h.0, images-set xs slot image h.1 i)

-- a change by a record keeps a page a page
pub IsPageState-redone : (page : PageState) (change : Change) → IsPageState page → 16 ≤ change.lsn.0 → change.lsn.0 < 2 ^ 64 → IsImage change.after
    → IsPageState (redone page change)
IsPageState-redone page change h from width image = record {
  width = width;
  count = length-set page.slots change.key.slot change.after ∙ h.count;
  images = images-set page.slots change.key.slot change.after h.images image;
  nothing = λ below. absurd (omega (arith, from, below));
}

states-fold : (pages low high : ℕ) (page : PageState) (cs : List Change) → 16 ≤ low → IsRising low high cs → AllByRecursion (IsFittingChange pages) cs
    → IsPageState page → IsPageState (fold redone page cs)
states-fold pages low high page [] from h fit state = state
states-fold pages low high page (c ∷ cs) from h fit state =
    let first : 16 ≤ c.lsn.0 = omega (arith, h.0) in
    let next : 16 ≤ c.lsn.0 + 1 = omega arith in
    states-fold pages (c.lsn.0 + 1) high (redone page c) cs next h.2 fit.1 (IsPageState-redone page c state first fit.0.width fit.0.after)

-- what a log makes of a page is what a page can be
pub IsPageState-page_at : (pages : ℕ) (log : List Record) (page lsn : ℕ) → IsLog pages log → IsPageState (page_at log page lsn)
unfolding page_at changes_on
IsPageState-page_at pages log page lsn h =
    let keep : Change → Bool = λ change. nat_le change.lsn.0 lsn in
    let from : 16 ≤ 16 = omega arith in
    states-fold pages 16 (end_of log) empty_page (up_to lsn (changes_on page log)) from
    (rising-filter keep 16 (end_of log) (changes_on page log) (changes_on-rises page log h.laid_out))
    (all-filter (IsFittingChange pages) keep (changes_on page log)
    (all-filter (IsFittingChange pages) (λ change. change.key.page == page) (filter_map change_of log) (all-fit pages log h.records)))
    IsPageState-empty
