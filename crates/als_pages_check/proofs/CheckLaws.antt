-- What is known of the pages of a database, record by record.
use Rattle.std.proofs.Common.{◌≡◌, ℕ, zero, suc, ◌<◌, ◌≤◌, true, false, List, [], ◌∷◌, ◌++◌, length, set, Option, Some, None, IfSome, refl, sym, ap, subst, ◌∙◌, arith, inl, inr, cond, nat_lt, nat_le, fold, filter, append-nil, le-leb, lt-ltb, le-ltb}
use Rattle.std.specs.Prelude.{◌⊎◌, slice_get, Result, Ok, Err, OnOk}
use Rattle.std.specs.List.{AllByRecursion}
use Rattle.std.proofs.lemmas.Bool.{cases_lt, cond-true, cond-false, lt-leb}
use Rattle.std.proofs.lemmas.Grind.{fold-append}
use Rattle.std.proofs.lemmas.List.Elements.{filter-append}
use Rattle.byteorder.specs.Endian.{big_number}
use Rattle.als_record.specs.declared.change.Change.{Change}
use Rattle.als_record.specs.declared.lsn.Lsn.{Lsn}
use Rattle.als_record.specs.declared.record.Body.{Body}
use Rattle.als_record.specs.declared.record.Body.TheVariants.{Update, Compensation, Commit, Rollback, End, BeginCheckpoint, EndCheckpoint, Prepare}
use Rattle.als_record.specs.declared.record.Record.{Record}
use Rattle.als_record.specs.Spelling.{IsKey, IsBody, IsRecord}
use Rattle.als_record.specs.LogText.{IsLog}
use Rattle.als_record.specs.Pages.{PageState, change_in, change_of, empty_page, redone, changes_on, page_at, changes_above}
use Rattle.als_record.proofs.PageLaws.{follow_from-parts, changes_on-append, changes_on-none, changes_on-same, changes_on-other, page_at-nil, changes_above-nil}
use Rattle.als_frames.specs.Images.{spelled_lsn}
use Rattle.als_pages_check.specs.declared.page_check.PageCheck.{PageCheck}
use Rattle.als_pages_check.specs.Checked.{repeated, AllFrom, IsAdded, IsChecked, AreChecked}

-- ---- elements of a list

-- an element of a list in which one was set
set-cases : {X : Type 0} (xs : List X) (i : ℕ) (y : X) (k : ℕ) (c : X) → slice_get (set xs i y) k ≡ Some c
    → ((k ≡ i) × (y ≡ c)) ⊎ ((k ≡ i → ⊥) × (slice_get xs k ≡ Some c))
set-cases [] i y k c e = absurd (cc e)
set-cases (x ∷ xs) zero y zero c e = inl (refl, cc e)
set-cases (x ∷ xs) zero y (suc k) c e = inr (λ (h : suc k ≡ zero). omega (arith, h), e)
set-cases (x ∷ xs) (suc i) y zero c e = inr (λ (h : zero ≡ suc i). omega (arith, h), e)
set-cases (x ∷ xs) (suc i) y (suc k) c e =
    elim (set-cases xs i y k c e) [
      | inl here ↦ inl (ap suc here.0, here.1)
      | inr there ↦ inr (λ (h : suc k ≡ suc i). there.0 (omega (arith, h)), there.1)
    ]

-- an element of a list at whose end one was put
push-cases : {X : Type 0} (xs : List X) (y : X) (k : ℕ) (c : X) → slice_get (xs ++ y ∷ []) k ≡ Some c → (slice_get xs k ≡ Some c) ⊎ (y ≡ c)
push-cases [] y zero c e = inr (cc e)
push-cases [] y (suc k) c e = absurd (cc e)
push-cases (x ∷ xs) y zero c e = inl e
push-cases (x ∷ xs) y (suc k) c e = push-cases xs y k c e

-- an element stands below the length
pub get-below : {X : Type 0} (xs : List X) (k : ℕ) (c : X) → slice_get xs k ≡ Some c → k < length xs
get-below [] k c e = absurd (cc e)
get-below (x ∷ xs) zero c e = omega arith
get-below (x ∷ xs) (suc k) c e = let below : k < length xs = get-below xs k c e in omega (arith, below)

-- ---- a page with one more record

all-push : (from : ℕ) (cs : List Change) (c : Change) → AllFrom from cs → from ≤ c.lsn.0 → AllFrom from (cs ++ c ∷ [])
all-push from [] c h le = (le, tt)
all-push from (d ∷ cs) c h le = (h.0, all-push from cs c h.1 le)

all-parts : (from : ℕ) (cs : List Change) (c : Change) → AllFrom from (cs ++ c ∷ []) → AllFrom from cs × (from ≤ c.lsn.0)
all-parts from [] c h = (tt, h.0)
all-parts from (d ∷ cs) c h = let rest : AllFrom from cs × (from ≤ c.lsn.0) = all-parts from cs c h.1 in ((h.0, rest.0), rest.1)

module _ (log : List Record) (r : Record) (page lsn : ℕ) (ds : List Change) (is : changes_on page (r ∷ []) ≡ ds) where
  page_at-record : page_at (log ++ r ∷ []) page lsn ≡ fold redone (page_at log page lsn) (filter (λ change. nat_le change.lsn.0 lsn) ds)
  unfolding page_at
  page_at-record =
      ap (λ (cs : List Change). fold redone empty_page (filter (λ change. nat_le change.lsn.0 lsn) cs))
      (changes_on-append page log (r ∷ []) ∙ ap (λ (cs : List Change). changes_on page log ++ cs) is)
      ∙ ap (λ (cs : List Change). fold redone empty_page cs) (filter-append (λ change. nat_le change.lsn.0 lsn) (changes_on page log) ds)
      ∙ fold-append redone empty_page (filter (λ change. nat_le change.lsn.0 lsn) (changes_on page log)) (filter (λ change. nat_le change.lsn.0 lsn) ds)

  changes_above-record : changes_above (log ++ r ∷ []) page lsn ≡ changes_above log page lsn ++ filter (λ change. nat_lt lsn change.lsn.0) ds
  unfolding changes_above
  changes_above-record =
      ap (λ (cs : List Change). filter (λ change. nat_lt lsn change.lsn.0) cs)
      (changes_on-append page log (r ∷ []) ∙ ap (λ (cs : List Change). changes_on page log ++ cs) is)
      ∙ filter-append (λ change. nat_lt lsn change.lsn.0) (changes_on page log) ds

-- it changes another page, or none
module _ (log : List Record) (r : Record) (page lsn : ℕ) (none : changes_on page (r ∷ []) ≡ []) where
  page_at-other : page_at (log ++ r ∷ []) page lsn ≡ page_at log page lsn
  page_at-other = page_at-record log r page lsn [] none

  changes_above-other : changes_above (log ++ r ∷ []) page lsn ≡ changes_above log page lsn
  changes_above-other = changes_above-record log r page lsn [] none ∙ append-nil (changes_above log page lsn)

-- it changes the page, at an LSN up to the one that is asked for, or above it
module _ (log : List Record) (r : Record) (page lsn : ℕ) (c : Change) (one : changes_on page (r ∷ []) ≡ c ∷ []) where
  module _ (below : c.lsn.0 ≤ lsn) where
    page_at-below : page_at (log ++ r ∷ []) page lsn ≡ redone (page_at log page lsn) c
    page_at-below =
        page_at-record log r page lsn (c ∷ []) one
        ∙ ap (λ (cs : List Change). fold redone (page_at log page lsn) cs) (cond-true (nat_le c.lsn.0 lsn) (c ∷ []) [] (le-leb c.lsn.0 lsn below))

    changes_above-below : changes_above (log ++ r ∷ []) page lsn ≡ changes_above log page lsn
    changes_above-below =
        changes_above-record log r page lsn (c ∷ []) one
        ∙ ap (λ (cs : List Change). changes_above log page lsn ++ cs) (cond-false (nat_lt lsn c.lsn.0) (c ∷ []) [] (le-ltb lsn c.lsn.0 below))
        ∙ append-nil (changes_above log page lsn)

  module _ (above : lsn < c.lsn.0) where
    page_at-above : page_at (log ++ r ∷ []) page lsn ≡ page_at log page lsn
    page_at-above =
        page_at-record log r page lsn (c ∷ []) one
        ∙ ap (λ (cs : List Change). fold redone (page_at log page lsn) cs) (cond-false (nat_le c.lsn.0 lsn) (c ∷ []) [] (lt-leb c.lsn.0 lsn above))

    changes_above-above : changes_above (log ++ r ∷ []) page lsn ≡ changes_above log page lsn ++ c ∷ []
    changes_above-above =
        changes_above-record log r page lsn (c ∷ []) one
        ∙ ap (λ (cs : List Change). changes_above log page lsn ++ cs) (cond-true (nat_lt lsn c.lsn.0) (c ∷ []) [] (lt-ltb lsn c.lsn.0 above))

-- ---- the change of a log's next record

change-fits : (pages : ℕ) (r : Record) (body : Body) → IsBody pages body → IfSome (change_in r body) (λ c. IsKey pages c.key)
change-fits pages r (Update key before after) h = h.0
change-fits pages r (Compensation undo_next key after) h = h.1
change-fits pages r Commit h = tt
change-fits pages r Rollback h = tt
change-fits pages r End h = tt
change-fits pages r BeginCheckpoint h = tt
change-fits pages r (EndCheckpoint transactions rows) h = tt
change-fits pages r Prepare h = tt

all-front : (pages : ℕ) (log : List Record) (r : Record) → AllByRecursion (IsRecord pages) (log ++ r ∷ []) → AllByRecursion (IsRecord pages) log × IsRecord pages r
all-front pages [] r h = (tt, h.0)
all-front pages (s ∷ log) r h = let rest : AllByRecursion (IsRecord pages) log × IsRecord pages r = all-front pages log r h.1 in ((h.0, rest.0), rest.1)

module _ (pages : ℕ) (log : List Record) (r : Record) (is_log : IsLog pages (log ++ r ∷ [])) where
  front-is : IsLog pages log
  front-is = record { laid_out = (follow_from-parts log (r ∷ []) is_log.laid_out).0; records = (all-front pages log r is_log.records).0 }

  -- its slot is one of a page
  in-slots : (c : Change) → change_of r ≡ Some c → c.key.slot ≤ 14
  in-slots c some =
      let key : IsKey pages c.key = subst (λ (o : Option Change). IfSome o (λ d. IsKey pages d.key)) some (change-fits pages r r.body (all-front pages log r is_log.records).1.body) in
      key.slot

-- ---- the pages

pub AreChecked-nil : AreChecked [] []
AreChecked-nil page c e = absurd (cc e)

pub AreChecked-push : (pages : List PageCheck) (x : PageCheck) → ((page : ℕ) → IsChecked [] page x) → AreChecked pages [] → AreChecked (pages ++ x ∷ []) []
AreChecked-push pages x fresh checked page c e =
    elim (push-cases pages x page c e) [
      | inl before ↦ checked page c before
      | inr here ↦ subst (λ (v : PageCheck). IsChecked [] page v) here (fresh page)
    ]

pub spelled-first : (n : ℕ) (block : List ℕ) → n ≡ big_number 8 block → n ≡ spelled_lsn block
unfolding spelled_lsn
spelled-first n block is = is

-- a page of which no record is read
pub fresh : (page : ℕ) (x : PageCheck) → x.page_lsn.0 ≡ spelled_lsn x.block → x.lacks ≡ false → repeated x ≡ empty_page → IsChecked [] page x
fresh page x spelled lacks state = record {
  spelled = spelled;
  none = λ _. rw (changes_above-nil page x.page_lsn.0) tt;
  some = λ _. lacks;
  is_repeated = λ pages is_log. state ∙ sym (page_at-nil page x.page_lsn.0);
}

pub AreChecked-added : (old new : List PageCheck) (block : List ℕ) (from : Lsn) → IsAdded old block from new → AreChecked old [] → AreChecked new []
AreChecked-added old new block from a checked =
    let P : List PageCheck → Type 0 = λ xs. AreChecked xs [] in
    subst P (sym a.is) (AreChecked-push old a.added (λ page. fresh page a.added a.spelled a.none a.empty) checked)

pub OnOk-added : {T E : Type 0} {P Q : Type 0} (r : Result T E) → (P → Q) → OnOk r P → OnOk r Q
OnOk-added (Ok t) f h = f h
OnOk-added (Err e) f h = tt

-- a record that does not change the page
same-checked : (log : List Record) (r : Record) (page : ℕ) (c : PageCheck) → changes_on page (r ∷ []) ≡ [] → IsChecked log page c → IsChecked (log ++ r ∷ []) page c
same-checked log r page c none h = record {
  spelled = h.spelled;
  none = λ lacks. subst (λ (cs : List Change). AllFrom c.redone_from.0 cs) (sym (changes_above-other log r page c.page_lsn.0 none)) (h.none lacks);
  some = λ all. h.some (subst (λ (cs : List Change). AllFrom c.redone_from.0 cs) (changes_above-other log r page c.page_lsn.0 none) all);
  is_repeated = λ pages is_log. h.is_repeated pages (front-is pages log r is_log) ∙ sym (page_at-other log r page c.page_lsn.0 none);
}

-- what taking a change makes of a page
pub record Notes (x : PageCheck) (change : Change) (y : PageCheck) : Type 0 where
  pub block : y.block ≡ x.block
  pub page_lsn : y.page_lsn ≡ x.page_lsn
  pub redone_from : y.redone_from ≡ x.redone_from
  pub below : change.lsn.0 ≤ x.page_lsn.0 → (y.lacks ≡ x.lacks) × (change.key.slot ≤ 14 → repeated y ≡ redone (repeated x) change)
  pub above : x.page_lsn.0 < change.lsn.0 → (y.lacks ≡ cond (nat_lt change.lsn.0 x.redone_from.0) true x.lacks) × (repeated y ≡ repeated x)

-- a change of the page
module _ (log : List Record) (r : Record) (c : Change) (some : change_of r ≡ Some c) (x y : PageCheck) (h : IsChecked log c.key.page x) (notes : Notes x c y) where
  one : changes_on c.key.page (r ∷ []) ≡ c ∷ []
  one = changes_on-same c.key.page r c some refl

  lsn-same : y.page_lsn.0 ≡ x.page_lsn.0
  lsn-same = ap (λ (v : Lsn). v.0) notes.page_lsn

  from-same : y.redone_from.0 ≡ x.redone_from.0
  from-same = ap (λ (v : Lsn). v.0) notes.redone_from

  -- all of this by what the page was
  record Parts : Type 0 where
    none : y.lacks ≡ false → AllFrom x.redone_from.0 (changes_above (log ++ r ∷ []) c.key.page x.page_lsn.0)
    all : AllFrom x.redone_from.0 (changes_above (log ++ r ∷ []) c.key.page x.page_lsn.0) → y.lacks ≡ false
    is_repeated : (pages : ℕ) → IsLog pages (log ++ r ∷ []) → repeated y ≡ page_at (log ++ r ∷ []) c.key.page x.page_lsn.0

  noted : Parts → IsChecked (log ++ r ∷ []) c.key.page y
  noted p = record {
    spelled = lsn-same ∙ h.spelled ∙ ap spelled_lsn (sym notes.block);
    none = rw (lsn-same, from-same) p.none;
    some = rw (lsn-same, from-same) p.all;
    is_repeated = rw lsn-same p.is_repeated;
  }

  parts-below : c.lsn.0 ≤ x.page_lsn.0 → Parts
  parts-below le =
      let same = changes_above-below log r c.key.page x.page_lsn.0 c one le in
      let did = notes.below le in
      record {
        none = λ lacks. subst (λ (cs : List Change). AllFrom x.redone_from.0 cs) (sym same) (h.none (sym did.0 ∙ lacks));
        all = λ every. did.0 ∙ h.some (subst (λ (cs : List Change). AllFrom x.redone_from.0 cs) same every);
        is_repeated = λ pages is_log.
            did.1 (in-slots pages log r is_log c some)
            ∙ ap (λ (s : PageState). redone s c) (h.is_repeated pages (front-is pages log r is_log)) ∙ sym (page_at-below log r c.key.page x.page_lsn.0 c one le);
      }

  parts-above : x.page_lsn.0 < c.lsn.0 → Parts
  parts-above lt =
      let more = changes_above-above log r c.key.page x.page_lsn.0 c one lt in
      let did = notes.above lt in
      let was : (pages : ℕ) → IsLog pages (log ++ r ∷ []) → repeated y ≡ page_at (log ++ r ∷ []) c.key.page x.page_lsn.0 =
      λ pages is_log. did.1 ∙ h.is_repeated pages (front-is pages log r is_log) ∙ sym (page_at-above log r c.key.page x.page_lsn.0 c one lt) in
      elim (cases_lt c.lsn.0 x.redone_from.0) [
        | inl below ↦
            let lacks : y.lacks ≡ true = did.0 ∙ cond-true (nat_lt c.lsn.0 x.redone_from.0) true x.lacks (lt-ltb c.lsn.0 x.redone_from.0 below) in
            record {
              none = λ not. absurd (cc (lacks, not));
              all = λ every.
                  let last : x.redone_from.0 ≤ c.lsn.0 = (all-parts x.redone_from.0 (changes_above log c.key.page x.page_lsn.0) c (subst (λ (cs : List Change). AllFrom x.redone_from.0 cs) more every)).1 in
                  absurd (omega (arith, last, below));
              is_repeated = was;
            }
        | inr from ↦
            let lacks : y.lacks ≡ x.lacks = did.0 ∙ cond-false (nat_lt c.lsn.0 x.redone_from.0) true x.lacks (le-ltb c.lsn.0 x.redone_from.0 from) in
            record {
              none = λ not. subst (λ (cs : List Change). AllFrom x.redone_from.0 cs) (sym more)
                  (all-push x.redone_from.0 (changes_above log c.key.page x.page_lsn.0) c (h.none (sym lacks ∙ not)) from);
              all = λ every. lacks ∙ h.some (all-parts x.redone_from.0 (changes_above log c.key.page x.page_lsn.0) c (subst (λ (cs : List Change). AllFrom x.redone_from.0 cs) more every)).0;
              is_repeated = was;
            }
      ]

  pub IsChecked-noted : IsChecked (log ++ r ∷ []) c.key.page y
  IsChecked-noted =
      elim (cases_lt x.page_lsn.0 c.lsn.0) [
        | inl above ↦ noted (parts-above above)
        | inr below ↦ noted (parts-below below)
      ]

module _ (pages : List PageCheck) (log : List Record) (r : Record) (checked : AreChecked pages log) where
  pub AreChecked-none : change_of r ≡ None → AreChecked pages (log ++ r ∷ [])
  AreChecked-none none page c e = same-checked log r page c (changes_on-none page r none) (checked page c e)

  module _ (change : Change) (some : change_of r ≡ Some change) where
    -- the page is not one of these
    pub AreChecked-beyond : length pages ≤ change.key.page → AreChecked pages (log ++ r ∷ [])
    AreChecked-beyond beyond page c e =
        let below : page < length pages = get-below pages page c e in
        same-checked log r page c (changes_on-other page r change some (λ (h : change.key.page ≡ page). omega (arith, beyond, below, h))) (checked page c e)

    -- it takes the change
    pub AreChecked-noted : (after : List PageCheck) (x y : PageCheck) → slice_get pages change.key.page ≡ Some x → after ≡ set pages change.key.page y
        → Notes x change y → AreChecked after (log ++ r ∷ [])
    AreChecked-noted after x y here is notes page c e =
        elim (set-cases pages change.key.page y page c (sym (ap (λ (v : List PageCheck). slice_get v page) is) ∙ e)) [
          | inl it ↦
              let own : IsChecked (log ++ r ∷ []) change.key.page y = IsChecked-noted log r change some x y (checked change.key.page x here) notes in
              subst (λ (v : PageCheck). IsChecked (log ++ r ∷ []) page v) it.1 (subst (λ (k : ℕ). IsChecked (log ++ r ∷ []) k y) (sym it.0) own)
          | inr other ↦
              same-checked log r page c (changes_on-other page r change some (λ (h : change.key.page ≡ page). other.0 (sym h))) (checked page c other.1)
        ]
