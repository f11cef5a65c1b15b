-- What checkpoints hold of the log and of the pages, after each event.
use Rattle.std.proofs.Common.{◌≡◌, ℕ, ◌<◌, ◌≤◌, ◌==◌, Bool, List, [], ◌∷◌, ◌++◌, length, filter}
use Rattle.std.proofs.Common.{Option, Some, None, refl, sym, ap, subst, ◌∙◌, inl, inr, arith}
use Rattle.std.proofs.Common.{append-nil, append_assoc}
use Rattle.std.specs.Prelude.{IfSome, nat_lt}
use Rattle.std.specs.List.{AllByRecursion, sum_by}
use Rattle.std.proofs.lemmas.Bool.{cases_Bool, eqb-true, eq-eqb, false≢true}
use Rattle.std.proofs.lemmas.List.Sums.{sum_by-cons}
use Rattle.std.proofs.lemmas.List.Elements.{filter-append}
use Rattle.als_record.specs.declared.record.Body.{Body}
use Rattle.als_record.specs.declared.record.Body.TheVariants.{Update, Compensation, Commit}
use Rattle.als_record.specs.declared.record.Body.TheVariants.{Rollback, End, BeginCheckpoint}
use Rattle.als_record.specs.declared.record.Body.TheVariants.{EndCheckpoint, Prepare}
use Rattle.als_ckpt_codec.specs.declared.numbers.Numbers.{Numbers}
use Rattle.als_record.specs.declared.change.Change.{Change}
use Rattle.als_record.specs.declared.lsn.Lsn.{Lsn}
use Rattle.als_record.specs.declared.record.Record.{Record}
use Rattle.als_record.specs.declared.rows.LoggedPage.{LoggedPage}
use Rattle.als_record.specs.LogText.{end_of}
use Rattle.als_record.specs.Pages.{change_in, change_of, changes_on, changes_above}
use Rattle.als_record.specs.Spelling.{record_len}
use Rattle.als_record.proofs.PageLaws.{changes_on-append, changes_on-none, changes_on-same}
use Rattle.als_record.proofs.PageLaws.{changes_on-other}
use Rattle.als_ckpt_codec.specs.declared.checkpoint.Checkpoint.{Checkpoint}
use Rattle.als_ckpt.specs.declared.region.Region.{Region}
use Rattle.als_ckpt.specs.declared.region.Region.TheVariants.{First, Second}
use Rattle.als_ckpt.specs.Regions.{Held, Begun, with_held, block_written, blocks_synced}
use Rattle.als_ckpt.specs.Regions.{nothing_held}
use Rattle.als_dirty.proofs.ImageSteps.{changes_above-later}
use Rattle.als_dirty.specs.Rows.{rows_of}
use Rattle.als_frames.specs.Frames.{Paged}
use Rattle.als_frames.specs.Images.{synced_lsn}
use Rattle.als_pool.specs.Pooled.{Pooled, Grows}
use Rattle.als_pool.specs.Restart.{at_first, row_after, row_in, or_from, start_of, IsRowBelow}
use Rattle.als_pool.specs.Restart.{CoversPages}
use Rattle.als_tables.specs.Fronts.{IsOfFront}
use Rattle.als_store.specs.Checkpoints.{checkpoint_of, IsCovering, AreCovering}

-- ---- lists

all_append : (P : Change → Type 0) (xs ys : List Change) → AllByRecursion P xs → AllByRecursion P ys
    → AllByRecursion P (xs ++ ys)
all_append P [] ys h k = k
all_append P (x ∷ xs) ys h k = (h.0, all_append P xs ys h.1 k)

all_filter : (P : Change → Type 0) (p : Change → Bool) (xs : List Change) → AllByRecursion P xs
    → AllByRecursion P (filter p xs)
all_filter P p [] h = tt
all_filter P p (x ∷ xs) h = elim (cases_Bool (p x)) [
  | inl e ↦ rw e (h.0, all_filter P p xs h.1)
  | inr e ↦ rw e (all_filter P p xs h.1)
]

some_map : {X : Type 0} (P Q : X → Type 0) (o : Option X) → ((x : X) → P x → Q x) → IfSome o P
    → IfSome o Q
some_map P Q None f h = tt
some_map P Q (Some x) f h = f x h

-- ---- one record more

change_lsn : (r : Record) (b : Body) (c : Change) → change_in r b ≡ Some c → c.lsn.0 ≡ r.lsn.0
change_lsn r (Update key before after) c e = cc
change_lsn r (Compensation undo_next key after) c e = cc
change_lsn r Commit c e = absurd (cc e)
change_lsn r Rollback c e = absurd (cc e)
change_lsn r End c e = absurd (cc e)
change_lsn r BeginCheckpoint c e = absurd (cc e)
change_lsn r (EndCheckpoint transactions pages) c e = absurd (cc e)
change_lsn r Prepare c e = absurd (cc e)

on_record : (page : ℕ) (r : Record) (n : ℕ) → n ≤ r.lsn.0
    → AllByRecursion (λ change. n ≤ change.lsn.0) (changes_on page (r ∷ []))
on_record page r n le = go (change_of r) refl
  where
    go : (o : Option Change) → change_of r ≡ o
        → AllByRecursion (λ change. n ≤ change.lsn.0) (changes_on page (r ∷ []))
    go None is = rw (changes_on-none page r is) tt
    go (Some c) is = elim (cases_Bool (c.key.page == page)) [
      | inl e ↦ let at : n ≤ c.lsn.0 =
          omega (arith, le, change_lsn r r.body c is) in
          rw (changes_on-same page r c is (eqb-true c.key.page page e)) (at, tt)
      | inr e ↦ rw (changes_on-other page r c is
          (λ same. false≢true (sym e ∙ eq-eqb c.key.page page same))) tt
    ]

lacks_push : (log : List Record) (r : Record) (least page lsn : ℕ) → least ≤ r.lsn.0
    → AllByRecursion (λ change. least ≤ change.lsn.0) (changes_above log page lsn)
    → AllByRecursion (λ change. least ≤ change.lsn.0) (changes_above (log ++ r ∷ []) page lsn)
unfolding changes_above
lacks_push log r least page lsn le h =
    subst (λ (cs : List Change). AllByRecursion (λ change. least ≤ change.lsn.0) cs)
    (sym (ap (filter (λ change. nat_lt lsn change.lsn.0)) (changes_on-append page log (r ∷ []))
    ∙ filter-append (λ change. nat_lt lsn change.lsn.0) (changes_on page log)
    (changes_on page (r ∷ []))))
    (all_append (λ change. least ≤ change.lsn.0)
    (filter (λ change. nat_lt lsn change.lsn.0) (changes_on page log))
    (filter (λ change. nat_lt lsn change.lsn.0) (changes_on page (r ∷ []))) h
    (all_filter (λ change. least ≤ change.lsn.0) (λ change. nat_lt lsn change.lsn.0)
    (changes_on page (r ∷ [])) (on_record page r least le)))

-- what waits for a page begins at or below the position
row_low : (position : Lsn) (rows : List LoggedPage) (page : ℕ) (o : Option Lsn) → 16 ≤ position.0
    → AllByRecursion (IsRowBelow position) rows → IfSome o (λ lsn. lsn.0 ≤ position.0)
    → IfSome (row_after o rows page) (λ lsn. lsn.0 ≤ position.0)
row_low position [] page o least all low = low
row_low position (row ∷ rows) page o least all low = elim (cases_Bool (row.page == page)) [
  | inl e ↦ let here : (at_first row.rec_lsn).0 ≤ position.0 =
      omega (arith, all.0.1, least) in rw e
      (row_low position rows page (Some (at_first row.rec_lsn)) least all.1 here)
  | inr e ↦ rw e (row_low position rows page o least all.1 low)
]

start_low : (position : Lsn) (rows : List LoggedPage) (page : ℕ) → 16 ≤ position.0
    → AllByRecursion (IsRowBelow position) rows → (start_of position rows page).0 ≤ position.0
start_low position rows page least all =
    either (row_in rows page) (row_low position rows page None least all tt)
  where
    either : (o : Option Lsn) → IfSome o (λ lsn. lsn.0 ≤ position.0)
        → (or_from o (at_first position)).0 ≤ position.0
    either None low = omega (arith, least)
    either (Some row) low = low

front_low : (front rest : List Record) → sum_by record_len front ≤ sum_by record_len (front ++ rest)
front_low [] rest = let none : sum_by record_len [] ≡ 0 = refl in omega (arith, none)
front_low (r ∷ front) rest =
    omega (
      arith,
      sum_by-cons record_len r front,
      sum_by-cons record_len r (front ++ rest),
      front_low front rest,
    )

position_low : (log : List Record) (c : Checkpoint) → IsOfFront log c
    → c.numbers.position.0 ≤ end_of log
unfolding end_of
position_low log c h =
    omega (
      arith,
      ap (λ (n : Numbers). n.position.0) h.holds.numbers,
      ap
          (λ (rs : List Record). sum_by record_len rs) h.parts,
      front_low h.front h.rest,
    )

front_push : (log : List Record) (r : Record) (c : Checkpoint) → IsOfFront log c
    → IsOfFront (log ++ r ∷ []) c
front_push log r c h = record {
  front = h.front;
  rest = h.rest ++ r ∷ [];
  parts = ap (λ (xs : List Record). xs ++ r ∷ []) h.parts ∙ append_assoc h.front h.rest (r ∷ []);
  holds = h.holds;
}

position_least : (log : List Record) (c : Checkpoint) → IsOfFront log c → 16 ≤ c.numbers.position.0
unfolding end_of
position_least log c h = omega (arith, ap (λ (n : Numbers). n.position.0) h.holds.numbers)

covering_push : (log : List Record) (r : Record) (old new : Pooled) (c : Checkpoint)
    → r.lsn.0 ≡ end_of log → length new.waits ≡ length old.waits → new.frames ≡ old.frames
    → IsCovering log old c → IsCovering (log ++ r ∷ []) new c
covering_push log r old new c at count frames h = record {
  of_front = front_push log r c h.of_front;
  listed = h.listed;
  covers = λ page lt.
      let least : ℕ = (start_of c.numbers.position c.pages page).0 in
      let inside : page < length old.waits = omega (arith, lt, count) in
      let low : least ≤ r.lsn.0 =
      omega (
        arith,
        at,
        position_low log c h.of_front,
        start_low c.numbers.position c.pages page
            (position_least log c h.of_front) h.listed,
      ) in
      subst (λ (f : Paged). AllByRecursion (λ change. least ≤ change.lsn.0)
      (changes_above (log ++ r ∷ []) page (synced_lsn f page))) (sym frames)
      (lacks_push log r least page (synced_lsn old.frames page) low (h.covers page inside));
}

-- ---- pages as they are synced

covering_grows : (log : List Record) (old new : Pooled) (c : Checkpoint)
    → length new.waits ≡ length old.waits → Grows old new → IsCovering log old c
    → IsCovering log new c
covering_grows log old new c count grows h = record {
  of_front = h.of_front;
  listed = h.listed;
  covers = λ page lt.
      let least : ℕ = (start_of c.numbers.position c.pages page).0 in
      let inside : page < length old.waits = omega (arith, lt, count) in
      changes_above-later (λ change. least ≤ change.lsn.0) log page (synced_lsn old.frames page)
      (synced_lsn new.frames page) (grows page inside) (h.covers page inside);
}

are_mapped : (log log' : List Record) (old new : Pooled) (held : Held) (begun : Option Begun)
    → ((c : Checkpoint) → IsCovering log old c → IsCovering log' new c)
    → AreCovering log old held begun → AreCovering log' new held begun
are_mapped log log' old new held begun f h = record {
  first = some_map (IsCovering log old) (IsCovering log' new) held.first f h.first;
  second = some_map (IsCovering log old) (IsCovering log' new) held.second f h.second;
  coming = some_map (λ b. IsCovering log old b.checkpoint) (λ b. IsCovering log' new b.checkpoint)
      begun (λ b. f b.checkpoint) h.coming;
}

pub told_push : (log : List Record) (r : Record) (old new : Pooled) (held : Held)
    (begun : Option Begun) → r.lsn.0 ≡ end_of log → length new.waits ≡ length old.waits
    → new.frames ≡ old.frames
    → AreCovering log old held begun → AreCovering (log ++ r ∷ []) new held begun
told_push log r old new held begun at count frames h =
    are_mapped log (log ++ r ∷ []) old new held begun
    (λ c. covering_push log r old new c at count frames) h

pub told_grows : (log : List Record) (old new : Pooled) (held : Held) (begun : Option Begun)
    → length new.waits ≡ length old.waits → Grows old new → AreCovering log old held begun
    → AreCovering log new held begun
told_grows log old new held begun count grows h =
    are_mapped log log old new held begun (λ c. covering_grows log old new c count grows) h

-- ---- checkpoints

pub told_new : (pool : Pooled) → AreCovering [] pool nothing_held None
told_new pool = record { first = tt; second = tt; coming = tt }

pub told_synced : (log : List Record) (pool : Pooled) (held : Held) (begun : Option Begun)
    → AreCovering log pool held begun → AreCovering log pool held (blocks_synced begun)
told_synced log pool held None h = h
told_synced log pool held (Some b) h =
    record { first = h.first; second = h.second; coming = h.coming }

pub told_written : (log : List Record) (pool : Pooled) (held : Held) (begun : Option Begun)
    → AreCovering log pool held begun → AreCovering log pool held (block_written begun)
told_written log pool held None h = h
told_written log pool held (Some b) h =
    record { first = h.first; second = h.second; coming = h.coming }

pub told_begun : (log : List Record) (pool : Pooled) (held : Held) (begun : Option Begun)
    (region to : Region) (c : Checkpoint) → IsCovering log pool c → AreCovering log pool held begun
    → AreCovering log pool (with_held held region None)
    (Some (record { region = to; checkpoint = c; written = 0; synced = 0 }))
told_begun log pool held begun First to c is h =
    record { first = tt; second = h.second; coming = is }
told_begun log pool held begun Second to c is h =
    record { first = h.first; second = tt; coming = is }

pub told_whole : (log : List Record) (pool : Pooled) (held : Held) (b : Begun) (region : Region)
    → AreCovering log pool held (Some b)
    → AreCovering log pool (with_held held region (Some b.checkpoint)) None
told_whole log pool held b First h = record { first = h.coming; second = h.second; coming = tt }
told_whole log pool held b Second h = record { first = h.first; second = h.coming; coming = tt }

-- a checkpoint of the log and of the pages as they are
pub covering_now : (log : List Record) (pool : Pooled)
    → AllByRecursion (IsRowBelow (record { 0 = end_of log })) (rows_of pool.dirty)
    → CoversPages log (record { 0 = end_of log }) (rows_of pool.dirty) pool
    → IsCovering log pool (checkpoint_of log pool)
covering_now log pool listed covers = record {
  of_front = record {
    front = log;
    rest = [];
    parts = sym (append-nil log);
    holds = record { numbers = refl; transactions = refl };
  };
  listed = listed;
  covers = covers;
}
