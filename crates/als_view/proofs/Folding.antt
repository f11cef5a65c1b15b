-- The images of a copy, one write and one commit after another.
use Rattle.std.proofs.Common.{◌≡◌, ℕ, ◌*◌, ◌≤◌, ◌<◌, ◌==◌, nat_lt, Bool, true, false, cond, ◌&&◌, List, [], ◌∷◌, ◌++◌, length, get_or, set, fold, flat_map, None, refl, sym, ap, ◌∙◌, inl, inr, arith}
use Rattle.std.proofs.lemmas.Bool.{cases_Bool, eqb-true, eq-eqb, false≢true, and_parts, and_from, ltb-true, lt-ltb}
use Rattle.std.proofs.lemmas.List.{get_or-set_other, length-set}
use Rattle.std.proofs.lemmas.Grind.{get_or-set_at, flat_map-append}
use Rattle.std.proofs.lemmas.List.Sums.{fold-append}
use Rattle.als_record.specs.declared.key.Key.{Key}
use Rattle.als_record.specs.Spelling.{Image}
use Rattle.als_record.specs.Images.{same_key}
use Rattle.als_record.specs.Commits.{Commit, Write, after_write, seen_after}
use Rattle.als_commits.specs.Counting.{last_of}
use Rattle.als_view.specs.Images.{place_of, written, written_by, AreImagesAfter}

length-written : (images : List Image) (w : Write) → length (written images w) ≡ length images
length-written images w = go (nat_lt w.key.slot 15 && nat_lt (place_of w.key) (length images))
  where
    go : (b : Bool) → length (cond b (set images (place_of w.key) w.after) images) ≡ length images
    go true = length-set images (place_of w.key) w.after
    go false = refl

pub length-written_all : (ws : List Write) (images : List Image) → length (fold written images ws) ≡ length images
length-written_all [] images = refl
length-written_all (w ∷ ws) images = length-written_all ws (written images w) ∙ length-written images w

pub length-written_by : (cs : List Commit) (images : List Image) → length (fold written_by images cs) ≡ length images
length-written_by [] images = refl
length-written_by (c ∷ cs) images = length-written_by cs (written_by images c) ∙ length-written_all c.writes images

-- one write, seen at a key of the database
module _ (pages : ℕ) (k : Key) (p : k.page < pages) (s : k.slot ≤ 14) where
  at-written : (images : List Image) → length images ≡ pages * 15 → (w : Write) (d : Image) → get_or (written images w) (place_of k) d ≡ after_write k (get_or images (place_of k) d) w
  at-written images n w d = elim (cases_Bool (nat_lt w.key.slot 15 && nat_lt (place_of w.key) (length images))) [
    | inl y ↦ rw y (inside (and_parts (nat_lt w.key.slot 15) (nat_lt (place_of w.key) (length images)) y))
    | inr m ↦ rw m (outside m)
  ]
    where
      inside : (nat_lt w.key.slot 15 ≡ true) × (nat_lt (place_of w.key) (length images) ≡ true) → get_or (set images (place_of w.key) w.after) (place_of k) d ≡ after_write k (get_or images (place_of k) d) w
      inside q = elim (cases_Bool (same_key w.key k)) [
        | inl e ↦
            let f : ((w.key.page == k.page) ≡ true) × ((w.key.slot == k.slot) ≡ true) = and_parts (w.key.page == k.page) (w.key.slot == k.slot) e in
            let a : w.key.page ≡ k.page = eqb-true w.key.page k.page f.0 in
            let b : w.key.slot ≡ k.slot = eqb-true w.key.slot k.slot f.1 in
            rw e (get_or-set_at images (place_of w.key) (place_of k) w.after d (omega (arith, a, b)) (ltb-true (place_of w.key) (length images) q.1))
        | inr e ↦
            let low : w.key.slot < 15 = ltb-true w.key.slot 15 q.0 in
            rw e (get_or-set_other images (place_of w.key) (place_of k) w.after d (λ j.
            let a : w.key.page ≡ k.page = omega arith in
            let b : w.key.slot ≡ k.slot = omega arith in
            false≢true (sym e ∙ and_from (w.key.page == k.page) (w.key.slot == k.slot) (eq-eqb w.key.page k.page a) (eq-eqb w.key.slot k.slot b))))
      ]

      outside : (nat_lt w.key.slot 15 && nat_lt (place_of w.key) (length images)) ≡ false → get_or images (place_of k) d ≡ after_write k (get_or images (place_of k) d) w
      outside m = elim (cases_Bool (same_key w.key k)) [
        | inl e ↦
            let f : ((w.key.page == k.page) ≡ true) × ((w.key.slot == k.slot) ≡ true) = and_parts (w.key.page == k.page) (w.key.slot == k.slot) e in
            let a : w.key.page ≡ k.page = eqb-true w.key.page k.page f.0 in
            let b : w.key.slot ≡ k.slot = eqb-true w.key.slot k.slot f.1 in
            let one : w.key.slot < 15 = omega (arith, b) in
            let two : place_of w.key < length images = omega (arith, a, b, n) in
            absurd (false≢true (sym m ∙ and_from (nat_lt w.key.slot 15) (nat_lt (place_of w.key) (length images)) (lt-ltb w.key.slot 15 one) (lt-ltb (place_of w.key) (length images) two)))
        | inr e ↦ rw e refl
      ]

  at-all : (ws : List Write) (images : List Image) → length images ≡ pages * 15 → (d : Image) → get_or (fold written images ws) (place_of k) d ≡ fold (after_write k) (get_or images (place_of k) d) ws
  at-all [] images n d = refl
  at-all (w ∷ ws) images n d = at-all ws (written images w) (length-written images w ∙ n) d ∙ ap (λ (image : Image). fold (after_write k) image ws) (at-written images n w d)

  at-commits : (cs : List Commit) (images : List Image) → length images ≡ pages * 15 → (d : Image) → get_or (fold written_by images cs) (place_of k) d ≡ fold (after_write k) (get_or images (place_of k) d) (flat_map (λ (c : Commit). c.writes) cs)
  at-commits [] images n d = refl
  at-commits (c ∷ cs) images n d =
      at-commits cs (written_by images c) (length-written_all c.writes images ∙ n) d
      ∙ ap (λ (image : Image). fold (after_write k) image (flat_map (λ (c : Commit). c.writes) cs)) (at-all c.writes images n d)
      ∙ sym (fold-append (after_write k) (get_or images (place_of k) d) c.writes (flat_map (λ (c : Commit). c.writes) cs))

-- the images of a front, after more commits
pub images-after : (images : List Image) (pages : ℕ) (front more : List Commit) → AreImagesAfter images pages front → AreImagesAfter (fold written_by images more) pages (front ++ more)
unfolding seen_after
images-after images pages front more a = record {
  count = length-written_by more images ∙ a.count;
  each = λ k d p s.
      at-commits pages k p s more images a.count d
      ∙ ap (λ (image : Image). fold (after_write k) image (flat_map (λ (c : Commit). c.writes) more)) (a.each k d p s)
      ∙ sym (fold-append (after_write k) None (flat_map (λ (c : Commit). c.writes) front) (flat_map (λ (c : Commit). c.writes) more))
      ∙ ap (fold (after_write k) None) (sym (flat_map-append (λ (c : Commit). c.writes) front more));
}

-- the images of no commit
pub images-none : (images : List Image) (pages : ℕ) → length images ≡ pages * 15 → ((i : ℕ) (d : Image) → i < length images → get_or images i d ≡ None) → AreImagesAfter images pages []
unfolding seen_after
images-none images pages n a = record { count = n; each = λ k d p s. a (place_of k) d (omega (arith, n)) }

-- the last LSN of a front and one more commit
pub last-one : (front : List Commit) (c : Commit) → last_of (front ++ c ∷ []) ≡ c.lsn.0
unfolding last_of
last-one front c = fold-append (λ (last : ℕ) (d : Commit). d.lsn.0) 0 front (c ∷ [])
