-- The writes of a page, slot by slot.
use Rattle.std.proofs.Common.{◌≡◌, ◌⊎◌, ℕ, zero, suc, ◌==◌, ◌+◌, ◌<◌, ◌≤◌, Bool, true, false, cond, ◌&&◌, ◌||◌, List, [], ◌∷◌, ◌++◌, length, map, fold, Option, None, Some, refl, sym, ap, ◌∙◌, inl, inr, subst, arith}
use Rattle.std.specs.List.{list_any, AllByRecursion}
use Rattle.std.proofs.lemmas.Bool.{cases_Bool, cases_lt, ne_eqb, eqb-true, or_parts, cond-false}
use Rattle.std.proofs.lemmas.List.Folds.{list_any-append}
use Rattle.std.proofs.lemmas.List.Sums.{fold-append}
use Rattle.als_record.specs.declared.key.Key.{Key}
use Rattle.als_record.specs.Spelling.{Image}
use Rattle.als_record.specs.Images.{same_key}
use Rattle.als_record.specs.Commits.{Write, after_write}
use Rattle.als_record.proofs.Numbers.{eqb-refl, eqb-sym}
use Rattle.als_record.proofs.Standing.{same_key-refl}
use Rattle.als_renew.specs.Pages.{write_at, key_at, page_writes}

-- ---- writes of other keys

and-off : (a b : Bool) → b ≡ false → (a && b) ≡ false
and-off true b e = e
and-off false b e = refl

or-off : (a b : Bool) → a ≡ false → b ≡ false → (a || b) ≡ false
or-off a b p q = simp (p, q)

-- a key of another page, and one of another slot
pub other_page : (page slot : ℕ) (k : Key) → (page == k.page) ≡ false → same_key (key_at page slot) k ≡ false
other_page page slot k e = ap (λ b. b && (slot == k.slot)) e

pub other_slot : (page slot : ℕ) (k : Key) → (slot == k.slot) ≡ false → same_key (key_at page slot) k ≡ false
other_slot page slot k e = and-off (page == k.page) (slot == k.slot) e

none_at : (k key : Key) (i : Image) → same_key key k ≡ false → list_any (λ (w : Write). same_key w.key k) (write_at key i) ≡ false
none_at k key None e = refl
none_at k key (Some bytes) e = or-off (same_key key k) false e refl

module _ (value : Key → Image) (page : ℕ) (k : Key) where
  -- none of the first writes is of the key, where none of these slots is its
  pub none-below : (n : ℕ) → ((slot : ℕ) → slot < n → same_key (key_at page slot) k ≡ false) → list_any (λ (w : Write). same_key w.key k) (page_writes value page n) ≡ false
  unfolding page_writes
  none-below zero off = refl
  none-below (suc n) off =
      list_any-append (λ (w : Write). same_key w.key k) (page_writes value page n) (write_at (key_at page n) (value (key_at page n)))
      ∙ or-off (list_any (λ (w : Write). same_key w.key k) (page_writes value page n)) (list_any (λ (w : Write). same_key w.key k) (write_at (key_at page n) (value (key_at page n))))
      (none-below n (λ slot lt. off slot (omega arith)))
      (none_at k (key_at page n) (value (key_at page n)) (off n (omega arith)))

-- the slots from one on come later
pub none-later : (value : Key → Image) (page slot n : ℕ) → n ≤ slot → list_any (λ (w : Write). same_key w.key (key_at page slot)) (page_writes value page n) ≡ false
none-later value page slot n le = none-below value page (key_at page slot) n (λ i lt. other_slot page i (key_at page slot) (ne_eqb i slot (λ e. absurd (omega (arith, lt, le, e)))))

-- writes of other keys leave a key as it was
pub fold-others : (k : Key) (ws : List Write) (x : Image) → list_any (λ (w : Write). same_key w.key k) ws ≡ false → fold (after_write k) x ws ≡ x
fold-others k [] x e = refl
fold-others k (w ∷ ws) x e =
    let parts = or_parts (same_key w.key k) (list_any (λ (v : Write). same_key v.key k) ws) e in
    ap (λ (y : Image). fold (after_write k) y ws) (cond-false (same_key w.key k) w.after x parts.0) ∙ fold-others k ws x parts.1

-- ---- the key's own write

own_at : (key : Key) (i : Image) → fold (after_write key) None (write_at key i) ≡ i
own_at key None = refl
own_at key (Some bytes) = ap (λ b. cond b (Some bytes) None) (same_key-refl key)

module _ (value : Key → Image) (page slot : ℕ) where
  -- behind the writes of the slots below a number, the key of one of them has its value
  pub fold-own : (n : ℕ) → slot < n → fold (after_write (key_at page slot)) None (page_writes value page n) ≡ value (key_at page slot)
  unfolding page_writes
  fold-own zero lt = absurd (omega arith)
  fold-own (suc n) lt =
      fold-append (after_write (key_at page slot)) None (page_writes value page n) (write_at (key_at page n) (value (key_at page n)))
      ∙ elim (cases_lt slot n) [
        | inl below ↦
            ap (λ (x : Image). fold (after_write (key_at page slot)) x (write_at (key_at page n) (value (key_at page n)))) (fold-own n below)
            ∙ fold-others (key_at page slot) (write_at (key_at page n) (value (key_at page n))) (value (key_at page slot))
            (none_at (key_at page slot) (key_at page n) (value (key_at page n)) (other_slot page n (key_at page slot) (ne_eqb n slot (λ e. absurd (omega (arith, below, e))))))
        | inr over ↦
            let is : n ≡ slot = omega (arith, lt, over) in
            let nothing : fold (after_write (key_at page slot)) None (page_writes value page n) ≡ None = fold-others (key_at page slot) (page_writes value page n) None (none-later value page slot n over) in
            ap (λ (x : Image). fold (after_write (key_at page slot)) x (write_at (key_at page n) (value (key_at page n)))) nothing
            ∙ ap (λ (m : ℕ). fold (after_write (key_at page slot)) None (write_at (key_at page m) (value (key_at page m)))) is
            ∙ own_at (key_at page slot) (value (key_at page slot))
      ]

-- ---- the keys

all_at : (P : Key → Type 0) (key : Key) (i : Image) → P key → AllByRecursion (λ (w : Write). P w.key) (write_at key i)
all_at P key None p = tt
all_at P key (Some bytes) p = (p, tt)

all_append : (P : Write → Type 0) (xs ys : List Write) → AllByRecursion P xs → AllByRecursion P ys → AllByRecursion P (xs ++ ys)
all_append P [] ys p q = q
all_append P (x ∷ xs) ys p q = (p.0, all_append P xs ys p.1 q)

-- what holds of the keys of the first slots holds of the keys written
pub all-keys : (value : Key → Image) (page : ℕ) (P : Key → Type 0) (n : ℕ) → ((slot : ℕ) → slot < n → P (key_at page slot)) → AllByRecursion (λ (w : Write). P w.key) (page_writes value page n)
unfolding page_writes
all-keys value page P zero h = tt
all-keys value page P (suc n) h =
    all_append (λ (w : Write). P w.key) (page_writes value page n) (write_at (key_at page n) (value (key_at page n)))
    (all-keys value page P n (λ slot lt. h slot (omega arith)))
    (all_at P (key_at page n) (value (key_at page n)) (h n (omega arith)))

-- what holds of the values holds of what is written
pub all_images-more : (value : Key → Image) (page n : ℕ) (P : Image → Type 0) → AllByRecursion (λ (w : Write). P w.after) (page_writes value page n) → P (value (key_at page n))
    → AllByRecursion (λ (w : Write). P w.after) (page_writes value page (suc n))
unfolding page_writes
all_images-more value page n P before here =
    all_append (λ (w : Write). P w.after) (page_writes value page n) (write_at (key_at page n) (value (key_at page n))) before (at (value (key_at page n)) here)
  where
    at : (i : Image) → P i → AllByRecursion (λ (w : Write). P w.after) (write_at (key_at page n) i)
    at None p = tt
    at (Some bytes) p = (p, tt)
