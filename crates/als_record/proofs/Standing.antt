-- What a key has is what the last surviving update there wrote: undo gives back what stood before.
use Rattle.std.proofs.Common.{◌≡◌, ℕ, ◌==◌, Bool, true, false, List, [], ◌∷◌, filter, find, Some, None, refl, sym, ap, ◌∙◌, inl, inr, subst}
use Rattle.std.specs.List.{AllByRecursion}
use Rattle.std.proofs.lemmas.Bool.{cases_Bool, eqb-true, false≢true, and_parts}
use Rattle.std.proofs.lemmas.Slice.Eq.{bytes_eq-Decides}
use Rattle.als_record.specs.declared.key.Key.{Key}
use Rattle.als_record.specs.declared.record.Body.{Body}
use Rattle.als_record.specs.declared.record.Body.TheVariants.{Update, Compensation, Commit, Rollback, End, BeginCheckpoint, EndCheckpoint, Prepare}
use Rattle.als_record.specs.declared.record.Record.{Record}
use Rattle.als_record.specs.Spelling.{Image}
use Rattle.als_record.specs.Transactions.{without_newest}
use Rattle.als_record.specs.Images.{same_key, same_image, is_update_at, image_before, image_of_found}
use Rattle.als_record.proofs.Numbers.{eqb-refl, eqb-sym}
use Rattle.als_record.proofs.Survivors.{is_by, All-without_newest, All-weaken}

-- ---- keys and images

pub same_key-true : (a b : Key) → same_key a b ≡ true → a ≡ b
same_key-true a b e =
    let parts : ((a.page == b.page) ≡ true) × ((a.slot == b.slot) ≡ true) = and_parts (a.page == b.page) (a.slot == b.slot) e in
    let p : a.page ≡ b.page = eqb-true a.page b.page parts.0 in
    let q : a.slot ≡ b.slot = eqb-true a.slot b.slot parts.1 in
    λ i. record { page = p i; slot = q i }

pub same_key-refl : (a : Key) → same_key a a ≡ true
same_key-refl a = rw (eqb-refl a.page, eqb-refl a.slot) refl

pub same_image-true : (a b : Image) → same_image a b ≡ true → a ≡ b
same_image-true None None e = refl
same_image-true None (Some b) e = absurd (false≢true e)
same_image-true (Some a) None e = absurd (false≢true e)
same_image-true (Some a) (Some b) e = let p : a.items ≡ b.items = (bytes_eq-Decides a.items b.items).0 e in ap (λ (xs : List ℕ). let i : Image = Some (record { items = xs }) in i) p

pub same_image-refl : (a : Image) → same_image a a ≡ true
same_image-refl None = refl
same_image-refl (Some a) = (bytes_eq-Decides a.items a.items).1 refl

-- an update's key is one
pub is_update_at-same : (k l : Key) (b : Body) → is_update_at k b ≡ true → is_update_at l b ≡ same_key k l
is_update_at-same k l (Update key before after) e = ap (λ k. same_key k l) (same_key-true key k e)
is_update_at-same k l (Compensation undo_next key after) e = absurd (false≢true e)
is_update_at-same k l Commit e = absurd (false≢true e)
is_update_at-same k l Rollback e = absurd (false≢true e)
is_update_at-same k l End e = absurd (false≢true e)
is_update_at-same k l BeginCheckpoint e = absurd (false≢true e)
is_update_at-same k l (EndCheckpoint transactions pages) e = absurd (false≢true e)
is_update_at-same k l Prepare e = absurd (false≢true e)

-- ---- the image that stands at a key: what the newest of these updates wrote there

abbrev pub standing : List Record → Key → Image
standing us k = image_of_found (find (λ u. is_update_at k u.body) us)

-- each update saw what stands below it
abbrev pub Chained : List Record → Type 0
Chained [] = Unit {0}
Chained (u ∷ rest) = ((k : Key) → is_update_at k u.body ≡ true → image_before u.body ≡ standing rest k) × Chained rest

-- an update covers another transaction's only where that one is closed
abbrev pub Covers : (ℕ → Bool) → List Record → Type 0
Covers closed [] = Unit {0}
Covers closed (v ∷ rest) = ((k : Key) → is_update_at k v.body ≡ true → AllByRecursion (λ u. is_update_at k u.body ≡ true → (u.trans.0 == v.trans.0) ≡ false → closed u.trans.0 ≡ true) rest) × Covers closed rest

-- the first update of a transaction has what each has
pub All-first : (P : Record → Type 0) (t : ℕ) (us : List Record) (u : Record) (rest : List Record) → AllByRecursion P us → filter (is_by t) us ≡ u ∷ rest → P u
All-first P t [] u rest a e = absurd (cc e)
All-first P t (v ∷ us) u rest a e = elim (cases_Bool (v.trans.0 == t)) [
  | inl y ↦ let f : v ∷ filter (is_by t) us ≡ u ∷ rest = (rw y at e) in let g : v ≡ u = cc f in subst P g a.0
  | inr y ↦ let f : filter (is_by t) us ≡ u ∷ rest = (rw y at e) in All-first P t us u rest a.1 f
]

All-by : (t : ℕ) (us : List Record) → AllByRecursion (λ u. (u.trans.0 == t) ≡ true) (filter (is_by t) us)
All-by t [] = tt
All-by t (u ∷ rest) = elim (cases_Bool (u.trans.0 == t)) [
  | inl y ↦ rw y (y, All-by t rest)
  | inr y ↦ rw y (All-by t rest)
]

module _ (closed : ℕ → Bool) (t : ℕ) (open_ : closed t ≡ false) where
  -- another transaction's update does not cover the first one of this transaction
  uncovered : (v : Record) (us : List Record) (u : Record) (rest : List Record) → Covers closed (v ∷ us) → filter (is_by t) us ≡ u ∷ rest → (v.trans.0 == t) ≡ false → (k : Key) → is_update_at k u.body ≡ true → is_update_at k v.body ≡ false
  uncovered v us u rest c e y k w = elim (cases_Bool (is_update_at k v.body)) [
    | inr z ↦ z
    | inl z ↦
        let by : (u.trans.0 == t) ≡ true = (subst (AllByRecursion (λ u. (u.trans.0 == t) ≡ true)) e (All-by t us)).0 in
        let q : u.trans.0 ≡ t = eqb-true u.trans.0 t by in
        let d : (u.trans.0 == v.trans.0) ≡ false = ap (λ n. n == v.trans.0) q ∙ eqb-sym t v.trans.0 ∙ y in
        let f : closed u.trans.0 ≡ true = All-first (λ u. is_update_at k u.body ≡ true → (u.trans.0 == v.trans.0) ≡ false → closed u.trans.0 ≡ true) t us u rest (c.0 k z) e w d in
        absurd (false≢true (sym open_ ∙ ap closed (sym q) ∙ f))
  ]

  -- at the key of the first update of a transaction stands, without it, what it saw
  pub standing-undone : (us : List Record) (u : Record) (rest : List Record) → Chained us → Covers closed us → filter (is_by t) us ≡ u ∷ rest → (k : Key) → is_update_at k u.body ≡ true → standing (without_newest t us) k ≡ image_before u.body
  standing-undone [] u rest h c e k w = absurd (cc e)
  standing-undone (v ∷ us) u rest h c e k w = elim (cases_Bool (v.trans.0 == t)) [
    | inl y ↦ let f : v ∷ filter (is_by t) us ≡ u ∷ rest = (rw y at e) in let g : v ≡ u = cc f in
        rw y (sym (h.0 k (ap (λ x. is_update_at k x.body) g ∙ w)) ∙ ap (λ x. image_before x.body) g)
    | inr y ↦ let f : filter (is_by t) us ≡ u ∷ rest = (rw y at e) in
        let z : is_update_at k v.body ≡ false = uncovered v us u rest c f y k w in
        simp (y, z) (standing-undone us u rest h.1 c.1 f k w)
  ]

  -- at other keys stands what stood
  pub standing-kept : (us : List Record) (u : Record) (rest : List Record) → filter (is_by t) us ≡ u ∷ rest → (k : Key) → is_update_at k u.body ≡ false → standing (without_newest t us) k ≡ standing us k
  standing-kept [] u rest e k w = absurd (cc e)
  standing-kept (v ∷ us) u rest e k w = elim (cases_Bool (v.trans.0 == t)) [
    | inl y ↦ let f : v ∷ filter (is_by t) us ≡ u ∷ rest = (rw y at e) in let g : v ≡ u = cc f in
        let z : is_update_at k v.body ≡ false = ap (λ x. is_update_at k x.body) g ∙ w in simp (y, z)
    | inr y ↦ let f : filter (is_by t) us ≡ u ∷ rest = (rw y at e) in elim (cases_Bool (is_update_at k v.body)) [
      | inl z ↦ simp (y, z)
      | inr z ↦ simp (y, z) (standing-kept us u rest f k w)
    ]
  ]

  pub Chained-undone : (us : List Record) (u : Record) (rest : List Record) → Chained us → Covers closed us → filter (is_by t) us ≡ u ∷ rest → Chained (without_newest t us)
  Chained-undone [] u rest h c e = tt
  Chained-undone (v ∷ us) u rest h c e = elim (cases_Bool (v.trans.0 == t)) [
    | inl y ↦ rw y h.1
    | inr y ↦ let f : filter (is_by t) us ≡ u ∷ rest = (rw y at e) in rw y (λ k z. h.0 k z ∙ sym (standing-kept us u rest f k (apart v us u rest c f y k z)), Chained-undone us u rest h.1 c.1 f)
  ]
    where
      apart : (v : Record) (us : List Record) (u : Record) (rest : List Record) → Covers closed (v ∷ us) → filter (is_by t) us ≡ u ∷ rest → (v.trans.0 == t) ≡ false → (k : Key) → is_update_at k v.body ≡ true → is_update_at k u.body ≡ false
      apart v us u rest c f y k z = elim (cases_Bool (is_update_at k u.body)) [
        | inr w ↦ w
        | inl w ↦ absurd (false≢true (sym (uncovered v us u rest c f y k w) ∙ z))
      ]

pub Covers-without_newest : (closed : ℕ → Bool) (t : ℕ) (us : List Record) → Covers closed us → Covers closed (without_newest t us)
Covers-without_newest closed t [] c = tt
Covers-without_newest closed t (v ∷ us) c = elim (cases_Bool (v.trans.0 == t)) [
  | inl y ↦ rw y c.1
  | inr y ↦ rw y (λ k z. All-without_newest (λ u. is_update_at k u.body ≡ true → (u.trans.0 == v.trans.0) ≡ false → closed u.trans.0 ≡ true) t us (c.0 k z), Covers-without_newest closed t us c.1)
]

-- more transactions are closed
pub Covers-grows : (p q : ℕ → Bool) → ((x : ℕ) → p x ≡ true → q x ≡ true) → (us : List Record) → Covers p us → Covers q us
Covers-grows p q f [] c = tt
Covers-grows p q f (v ∷ us) c =
    (λ k z. All-weaken (λ u. is_update_at k u.body ≡ true → (u.trans.0 == v.trans.0) ≡ false → p u.trans.0 ≡ true) (λ u. is_update_at k u.body ≡ true → (u.trans.0 == v.trans.0) ≡ false → q u.trans.0 ≡ true) (λ u g a b. f u.trans.0 (g a b)) us (c.0 k z), Covers-grows p q f us c.1)
