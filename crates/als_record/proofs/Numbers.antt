-- Lists of numbers: which are among them, that they are apart, that they rise; and what a filter does to them.
use Rattle.std.proofs.Common.{◌≡◌, ℕ, ◌==◌, ◌+◌, Bool, true, false, cond, not, ◌&&◌, ◌||◌, List, [], ◌∷◌, ◌++◌, length, filter, refl, sym, ap, ◌∙◌, inl, inr, arith}
use Rattle.std.proofs.lemmas.Bool.{cases_Bool, eqb-true, eq-eqb, ne_eqb, or_parts, false≢true}
use Rattle.als_record.specs.Transactions.{is_among}
pub use Rattle.als_record.specs.Orders.{Apart, Rising}

-- the list without a number
abbrev pub without : ℕ → List ℕ → List ℕ
without t xs = filter (λ x. not (x == t)) xs

pub eqb-refl : (n : ℕ) → (n == n) ≡ true
eqb-refl n = eq-eqb n n refl

pub eqb-sym : (m n : ℕ) → (m == n) ≡ (n == m)
eqb-sym m n = elim (cases_Bool (m == n)) [
  | inl e ↦ e ∙ sym (eq-eqb n m (sym (eqb-true m n e)))
  | inr e ↦ e ∙ sym (ne_eqb n m (λ q. false≢true (sym e ∙ eq-eqb m n (sym q))))
]

pub is_among-append : (xs ys : List ℕ) (t : ℕ) → is_among (xs ++ ys) t ≡ (is_among xs t || is_among ys t)
is_among-append [] ys t = refl
is_among-append (x ∷ rest) ys t = elim (cases_Bool (x == t)) [
  | inl e ↦ simp e
  | inr e ↦ simp e (is_among-append rest ys t)
]

pub is_among-filter : (p : ℕ → Bool) (t : ℕ) → (xs : List ℕ) → is_among (filter p xs) t ≡ (p t && is_among xs t)
is_among-filter p t [] = elim (cases_Bool (p t)) [ inl e ↦ simp e | inr e ↦ simp e ]
is_among-filter p t (x ∷ rest) = elim (cases_Bool (x == t)) [
  | inl e ↦ let q : p x ≡ p t = ap p (eqb-true x t e) in elim (cases_Bool (p t)) [
    | inl y ↦ let z : p x ≡ true = q ∙ y in simp (z, e, y)
    | inr y ↦ let z : p x ≡ false = q ∙ y in simp (z, e, y) (is_among-filter p t rest ∙ ap (λ b. b && is_among rest t) y)
  ]
  | inr e ↦ elim (cases_Bool (p x)) [
    | inl y ↦ simp (y, e) (is_among-filter p t rest)
    | inr y ↦ simp (y, e) (is_among-filter p t rest)
  ]
]

pub Apart-push : (xs : List ℕ) (t : ℕ) → Apart xs → is_among xs t ≡ false → Apart (xs ++ t ∷ [])
Apart-push [] t a n = (refl, tt)
Apart-push (x ∷ rest) t a n =
    let parts : ((x == t) ≡ false) × (is_among rest t ≡ false) = or_parts (x == t) (is_among rest t) n in
    (is_among-append rest (t ∷ []) x ∙ or_false _ _ a.0 (or_false _ _ (eqb-sym t x ∙ parts.0) refl), Apart-push rest t a.1 parts.1)
  where
    or_false : (a b : Bool) → a ≡ false → b ≡ false → (a || b) ≡ false
    or_false a b p q = simp (p, q)

pub Apart-filter : (p : ℕ → Bool) (xs : List ℕ) → Apart xs → Apart (filter p xs)
Apart-filter p [] a = tt
Apart-filter p (x ∷ rest) a = elim (cases_Bool (p x)) [
  | inl e ↦ rw e (is_among-filter p x rest ∙ (rw (e, a.0)), Apart-filter p rest a.1)
  | inr e ↦ rw e (Apart-filter p rest a.1)
]

-- tests that agree but at one number keep the same of a list without it
pub filter-except : (p q : ℕ → Bool) (t : ℕ) → ((x : ℕ) → (x == t) ≡ false → p x ≡ q x) → (xs : List ℕ) → is_among xs t ≡ false → filter p xs ≡ filter q xs
filter-except p q t agree [] n = refl
filter-except p q t agree (x ∷ rest) n =
    let parts : ((x == t) ≡ false) × (is_among rest t ≡ false) = or_parts (x == t) (is_among rest t) n in
    rw (agree x parts.0) (ap (λ ys. cond (q x) (x ∷ ys) ys) (filter-except p q t agree rest parts.1))

-- a test that fails at one number and agrees elsewhere
pub filter-without : (p q : ℕ → Bool) (t : ℕ) → ((x : ℕ) → (x == t) ≡ false → p x ≡ q x) → p t ≡ false → (xs : List ℕ) → filter p xs ≡ without t (filter q xs)
filter-without p q t agree fails [] = refl
filter-without p q t agree fails (x ∷ rest) = elim (cases_Bool (x == t)) [
  | inl e ↦ let f : p x ≡ false = ap p (eqb-true x t e) ∙ fails in elim (cases_Bool (q x)) [
    | inl y ↦ simp (f, y, e) (filter-without p q t agree fails rest)
    | inr y ↦ simp (f, y) (filter-without p q t agree fails rest)
  ]
  | inr e ↦ let f : p x ≡ q x = agree x e in elim (cases_Bool (q x)) [
    | inl y ↦ let g : p x ≡ true = f ∙ y in simp (g, y, e) (ap (λ ys. x ∷ ys) (filter-without p q t agree fails rest))
    | inr y ↦ let g : p x ≡ false = f ∙ y in simp (g, y) (filter-without p q t agree fails rest)
  ]
]

pub without-absent : (t : ℕ) (xs : List ℕ) → is_among xs t ≡ false → without t xs ≡ xs
without-absent t [] n = refl
without-absent t (x ∷ rest) n =
    let parts : ((x == t) ≡ false) × (is_among rest t ≡ false) = or_parts (x == t) (is_among rest t) n in
    rw parts.0 (ap (λ ys. x ∷ ys) (without-absent t rest parts.1))

pub length-without : (t : ℕ) (xs : List ℕ) → Apart xs → is_among xs t ≡ true → length (without t xs) + 1 ≡ length xs
length-without t [] a n = absurd (false≢true n)
length-without t (x ∷ rest) a n = elim (cases_Bool (x == t)) [
  | inl e ↦ let m : is_among rest t ≡ false = ap (is_among rest) (sym (eqb-true x t e)) ∙ a.0 in simp e (ap (λ ys. length ys + 1) (without-absent t rest m) ∙ omega arith)
  | inr e ↦ let m : is_among rest t ≡ true = (simp e at n) in simp e (let h : length (without t rest) + 1 ≡ length rest = length-without t rest a.1 m in omega arith)
]
