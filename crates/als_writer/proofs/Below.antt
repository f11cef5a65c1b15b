-- What is known of the keys of the first writes.
use Rattle.std.proofs.Common.{◌≡◌, ◌⊎◌, ℕ, ◌+◌, ◌<◌, ◌≤◌, true, false, List, [], ◌∷◌, ◌++◌, length, get_or, None, sym, ap, subst, ◌∙◌, inl, inr, arith}
use Rattle.std.proofs.lemmas.Bool.{cases_lt}
use Rattle.std.proofs.lemmas.List.{get_or_append_left, get_or_push, get_or_default}
use Rattle.als_record.specs.Spelling.{Image}
use Rattle.als_record.specs.Transactions.{has_begun}
use Rattle.als_record.specs.Images.{image_now}
use Rattle.als_record.specs.Commits.{Write}
use Rattle.als_writing.specs.Writing.{is_free}
use Rattle.als_engine.specs.Machine.{Machine}
use Rattle.als_engine.specs.Refusals.{feed_refusal}
use Rattle.als_writer.specs.Asking.{IsFreeNow, AreFreeNow}

pub record FreeBelow (m : Machine) (ws : List Write) (befores : List Image) (n : ℕ) : Type 0 where
  pub takes : 0 < n → feed_refusal m ≡ None
  pub now : (i : ℕ) (w : Write) (b : Image) → i < n → w ≡ get_or ws i w → b ≡ get_or befores i b → b ≡ image_now m.held.log w.key
  pub free : (t : ℕ) → has_begun m.held.log t ≡ false → (i : ℕ) (w : Write) → i < n → w ≡ get_or ws i w → is_free m.held.log t w.key ≡ true

pub FreeBelow-none : (m : Machine) (ws : List Write) (befores : List Image) → FreeBelow m ws befores 0
FreeBelow-none m ws befores = record {
  takes = λ lt. absurd (omega arith);
  now = λ i w b lt e f. absurd (omega arith);
  free = λ t n i w lt e. absurd (omega arith);
}

pub FreeBelow-more : (m : Machine) (ws : List Write) (befores : List Image) (n : ℕ) (w : Write) (b : Image) → n < length ws → length befores ≡ n → w ≡ get_or ws n w → FreeBelow m ws befores n → IsFreeNow m w.key b → FreeBelow m ws (befores ++ b ∷ []) (n + 1)
FreeBelow-more m ws befores n w b within len at f here = record {
  takes = λ lt. here.takes;
  now = λ i v x lt e q. now i v x lt e q (cases_lt i n);
  free = λ t new i v lt e. free t new i v lt e (cases_lt i n);
}
  where
    one : (i : ℕ) (v : Write) → i ≡ n → v ≡ get_or ws i v → v ≡ w
    one i v same e = e ∙ ap (λ (j : ℕ). get_or ws j v) same ∙ get_or_default ws n v w within ∙ sym at

    now : (i : ℕ) (v : Write) (x : Image) → i < n + 1 → v ≡ get_or ws i v → x ≡ get_or (befores ++ b ∷ []) i x → (i < n) ⊎ (n ≤ i) → x ≡ image_now m.held.log v.key
    now i v x lt e q (inl before) = let short : i < length befores = omega (arith, before, len) in f.now i v x before e (q ∙ get_or_append_left befores (b ∷ []) x i short)
    now i v x lt e q (inr over) =
        let same : i ≡ n = omega (arith, lt, over) in
        let last : x ≡ b = q ∙ get_or_push befores b x i (len ∙ sym same) in
        let is : v ≡ w = one i v same e in
        last ∙ here.now ∙ ap (λ (y : Write). image_now m.held.log y.key) (sym is)

    free : (t : ℕ) → has_begun m.held.log t ≡ false → (i : ℕ) (v : Write) → i < n + 1 → v ≡ get_or ws i v → (i < n) ⊎ (n ≤ i) → is_free m.held.log t v.key ≡ true
    free t new i v lt e (inl before) = f.free t new i v before e
    free t new i v lt e (inr over) =
        let same : i ≡ n = omega (arith, lt, over) in
        subst (λ (y : Write). is_free m.held.log t y.key ≡ true) (sym (one i v same e)) (here.free t new)

pub FreeBelow-all : (m : Machine) (ws : List Write) (befores : List Image) (n : ℕ) → length ws ≤ n → FreeBelow m ws befores n → AreFreeNow m ws befores
FreeBelow-all m ws befores n over f = record {
  takes = λ lt. f.takes (omega (arith, lt, over));
  now = λ i w b lt e q. f.now i w b (omega (arith, lt, over)) e q;
  free = λ t new k d lt. f.free t new k (get_or ws k d) (omega (arith, lt, over)) (get_or_default ws k d (get_or ws k d) lt);
}
