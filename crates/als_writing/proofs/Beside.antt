-- What records of one transaction leave to all others as it is.
use Rattle.std.proofs.Common.{◌≡◌, ℕ, ◌==◌, Bool, true, false, not, ◌&&◌, ◌||◌, List, [], ◌∷◌, ◌++◌, refl, ap, ◌∙◌}
use Rattle.als_record.specs.declared.record.Record.{Record}
use Rattle.als_record.specs.Transactions.{is_transactional, is_of, is_some_left, to_undo, has_begun, is_committed, is_unended, is_open, is_in_doubt, is_loser}
use Rattle.als_record.specs.Tail.{is_finished, undo_bytes}
use Rattle.als_record.proofs.Numbers.{eqb-sym}
use Rattle.als_record.proofs.Records.{to_undo-other, is_committed-other, is_unended-other, is_open-other, is_in_doubt-other, is_loser-other, has_begun-grows}
use Rattle.als_record.proofs.TailLength.{undo_bytes-other}
use Rattle.als_writing.specs.Writing.{Move, record_for, moved}
use Rattle.als_writing.proofs.Moved.{moved-next, moved-none}

-- what a record of another transaction does not change stays behind any of them
module _ (A : Type 0) (f : List Record → A) (t x : ℕ) (apart : (x == t) ≡ false) (step : (log : List Record) (r : Record) → is_of x r ≡ false → f (log ++ r ∷ []) ≡ f log) where
  other : (log : List Record) (move : Move) → is_of x (record_for log t move) ≡ false
  other log move = go (is_transactional (record_for log t move).body)
    where
      go : (b : Bool) → (b && (t == x)) ≡ false
      go true = eqb-sym t x ∙ apart
      go false = refl

  pub moved-beside : (moves : List Move) (log : List Record) → f (log ++ moved log t moves) ≡ f log
  moved-beside [] log = ap f (moved-none log t)
  moved-beside (move ∷ rest) log = ap f (moved-next log t move rest) ∙ moved-beside rest (log ++ record_for log t move ∷ []) ∙ step log (record_for log t move) (other log move)

-- what is the same of each other transaction
pub record Beside (t : ℕ) (log more : List Record) : Type 0 where
  pub unended : (x : ℕ) → (x == t) ≡ false → is_unended more x ≡ is_unended log x
  pub in_doubt : (x : ℕ) → (x == t) ≡ false → is_in_doubt more x ≡ is_in_doubt log x
  pub open_one : (x : ℕ) → (x == t) ≡ false → is_open more x ≡ is_open log x
  pub loser : (x : ℕ) → (x == t) ≡ false → is_loser more x ≡ is_loser log x
  pub finished : (x : ℕ) → (x == t) ≡ false → is_finished more x ≡ is_finished log x
  pub bytes : (x : ℕ) → (x == t) ≡ false → undo_bytes more x ≡ undo_bytes log x

pub Beside-moved : (t : ℕ) (moves : List Move) (log : List Record) → Beside t log (log ++ moved log t moves)
unfolding is_finished
Beside-moved t moves log = record {
  unended = λ x e. moved-beside Bool (λ l. is_unended l x) t x e (λ l r n. is_unended-other l r x n) moves log;
  in_doubt = λ x e. moved-beside Bool (λ l. is_in_doubt l x) t x e (λ l r n. is_in_doubt-other l r x n) moves log;
  open_one = λ x e. moved-beside Bool (λ l. is_open l x) t x e (λ l r n. is_open-other l r x n) moves log;
  loser = λ x e. moved-beside Bool (λ l. is_loser l x) t x e (λ l r n. is_loser-other l r x n) moves log;
  finished = λ x e. moved-beside Bool (λ l. is_committed l x || (not (is_in_doubt l x) && not (is_some_left (to_undo l x)))) t x e (λ l r n. cc (is_committed-other l r x n, is_in_doubt-other l r x n, to_undo-other l r x n)) moves log;
  bytes = λ x e. moved-beside ℕ (λ l. undo_bytes l x) t x e (λ l r n. undo_bytes-other l r x n) moves log;
}

-- a transaction that has begun stays so
pub has_begun-moved : (t x : ℕ) (moves : List Move) (log : List Record) → has_begun log x ≡ true → has_begun (log ++ moved log t moves) x ≡ true
has_begun-moved t x [] log b = ap (λ l. has_begun l x) (moved-none log t) ∙ b
has_begun-moved t x (move ∷ rest) log b =
    ap (λ l. has_begun l x) (moved-next log t move rest)
    ∙ has_begun-moved t x rest (log ++ record_for log t move ∷ []) (has_begun-grows log (record_for log t move) x b)
