-- The transaction that keeps a number, and the greatest TransID of a log that is written page by page.
use Rattle.std.proofs.Common.{◌≡◌, ℕ, ◌==◌, ◌<◌, ◌≤◌, max, false, cond, List, [], ◌∷◌, ◌++◌, map, sym, ap, ◌∙◌, arith, append-nil}
use Rattle.std.proofs.lemmas.Bool.{eq-eqb, ne_eqb, lt-ltb, le-ltb}
use Rattle.als_record.specs.declared.record.Record.{Record}
use Rattle.als_record.specs.LogText.{end_of}
use Rattle.als_record.specs.Transactions.{greatest_trans}
use Rattle.als_record.specs.Commits.{Write}
use Rattle.als_record.proofs.LogLaws.{end_of_push}
use Rattle.als_record.proofs.PageLaws.{record_len-least}
use Rattle.als_record.proofs.Unended.{greatest_trans-push}
use Rattle.als_writing.specs.Writing.{Move, Writes, Commits, Ends, record_for, moved, transaction}
use Rattle.als_writing.proofs.Moved.{moved-next, moved-none, end_of-front}
use Rattle.als_renew.specs.Pages.{written_by}
use Rattle.als_renew.specs.Closing.{closing}
use Rattle.als_renew.proofs.Generations.{greatest-moved}

-- ---- the greatest number does not fall

pub greatest-stays : (t : ℕ) (moves : List Move) (log : List Record) → greatest_trans log ≤ greatest_trans (log ++ moved log t moves)
greatest-stays t [] log = omega (arith, ap greatest_trans (moved-none log t))
greatest-stays t (move ∷ rest) log =
    let r : Record = record_for log t move in
    let one : greatest_trans (log ++ r ∷ []) ≡ max (greatest_trans log) t = greatest_trans-push log r in
    omega (arith, one, ap greatest_trans (moved-next log t move rest), greatest-stays t rest (log ++ r ∷ []))

-- some moves of a transaction, with a number that is not below
module _ (t : ℕ) (move : Move) (rest : List Move) (log : List Record) where
  pub greatest-reaches : t ≤ greatest_trans (log ++ moved log t (move ∷ rest))
  greatest-reaches =
      let r : Record = record_for log t move in
      let one : greatest_trans (log ++ r ∷ []) ≡ max (greatest_trans log) t = greatest_trans-push log r in
      omega (arith, one, ap greatest_trans (moved-next log t move rest), greatest-stays t rest (log ++ r ∷ []))

  pub end-rises : end_of log < end_of (log ++ moved log t (move ∷ rest))
  end-rises =
      let r : Record = record_for log t move in
      omega (arith, end_of_push log r, record_len-least r, ap end_of (moved-next log t move rest), end_of-front (log ++ r ∷ []) (moved (log ++ r ∷ []) t rest))

-- ---- behind a page

-- what is known of the greatest number by where the page's records end
pub greatest-written : (log : List Record) (t : ℕ) (ws : List Write) → greatest_trans log ≤ t → greatest_trans (log ++ written_by log t ws) ≡ cond (end_of (log ++ written_by log t ws) == end_of log) (greatest_trans log) t
unfolding transaction
greatest-written log t [] le =
    let same : log ++ [] ≡ log = append-nil log in
    ap greatest_trans same ∙ sym (ap (λ b. cond b (greatest_trans log) t) (eq-eqb (end_of (log ++ [])) (end_of log) (ap end_of same)))
greatest-written log t (w ∷ ws) le =
    let rest : List Move = map Writes ws ++ Commits ∷ Ends ∷ [] in
    let above : end_of log < end_of (log ++ moved log t (Writes w ∷ rest)) = end-rises t (Writes w) rest log in
    let other : (end_of (log ++ moved log t (Writes w ∷ rest)) == end_of log) ≡ false = ne_eqb (end_of (log ++ moved log t (Writes w ∷ rest))) (end_of log) (λ e. absurd (omega (arith, e, above))) in
    let is : greatest_trans (log ++ moved log t (Writes w ∷ rest)) ≡ t = omega (arith, greatest-reaches t (Writes w) rest log, greatest-moved t (Writes w ∷ rest) log le) in
    is ∙ sym (ap (λ b. cond b (greatest_trans log) t) other)

-- what is behind the log: the transaction, or nothing where the log's own numbers reach it
module _ (t : ℕ) (log : List Record) where
  pub closing-above : greatest_trans log < t → closing t log ≡ transaction log t []
  closing-above lt = ap (λ b. cond b (transaction log t []) []) (lt-ltb (greatest_trans log) t lt)

  pub closing-reached : t ≤ greatest_trans log → closing t log ≡ []
  closing-reached le = ap (λ b. cond b (transaction log t []) []) (le-ltb (greatest_trans log) t le)
