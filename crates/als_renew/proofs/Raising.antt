-- A log that goes on from another one, with the number that is kept.
use Rattle.std.proofs.Common.{◌≡◌, ℕ, ◌==◌, ◌+◌, ◌^◌, ◌<◌, ◌≤◌, Bool, true, false, List, [], ◌∷◌, ◌++◌, filter, filter_map, length, reverse, refl, sym, ap, ◌∙◌, inl, inr, subst, arith, append-nil}
use Rattle.std.proofs.lemmas.Bool.{cases_lt, ne_eqb}
use Rattle.als_record.specs.declared.key.Key.{Key}
use Rattle.als_record.specs.declared.record.Record.{Record}
use Rattle.als_record.specs.LogText.{end_of}
use Rattle.als_record.specs.Transactions.{is_among, is_in_doubt, unended, in_doubt, greatest_trans, surviving}
use Rattle.als_record.specs.Validity.{is_valid, IsValidLog}
use Rattle.als_record.specs.Commits.{Write, write_of, commits_of, seen_after, writes_of}
use Rattle.als_record.proofs.Numbers.{filter-except}
use Rattle.als_record.proofs.Records.{in_doubt_parts, has_begun-unended, is_unended-none, to_undo-other}
use Rattle.als_record.proofs.SeenCommits.{seen_after-commits_of}
use Rattle.als_record.proofs.Sound.{Sound-valid}
use Rattle.als_record.proofs.Unended.{is_among-unended, is_among-in_doubt}
use Rattle.als_writing.specs.Writing.{Commits, Ends, updates, transaction, MayWrite}
use Rattle.als_writing.proofs.Beside.{Beside, Beside-moved, moved-beside}
use Rattle.als_writing.proofs.Committing.{Committed, Committed-transaction}
use Rattle.als_writing.proofs.Fitting.{IsValidLog-transaction}
use Rattle.als_writing.proofs.Updates.{IsNew-number}
use Rattle.als_lookback.proofs.DoubtLaws.{in_doubt-is}
use Rattle.als_renew.specs.Beginning.{raised}
use Rattle.als_renew.specs.Closing.{kept_number, closing}
use Rattle.als_renew.specs.Renewed.{Begins}
use Rattle.als_renew.proofs.Begun.{GoesOn}
use Rattle.als_renew.proofs.Closing.{greatest-reaches, closing-above, closing-reached}
use Rattle.als_renew.proofs.Generations.{new-behind}

-- what another transaction wrote
writes-beside : (t x : ℕ) (log : List Record) → (x == t) ≡ false → writes_of (log ++ transaction log t []) x ≡ writes_of log x
unfolding transaction writes_of surviving
writes-beside t x log apart = moved-beside (List Write) (λ l. writes_of l x) t x apart (λ l r n. ap (λ us. filter_map (λ (u : Record). write_of u.body) (reverse us)) (to_undo-other l r x n)) (Commits ∷ Ends ∷ []) log

module _ (pages : ℕ) (old log : List Record) (g : GoesOn pages old log) (t : ℕ) (above : greatest_trans log < t) (width : t < 2 ^ 32) (few : length (unended log) < 256) where
  may : MayWrite pages log t []
  may = record { new = new-behind log few t above; width = width; free = tt; keys = tt; images = tt }

  abbrev after : List Record
  after = log ++ transaction log t []

  committed : Committed log (transaction log t []) t [] (end_of (log ++ updates log t []))
  committed = Committed-transaction pages log t [] g.valid.valid may

  beside : Beside t log after
  unfolding transaction
  beside = Beside-moved t (Commits ∷ Ends ∷ []) log

  same_doubts : in_doubt after ≡ in_doubt log
  same_doubts =
      in_doubt-is after
      ∙ ap (filter (is_in_doubt after)) committed.unended
      ∙ filter-except (is_in_doubt after) (is_in_doubt log) t beside.in_doubt (unended log) outside
      ∙ sym (in_doubt-is log)
    where
      outside : is_among (unended log) t ≡ false
      outside = is_among-unended log t ∙ is_unended-none log t (IsNew-number pages log t [] g.valid.valid may).begun

  -- one that is in doubt has another number
  other : (x : ℕ) → is_in_doubt old x ≡ true → (x == t) ≡ false
  other x d =
      let here : is_in_doubt log x ≡ true = sym (is_among-in_doubt log x) ∙ ap (λ ts. is_among ts x) g.doubted ∙ is_among-in_doubt old x ∙ d in
      let low : x ≤ greatest_trans log = (Sound-valid log g.valid.valid).below x (has_begun-unended log x (in_doubt_parts log x here).0) in
      ne_eqb x t (λ e. absurd (omega (arith, e)))

  reaches : t ≤ greatest_trans after
  unfolding transaction
  reaches = greatest-reaches t Commits (Ends ∷ []) log

  pub begins-raised : kept_number (greatest_trans old) ≡ t → end_of after ≤ 2 ^ 64 → Begins pages old after
  begins-raised kept room = record {
    valid = IsValidLog-transaction pages log t [] g.valid may room;
    seen = λ k is.
        seen_after-commits_of after committed.valid k
        ∙ committed.won k
        ∙ sym (seen_after-commits_of log g.valid.valid k)
        ∙ g.seen k is;
    kept_are = λ k is. committed.kept k ∙ g.kept_are k is;
    doubts = same_doubts ∙ g.doubted;
    open_are = committed.unended ∙ g.open_are;
    written = λ x d. writes-beside t x log (other x d) ∙ g.written x d;
    numbers = omega (arith, kept, reaches);
  }

-- whether the number is above the log's own or not
pub begins-all : (pages t : ℕ) (old log : List Record) → GoesOn pages old log → t < 2 ^ 32 → length (unended log) < 256 → kept_number (greatest_trans old) ≡ t → end_of (raised t log) ≤ 2 ^ 64 → Begins pages old (raised t log)
begins-all pages t old log g width few kept room = elim (cases_lt (greatest_trans log) t) [
  | inl lt ↦
      let is : raised t log ≡ log ++ transaction log t [] = ap (λ (more : List Record). log ++ more) (closing-above t log lt) in
      subst (Begins pages old) (sym is) (begins-raised pages old log g t lt width few kept (subst (λ (l : List Record). end_of l ≤ 2 ^ 64) is room))
  | inr le ↦
      let is : raised t log ≡ log = ap (λ (more : List Record). log ++ more) (closing-reached t log le) ∙ append-nil log in
      subst (Begins pages old) (sym is) (record {
        valid = g.valid;
        seen = g.seen;
        kept_are = g.kept_are;
        doubts = g.doubted;
        open_are = g.open_are;
        written = g.written;
        numbers = omega (arith, kept, le);
      })
]
