-- The commit that a record makes, out of what the transaction table has of its transaction.
use Rattle.std.proofs.Common.{◌≡◌, Bool, true, false, cond, List, [], ◌∷◌, ◌++◌, None, refl, sym, ap, ◌∙◌, inl, inr, reverse}
use Rattle.std.specs.Prelude.{is_none}
use Rattle.std.proofs.lemmas.Bool.{false≢true}
use Rattle.als_record.specs.declared.record.Body.{Body}
use Rattle.als_record.specs.declared.record.Body.TheVariants.{Update, Compensation, Commit, Rollback, End, BeginCheckpoint, EndCheckpoint, Prepare}
use Rattle.als_record.specs.declared.record.Record.{Record}
use Rattle.als_record.specs.LogText.{end_of}
use Rattle.als_record.specs.Transactions.{is_transactional, is_commit, is_unended, surviving}
use Rattle.als_record.specs.Validity.{first_bad, is_valid}
use Rattle.als_record.specs.Commits.{writes_of, commits_of}
use Rattle.als_record.proofs.Records.{to_undo-none}
use Rattle.als_record.proofs.Validity.{first_bad-none, is_valid-first_bad}
use Rattle.als_record.proofs.CommitSteps.{commit_by, commits_of-push}
use Rattle.als_commits.specs.Committing.{commit_with}
use Rattle.als_validator.proofs.StateSteps.{known_of}

-- a commit record is one of a transaction
commits-transactional : (b : Body) → is_commit b ≡ true → is_transactional b ≡ true
commits-transactional Commit e = refl
commits-transactional (Update key before after) e = refl
commits-transactional (Compensation undo_next key after) e = refl
commits-transactional Rollback e = refl
commits-transactional End e = refl
commits-transactional BeginCheckpoint e = absurd (false≢true e)
commits-transactional (EndCheckpoint transactions pages) e = absurd (false≢true e)
commits-transactional Prepare e = refl

module _ (log : List Record) (r : Record) (v : is_valid log ≡ true) (at : r.lsn.0 ≡ end_of log) (good : first_bad log r ≡ None) where
  more : is_valid (log ++ r ∷ []) ≡ true
  more = is_valid-first_bad log r v at ∙ ap is_none good

  -- another record adds no commit
  pub commits_of-other : is_commit r.body ≡ false → commits_of (log ++ r ∷ []) ≡ commits_of log ++ []
  commits_of-other e = commits_of-push log r more ∙ ap (λ b. commits_of log ++ cond b (commit_by log r ∷ []) []) e

  -- the table has all that survives of a transaction which commits
  survives : is_commit r.body ≡ true → (us : List Record) → us ≡ cond (is_unended log r.trans.0) (surviving log r.trans.0) [] → us ≡ surviving log r.trans.0
  unfolding surviving
  survives e us q = elim (known_of log r (commits-transactional r.body e) (first_bad-none log r at good).old) [
    | inl u ↦ q ∙ ap (λ b. cond b (surviving log r.trans.0) []) u
    | inr n ↦ q ∙ either (is_unended log r.trans.0) (ap reverse (to_undo-none log r.trans.0 n))
  ]
    where
      either : (b : Bool) → surviving log r.trans.0 ≡ [] → cond b (surviving log r.trans.0) [] ≡ surviving log r.trans.0
      either true z = refl
      either false z = sym z

  -- a commit record adds its own
  pub commits_of-own : is_commit r.body ≡ true → (us : List Record) → us ≡ cond (is_unended log r.trans.0) (surviving log r.trans.0) [] → commits_of (log ++ r ∷ []) ≡ commits_of log ++ commit_with r.trans r.lsn us ∷ []
  unfolding writes_of
  commits_of-own e us q =
      commits_of-push log r more
      ∙ ap (λ b. commits_of log ++ cond b (commit_by log r ∷ []) []) e
      ∙ ap (λ xs. commits_of log ++ commit_with r.trans r.lsn xs ∷ []) (sym (survives e us q))
