-- The counts of a log with one more record.
use Rattle.std.proofs.Common.{◌≡◌, ℕ, ◌+◌, ◌≤◌, Bool, true, false, List, [], ◌∷◌, ◌++◌, length, filter, refl, sym, ap, ◌∙◌, arith, length-append}
use Rattle.std.specs.Prelude.{if◌then◌else◌}
use Rattle.std.specs.List.{fold}
use Rattle.std.proofs.lemmas.List.Elements.{filter-append}
use Rattle.als_record.specs.declared.record.Record.{Record}
use Rattle.als_record.specs.declared.rows_view.RowsView.TheVariants.{Spelled, Kept}
use Rattle.als_record.specs.declared.record_view.BodyView.{BodyView}
use Rattle.als_record.specs.declared.record_view.BodyView.TheVariants as view
use Rattle.als_record.specs.Shown.{shown_body}
use Rattle.als_record.specs.Transactions.{is_commit}
use Rattle.als_tables.specs.declared.commit_count.CommitCount.{CommitCount}
use Rattle.als_tables.specs.Counting.{commit_count, last_commit, IsCountOf}

abbrev count_of : Bool → ℕ
count_of b = if b then 1 else 0

count_one : (r : Record) (b : Bool) → is_commit r.body ≡ b → length (filter (λ r. is_commit r.body) (r ∷ [])) ≡ count_of b
count_one r true is = rw is refl
count_one r false is = rw is refl

pub commit_count-push : (log : List Record) (r : Record) → commit_count (log ++ r ∷ []) ≡ commit_count log + count_of (is_commit r.body)
unfolding commit_count
commit_count-push log r =
    ap (λ (rs : List Record). length rs) (filter-append (λ r. is_commit r.body) log (r ∷ []))
    ∙ length-append (filter (λ r. is_commit r.body) log) (filter (λ r. is_commit r.body) (r ∷ []))
    ∙ ap (λ (n : ℕ). length (filter (λ r. is_commit r.body) log) + n) (count_one r (is_commit r.body) refl)

later : ℕ → Record → ℕ
later last r = if is_commit r.body then r.lsn.0 else last

pub last_commit-push : (log : List Record) (r : Record) → last_commit (log ++ r ∷ []) ≡ (if is_commit r.body then r.lsn.0 else last_commit log)
unfolding last_commit
last_commit-push log r = go 0 log
  where
    go : (last : ℕ) (rs : List Record) → fold (λ last r. if is_commit r.body then r.lsn.0 else last) last (rs ++ r ∷ []) ≡ (if is_commit r.body then r.lsn.0 else fold (λ last r. if is_commit r.body then r.lsn.0 else last) last rs)
    go last [] = refl
    go last (x ∷ rs) = go (if is_commit x.body then x.lsn.0 else last) rs

-- a log has not more commits than records
pub commit_count-few : (log : List Record) → commit_count log ≤ length log
unfolding commit_count
commit_count-few [] = omega arith
commit_count-few (r ∷ rest) = go (is_commit r.body) refl (commit_count-few rest)
  where
    go : (b : Bool) → is_commit r.body ≡ b → length (filter (λ r. is_commit r.body) rest) ≤ length rest → length (filter (λ r. is_commit r.body) (r ∷ rest)) ≤ length (r ∷ rest)
    go true is h = rw is (omega (arith, h))
    go false is h = rw is (omega (arith, h))

-- the counts with one more record, by whether it is a commit
pub counted : (old new : CommitCount) (log : List Record) (r : Record) (b : Bool) → is_commit r.body ≡ b → new.records ≡ old.records + 1 → new.commits ≡ old.commits + count_of b → new.last_commit.0 ≡ (if b then r.lsn.0 else old.last_commit.0)
    → IsCountOf old log → IsCountOf new (log ++ r ∷ [])
counted old new log r b is records commits last h = record {
  records = omega (arith, records, h.records, length-append log (r ∷ []));
  commits = commits ∙ ap (λ (n : ℕ). n + count_of b) h.commits ∙ ap (λ (c : Bool). commit_count log + count_of c) (sym is) ∙ sym (commit_count-push log r);
  last = last ∙ ap (λ (n : ℕ). if b then r.lsn.0 else n) h.last ∙ ap (λ (c : Bool). if c then r.lsn.0 else last_commit log) (sym is) ∙ sym (last_commit-push log r);
}

pub other_view : (b : BodyView) → (b ≡ view.Commit → ⊥) → is_commit (shown_body b) ≡ false
other_view view.Commit n = absurd (n refl)
other_view (view.Update key before after) n = refl
other_view (view.Compensation undo_next key after) n = refl
other_view view.Rollback n = refl
other_view view.End n = refl
other_view view.BeginCheckpoint n = refl
other_view (view.EndCheckpoint (Spelled rows)) n = refl
other_view (view.EndCheckpoint (Kept transactions pages)) n = refl
other_view view.Prepare n = refl
