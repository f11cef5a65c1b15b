-- What was prepared is what a decision commits.
use Rattle.std.proofs.Common.{◌≡◌, ◌⊎◌, ℕ, true, false, List, [], ◌∷◌, ◌++◌, refl, sym, ap, ◌∙◌, inl, inr, append_assoc}
use Rattle.std.proofs.lemmas.Bool.{false≢true, or_left}
use Rattle.std.specs.List.{list_any}
use Rattle.std.proofs.lemmas.List.Elements.{filter-append}
use Rattle.std.proofs.lemmas.List.Folds.{list_any-append}
use Rattle.als_record.specs.declared.lsn.Lsn.{Lsn}
use Rattle.als_record.specs.declared.record.Body.TheVariants.{Commit}
use Rattle.als_record.specs.declared.record.Record.{Record}
use Rattle.als_record.specs.declared.trans_id.TransId.{TransId}
use Rattle.als_record.specs.LogText.{end_of}
use Rattle.als_record.specs.Transactions.{is_prepare, is_of, records_of, has_prepare, is_in_doubt}
use Rattle.als_record.specs.Validity.{is_valid}
use Rattle.als_record.specs.Commits.{Commit as AnyCommit, Write, commits_of, writes_of}
use Rattle.als_record.specs.Tail.{decision}
use Rattle.als_record.proofs.CommitSteps.{commits_of-push, commits_of-front}
use Rattle.als_record.proofs.Records.{in_doubt_parts}
use Rattle.als_record.proofs.Validity.{is_valid-front}
use Rattle.als_store.specs.declared.decision.Decision.TheVariants as decision_of
use Rattle.als_engine.specs.Machine.{Machine}
use Rattle.als_writer.specs.declared.transaction.Transaction.{Transaction}
use Rattle.als_writer.specs.declared.written.Written.{Written}
use Rattle.als_writer.specs.Deciding.{deciding}
use Rattle.als_lead.specs.Answers.{IsPreparedIn, IsDecidedIn, HasCommit, commit_by}
use Rattle.als_writing.specs.Writing.{Prepares, record_for, updates, prepared, MayWrite}
use Rattle.als_writing.proofs.Updates.{Writing-updates}
use Rattle.als_writing.proofs.Preparing.{prepared-is}
use Rattle.als_writing.proofs.Doubting.{writes_of-prepared}

-- of two fronts of a list, the first is one of the second, or the second is one of the first without its last record
fronts : (xs us ys vs : List Record) → xs ++ us ≡ ys ++ vs → ((more : List Record) × (ys ≡ xs ++ more)) ⊎ ((r : Record) × (more : List Record) × (xs ≡ ys ++ r ∷ more))
fronts [] us ys vs e = inl (ys, refl)
fronts (x ∷ xs) us [] vs e = inr (x, xs, refl)
fronts (x ∷ xs) us (y ∷ ys) vs e =
    let head : x ≡ y = cc e in
    let tail : xs ++ us ≡ ys ++ vs = cc e in
    elim (fronts xs us ys vs tail) [
      | inl m ↦ inl (m.0, ap (λ (l : List Record). y ∷ l) m.1 ∙ ap (λ (r : Record). r ∷ xs ++ m.0) (sym head))
      | inr m ↦ inr (m.0, m.1, ap (λ (l : List Record). x ∷ l) m.2 ∙ ap (λ (r : Record). r ∷ ys ++ m.0 ∷ m.1) head)
    ]

-- a list with one more record, and a front of it that lacks a record: it is a front of the list
without_last : (us : List Record) (x : Record) (ds : List Record) (r : Record) (more : List Record) → us ++ x ∷ [] ≡ ds ++ r ∷ more → (rest : List Record) × (us ≡ ds ++ rest)
without_last us x [] r more e = (us, refl)
without_last [] x (d ∷ ds) r more e =
    let none : ◌≡◌ {A = List Record} [] (ds ++ r ∷ more) = cc e in
    nothing ds none
  where
    nothing : (ds : List Record) → ◌≡◌ {A = List Record} [] (ds ++ r ∷ more) → (rest : List Record) × (◌≡◌ {A = List Record} [] (d ∷ ds ++ rest))
    nothing [] n = absurd (cc n)
    nothing (y ∷ ys) n = absurd (cc n)
without_last (u ∷ us) x (d ∷ ds) r more e =
    let head : u ≡ d = cc e in
    let tail : us ++ x ∷ [] ≡ ds ++ r ∷ more = cc e in
    let rest : (rest : List Record) × (us ≡ ds ++ rest) = without_last us x ds r more tail in
    (rest.0, ap (λ (l : List Record). u ∷ l) rest.1 ∙ ap (λ (y : Record). y ∷ ds ++ rest.0) head)

-- a prepare record of a front is one of the log
has_prepare-stays : (log more : List Record) (t : ℕ) → has_prepare log t ≡ true → has_prepare (log ++ more) t ≡ true
unfolding has_prepare records_of
has_prepare-stays log more t p =
    ap (list_any (λ r. is_prepare r.body)) (filter-append (is_of t) log more)
    ∙ list_any-append (λ r. is_prepare r.body) (records_of log t) (records_of more t)
    ∙ or_left (list_any (λ r. is_prepare r.body) (records_of log t)) (list_any (λ r. is_prepare r.body) (records_of more t)) p

module _ (pages : ℕ) (log front rest past after : List Record) (t : ℕ) (writes : List Write) (valid : is_valid log ≡ true) (behind : log ≡ front ++ prepared front t writes ++ rest) (may : MayWrite pages front t writes)
    (at : log ≡ past ++ after) (doubted : is_in_doubt past t ≡ true) where
  first : is_valid front ≡ true
  first = is_valid-front front (prepared front t writes) (is_valid-front (front ++ prepared front t writes) rest (ap is_valid (sym behind) ∙ valid))

  -- a front without the prepare record has none of the transaction
  too_short : (r : Record) (more : List Record) → front ++ prepared front t writes ≡ past ++ r ∷ more → ⊥
  too_short r more e =
      let split : (tail : List Record) × (front ++ updates front t writes ≡ past ++ tail) =
      without_last (front ++ updates front t writes) (record_for (front ++ updates front t writes) t Prepares) past r more (sym (prepared-is pages front t writes first may) ∙ e) in
      let none : has_prepare (front ++ updates front t writes) t ≡ false = (Writing-updates pages front t writes first may).active.prepared in
      false≢true (sym none ∙ ap (λ (l : List Record). has_prepare l t) split.1 ∙ has_prepare-stays past split.0 t (in_doubt_parts past t doubted).1)

  -- what a transaction in doubt wrote is what was prepared
  pub writes_of-doubted : writes_of past t ≡ writes
  writes_of-doubted = elim (fronts (front ++ prepared front t writes) rest past after (sym behind ∙ at)) [
    | inl m ↦
        ap (λ (l : List Record). writes_of l t) m.1
        ∙ writes_of-prepared pages front m.0 t writes may (ap is_valid (sym m.1) ∙ is_valid-front past after (ap is_valid (sym at) ∙ valid)) (ap (λ (l : List Record). is_in_doubt l t) (sym m.1) ∙ doubted)
    | inr m ↦ absurd (too_short m.0 m.1 m.2)
  ]

-- the record that commits a transaction adds its commit, with what it had written, and those of what is behind follow
pub commits_behind : (past rest : List Record) (trans : TransId) → is_valid (past ++ decision past trans.0 Commit ∷ rest) ≡ true
    → (later : List AnyCommit) × (commits_of (past ++ decision past trans.0 Commit ∷ rest) ≡ commits_of past ++ record { trans = trans; lsn = record { 0 = end_of past }; writes = writes_of past trans.0 } ∷ later)
commits_behind past rest trans valid =
    let made : Record = decision past trans.0 Commit in
    let whole : past ++ made ∷ [] ++ rest ≡ past ++ made ∷ rest = append_assoc past (made ∷ []) rest in
    let sound : is_valid (past ++ made ∷ [] ++ rest) ≡ true = ap is_valid whole ∙ valid in
    let front : (later : List AnyCommit) × (commits_of (past ++ made ∷ [] ++ rest) ≡ commits_of (past ++ made ∷ []) ++ later) = commits_of-front (past ++ made ∷ []) rest sound in
    let commit : AnyCommit = record { trans = trans; lsn = record { 0 = end_of past }; writes = writes_of past trans.0 } in
    let pushed : commits_of (past ++ made ∷ []) ≡ commits_of past ++ commit ∷ [] = commits_of-push past made (is_valid-front (past ++ made ∷ []) rest sound) in
    (front.0, ap commits_of (sym whole) ∙ front.1 ∙ ap (λ (cs : List AnyCommit). cs ++ front.0) pushed ∙ append_assoc (commits_of past) (commit ∷ []) front.0)

-- what was prepared and decided is a commit of exactly that
pub prepared_commits : (m : Machine) (t : Transaction) (p d : Written) → is_valid m.held.log ≡ true → IsPreparedIn m t p → IsDecidedIn m p.trans decision_of.Commit d → HasCommit m.held.log (commit_by t d)
prepared_commits m t p d valid made decided =
    let trans : TransId = p.trans in
    let writes : writes_of decided.past trans.0 ≡ t.sets.items =
    writes_of-doubted m.held.pages m.held.log made.past made.rest decided.past (deciding decided.past trans decision_of.Commit ∷ decided.rest) trans.0 t.sets.items valid made.log made.may decided.log decided.doubted in
    let behind : (later : List AnyCommit) × (commits_of (decided.past ++ decision decided.past trans.0 Commit ∷ decided.rest) ≡ commits_of decided.past ++ record { trans = trans; lsn = record { 0 = end_of decided.past }; writes = writes_of decided.past trans.0 } ∷ later) =
    commits_behind decided.past decided.rest trans (ap is_valid (sym decided.log) ∙ valid) in
    let lsn : ◌≡◌ {A = Lsn} (record { 0 = end_of decided.past }) d.lsn = ap (λ (n : ℕ). let l : Lsn = record { 0 = n } in l) (sym decided.lsn) in
    record {
      earlier = commits_of decided.past;
      later = behind.0;
      is = ap commits_of decided.log ∙ behind.1
          ∙ ap (λ (ws : List Write). commits_of decided.past ++ record { trans = trans; lsn = record { 0 = end_of decided.past }; writes = ws } ∷ behind.0) writes
          ∙ ap (λ (l : Lsn). commits_of decided.past ++ record { trans = trans; lsn = l; writes = t.sets.items } ∷ behind.0) lsn
          ∙ ap (λ (x : TransId). commits_of decided.past ++ record { trans = x; lsn = d.lsn; writes = t.sets.items } ∷ behind.0) (sym decided.trans_is);
    }
