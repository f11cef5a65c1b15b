-- Who is in doubt, by the transaction table; and what a decision leaves.
use Rattle.std.proofs.Common.{◌≡◌, ℕ, zero, suc, ◌<◌, ◌==◌, Bool, true, false, not, ◌&&◌, ◌||◌, List, [], ◌∷◌, ◌++◌, length, map, take, get_or, refl, sym, ap, subst, ◌∙◌, inl, inr, append_assoc, append-nil, arith}
use Rattle.std.specs.List.{list_any, AllByRecursion}
use Rattle.std.proofs.lemmas.Bool.{cases_Bool, eqb-true, and_parts}
use Rattle.std.proofs.lemmas.List.{take_all}
use Rattle.als_record.specs.declared.lsn.Lsn.{Lsn}
use Rattle.als_record.specs.declared.record.Record.{Record}
use Rattle.als_record.specs.declared.record.Body.{Body}
use Rattle.als_record.specs.declared.trans_id.TransId.{TransId}
use Rattle.als_record.specs.declared.transaction_row.TransactionRow.{TransactionRow}
use Rattle.als_record.specs.LogText.{end_of}
use Rattle.als_record.specs.Table.{is_prepared, row_of, table_of}
use Rattle.als_record.specs.Transactions.{is_decision, is_among, is_unended, is_in_doubt, in_doubt, unended, last_lsn}
use Rattle.als_record.specs.Validity.{is_valid}
use Rattle.als_record.specs.Commits.{commits_of}
use Rattle.als_record.specs.Tail.{tail_of, decision}
use Rattle.als_record.proofs.Numbers.{eqb-refl}
use Rattle.als_record.proofs.Unended.{is_in_doubt-unended, is_among-unended, is_among-in_doubt, All-unended, unended-in_doubt}
use Rattle.als_record.proofs.TableRows.{get_or-table_of}
use Rattle.als_record.proofs.TailFirst.{tail_of-next, doubts-next, ending-tail_of, IsLog-push}
use Rattle.als_record.proofs.Decisions.{decision-is_valid, decision-reserved, decision-in_doubt, decision-is_in_doubt}
use Rattle.als_record.proofs.CommitSteps.{commits_of-push}
use Rattle.als_store.specs.declared.decision.Decision.{Decision}
use Rattle.als_store.specs.declared.decision.Decision.TheVariants as decision_of
use Rattle.als_store.specs.Takeover.{decision_body}
use Rattle.als_store.proofs.DecisionLaws.{decision-IsRecord, decision-is, made_of, prepared-is_in_doubt, last-row}
use Rattle.als_store.specs.Stored.{Stored}
use Rattle.als_engine.specs.Machine.{Machine, Keeps}
use Rattle.als_engine.specs.Events.{resynced}
use Rattle.als_engine.specs.Feeds.{grown}
use Rattle.als_writer.specs.declared.written.Written.{Written}
use Rattle.als_writer.specs.Changes.{AreBounds}
use Rattle.als_writer.specs.Feeding.{IsNext, TakesNext}
use Rattle.als_writer.specs.Tidying.{tidied_to, Tidied, NotTidied}
use Rattle.als_writer.specs.Deciding.{deciding, commits_by, doubts_it, IsRowOf, IsDecision, IsDecided, AddsOwed, Decides}
use Rattle.als_writer.proofs.Feeding.{grown_more}
use Rattle.als_writer.proofs.Owing.{keeps_grown}
use Rattle.als_writer.proofs.LastBounds.{AreBounds-same}

-- ---- a row that says so

any_at : (P : TransactionRow → Bool) (rows : List TransactionRow) (i : ℕ) (row : TransactionRow) → i < length rows → row ≡ get_or rows i row → P row ≡ true → list_any P rows ≡ true
any_at P [] i row lt e p = absurd (omega arith)
any_at P (x ∷ rows) zero row lt e p = ap (λ (b : Bool). b || list_any P rows) (ap P (sym e) ∙ p)
any_at P (x ∷ rows) (suc i) row lt e p = ap (λ (b : Bool). P x || b) (any_at P rows i row (omega arith) e p) ∙ or-true (P x)
  where
    or-true : (b : Bool) → (b || true) ≡ true
    or-true true = refl
    or-true false = refl

-- there is one exactly of a transaction in doubt
pub any_doubts : (log : List Record) (trans : TransId) → list_any (doubts_it trans) (table_of log) ≡ is_in_doubt log trans.0
unfolding table_of row_of
any_doubts log trans = go (unended log) (All-unended log) ∙ ap (λ (b : Bool). b && is_in_doubt log trans.0) (is_among-unended log trans.0) ∙ both
  where
    t : ℕ
    t = trans.0

    absorb : (a d : Bool) → (d || (a && d)) ≡ d
    absorb true true = refl
    absorb true false = refl
    absorb false true = refl
    absorb false false = refl

    both : (is_unended log trans.0 && is_in_doubt log trans.0) ≡ is_in_doubt log trans.0
    both = elim (cases_Bool (is_in_doubt log trans.0)) [
      | inl d ↦ rw (is_in_doubt-unended log trans.0 d, d) refl
      | inr d ↦ rw d (off (is_unended log trans.0))
    ]
      where
        off : (b : Bool) → (b && false) ≡ false
        off true = refl
        off false = refl

    go : (xs : List ℕ) → AllByRecursion (λ x. is_unended log x ≡ true) xs → list_any (doubts_it trans) (map (row_of log) xs) ≡ (is_among xs trans.0 && is_in_doubt log trans.0)
    go [] a = refl
    go (x ∷ xs) a = elim (cases_Bool (x == trans.0)) [
      | inl y ↦
          let same : x ≡ trans.0 = eqb-true x trans.0 y in
          let row : is_prepared (row_of log x).state ≡ is_in_doubt log trans.0 = prepared-is_in_doubt log x a.0 ∙ ap (is_in_doubt log) same in
          rw (y, row) (ap (λ (b : Bool). is_in_doubt log trans.0 || b) (go xs a.1) ∙ absorb (is_among xs trans.0) (is_in_doubt log trans.0))
      | inr y ↦ rw y (go xs a.1)
    ]

-- and it has its LastLSN
pub row-doubted : (log : List Record) (trans : TransId) (row : TransactionRow) → IsRowOf (table_of log) trans row → (is_in_doubt log trans.0 ≡ true) × (row.last.0 ≡ last_lsn log trans.0)
row-doubted log trans row r =
    let doubted : is_in_doubt log trans.0 ≡ true = sym (any_doubts log trans) ∙ any_at (doubts_it trans) (table_of log) r.i row r.within r.at r.is in
    let number : row.trans.0 ≡ trans.0 = eqb-true row.trans.0 trans.0 (and_parts (row.trans.0 == trans.0) (is_prepared row.state) r.is).0 in
    let is : row ≡ row_of log row.trans.0 = r.at ∙ get_or-table_of log r.i row r.within ∙ ap (λ (x : TransactionRow). row_of log x.trans.0) (sym r.at) in
    (doubted, ap (λ (x : TransactionRow). x.last.0) is ∙ last-row log row.trans.0 ∙ ap (last_lsn log) number)

-- ---- the record

decides_body : (verdict : Decision) → is_decision (decision_body verdict) ≡ true
decides_body decision_of.Commit = refl
decides_body decision_of.Rollback = refl

pub decision_made : (log : List Record) (trans : TransId) (row : TransactionRow) (end : Lsn) (body : Body) (verdict : Decision) → IsRowOf (table_of log) trans row → end.0 ≡ end_of log → body ≡ decision_body verdict → made_of end row.last trans body ≡ deciding log trans verdict
decision_made log trans row end body verdict r at says =
    decision-is log end row.last trans body at (row-doubted log trans row r).1 ∙ ap (λ (b : Body). decision log trans.0 b) says

module _ (m : Machine) (trans : TransId) (verdict : Decision) (r : Record) (d : IsDecision m trans verdict r) where
  pub decision_next : IsNext m r
  decision_next = subst (IsNext m) (sym d.is) (record {
    partial = d.partial;
    follows = λ valid short. record {
      text = IsLog-push m.held.pages m.held.log (deciding m.held.log trans verdict) valid.text refl (decision-IsRecord m.held.pages m.held.log trans.0 (decision_body verdict) valid short d.doubted (decides_body verdict));
      valid = decision-is_valid m.held.log trans.0 d.doubted valid.valid (decision_body verdict) (decides_body verdict);
    };
    reserved = decision-reserved m.held.log trans.0 d.doubted (decision_body verdict) (decides_body verdict);
  })

  commits_more : (v : Decision) → is_valid (m.held.log ++ deciding m.held.log trans v ∷ []) ≡ true → commits_of (m.held.log ++ deciding m.held.log trans v ∷ []) ≡ commits_of m.held.log ++ commits_by m.held.log trans v
  commits_more decision_of.Commit v = commits_of-push m.held.log (deciding m.held.log trans decision_of.Commit) v
  commits_more decision_of.Rollback v = commits_of-push m.held.log (deciding m.held.log trans decision_of.Rollback) v

  pub decision_taken : (w : Written) (new : Machine) → TakesNext m r new → w.trans ≡ trans → w.lsn ≡ r.lsn → w.end.0 ≡ end_of new.held.log → IsDecided m trans verdict w new
  decision_taken w new taken number lsn end =
      let made : Record = deciding m.held.log trans verdict in
      let after : new ≡ record m { held = grown m.held (made ∷ []) } = taken.after ∙ ap (λ (x : Record). record m { held = grown m.held (x ∷ []) }) d.is in
      let log : new.held.log ≡ m.held.log ++ made ∷ [] = ap (λ (x : Machine). x.held.log) after in
      let valid : is_valid (m.held.log ++ made ∷ []) ≡ true = decision-is_valid m.held.log trans.0 d.doubted d.valid.valid (decision_body verdict) (decides_body verdict) in
      record {
        valid = d.valid;
        doubted = d.doubted;
        tidy = d.owed;
        after = after;
        trans_is = number;
        lsn = ap (λ (x : Lsn). x.0) (lsn ∙ ap (λ (x : Record). x.lsn) d.is);
        end = end ∙ ap end_of log;
        commits = ap commits_of log ∙ commits_more verdict valid;
        decided =
            ap (λ (l : List Record). is_in_doubt l trans.0) log
            ∙ decision-is_in_doubt m.held.log trans.0 d.doubted (decision_body verdict) (decides_body verdict) trans.0
            ∙ ap (λ (b : Bool). is_in_doubt m.held.log trans.0 && not b) (eqb-refl trans.0)
            ∙ off (is_in_doubt m.held.log trans.0);
        doubts = ap in_doubt log ∙ decision-in_doubt m.held.log trans.0 d.doubted (decision_body verdict) (decides_body verdict);
      }
    where
      off : (b : Bool) → (b && not true) ≡ false
      off true = refl
      off false = refl

-- ---- what it leaves

pub tidied_adds : (old new : Machine) → Tidied old new → AddsOwed old new
tidied_adds old new t =
    let tail : List Record = tail_of old.held.log in
    let whole : tail ≡ take (length tail) tail = sym (take_all (length tail) tail (omega arith)) in
    let same : new ≡ tidied_to (length tail) old = t.after ∙ ap (λ (l : List Record). record (resynced old) { held = grown old.held l }) whole in
    record {
      n = length tail;
      front = inr same;
      log = ap (λ (x : Machine). x.held.log) same;
      commits = t.commits;
    }

pub not_tidied_adds : (old new : Machine) → NotTidied old new → AddsOwed old new
not_tidied_adds old new t = elim t.front [
  | inl e ↦ record {
    n = 0;
    front = inl e;
    log = ap (λ (x : Machine). x.held.log) e ∙ sym (append-nil old.held.log);
    commits = t.commits;
  }
  | inr e ↦ record {
    n = t.n;
    front = inr e;
    log = ap (λ (x : Machine). x.held.log) e;
    commits = t.commits;
  }
]

-- who is in doubt stays
doubts_more : (n : ℕ) (log tail : List Record) → tail_of log ≡ tail → ((l : List Record) → in_doubt (l ++ take n (tail_of l)) ≡ in_doubt l) → in_doubt (log ++ take (suc n) tail) ≡ in_doubt log
doubts_more n log [] e before = ap in_doubt (append-nil log)
doubts_more n log (r ∷ rest) e before =
    ap in_doubt (sym (append_assoc log (r ∷ []) (take n rest)))
    ∙ ap (λ (us : List Record). in_doubt ((log ++ r ∷ []) ++ take n us)) (sym (tail_of-next log r rest e))
    ∙ before (log ++ r ∷ [])
    ∙ (doubts-next log r rest e).0

doubts-front : (n : ℕ) (log : List Record) → in_doubt (log ++ take n (tail_of log)) ≡ in_doubt log
doubts-front zero log = ap in_doubt (append-nil log)
doubts-front (suc n) log = doubts_more n log (tail_of log) refl (doubts-front n)

-- readers see what they saw
shows_owed : (old new : Machine) → AddsOwed old new → new.published ≡ old.published
shows_owed old new a = elim a.front [
  | inl e ↦ ap (λ (m : Machine). m.published) e
  | inr e ↦ ap (λ (m : Machine). m.published) e
]

pub decides_all : (old mid new : Machine) (trans : TransId) (verdict : Decision) (w : Written) → IsDecided old trans verdict w mid → AddsOwed mid new → Decides old trans verdict w new
decides_all old mid new trans verdict w d a =
    let same : in_doubt new.held.log ≡ in_doubt mid.held.log = ap in_doubt a.log ∙ doubts-front a.n mid.held.log in
    record {
      mid = mid;
      decided = d;
      n = a.n;
      log = a.log;
      commits = a.commits ∙ d.commits;
      doubts = same ∙ d.doubts;
      published = shows_owed mid new a ∙ ap (λ (m : Machine). m.published) d.after;
      ended = λ none.
          let all : unended new.held.log ≡ in_doubt new.held.log = unended-in_doubt new.held.log (ending-tail_of new.held.log none) in
          sym (is_among-unended new.held.log trans.0)
          ∙ ap (λ (ts : List ℕ). is_among ts trans.0) (all ∙ same)
          ∙ is_among-in_doubt mid.held.log trans.0
          ∙ d.decided;
    }

-- ---- what is acknowledged stays

pub decides_keeps : (old mid new : Machine) (trans : TransId) (verdict : Decision) (w : Written) → IsDecided old trans verdict w mid → AddsOwed mid new → Keeps old mid → Keeps old new
decides_keeps old mid new trans verdict w d a k = elim a.front [
  | inl e ↦ subst (Keeps old) (sym e) k
  | inr e ↦
      let made : Record = deciding old.held.log trans verdict in
      let rest : List Record = take a.n (tail_of mid.held.log) in
      let whole : new ≡ record (resynced old) { held = grown old.held (made ∷ rest) } =
      e
      ∙ ap (λ (x : Machine). record (resynced x) { held = grown x.held rest }) d.after
      ∙ ap (λ (s : Stored). record (resynced old) { held = s }) (grown_more old.held (made ∷ []) rest) in
      subst (Keeps old) (sym whole) (keeps_grown old (made ∷ rest))
]

-- ---- what bounds the last commits

pub rolled_bounds : (bounds : List ℕ) (pages : ℕ) (log more : List Record) (trans : TransId) → AreBounds bounds pages log → commits_of more ≡ commits_of log ++ commits_by log trans decision_of.Rollback → AreBounds bounds pages more
rolled_bounds bounds pages log more trans a e = AreBounds-same bounds pages log more (e ∙ append-nil (commits_of log)) a

-- the rest adds no commit
pub decided_bounds : (bounds : List ℕ) (old mid new : Machine) (trans : TransId) (verdict : Decision) (w : Written) → IsDecided old trans verdict w mid → AddsOwed mid new → AreBounds bounds old.held.pages mid.held.log → AreBounds bounds new.held.pages new.held.log
decided_bounds bounds old mid new trans verdict w d a b =
    subst (λ (pages : ℕ). AreBounds bounds pages new.held.log) (sym pages)
    (AreBounds-same bounds old.held.pages mid.held.log new.held.log a.commits b)
  where
    first : mid.held.pages ≡ old.held.pages
    first = ap (λ (x : Machine). x.held.pages) d.after

    rest : new.held.pages ≡ mid.held.pages
    rest = elim a.front [
      | inl e ↦ ap (λ (x : Machine). x.held.pages) e
      | inr e ↦ ap (λ (x : Machine). x.held.pages) e
    ]

    pages : new.held.pages ≡ old.held.pages
    pages = rest ∙ first
