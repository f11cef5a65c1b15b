-- The record that decides a transaction in doubt, and the commit that one makes.
use Rattle.std.proofs.Common.{◌≡◌, ℕ, ◌<◌, ◌^◌, ◌==◌, Bool, true, false, cond, not, ◌&&◌, List, [], ◌∷◌, ◌++◌, refl, sym, ap, subst, ◌∙◌, inl, inr, arith, lt_trans}
use Rattle.std.specs.Prelude.{Result, Ok, Err, OnOk, IfErr}
use Rattle.std.specs.List.{AllByRecursion}
use Rattle.std.proofs.lemmas.Bool.{cases_Bool, eqb-true, false≢true, and_parts}
use Rattle.als_record.specs.declared.lsn.Lsn.{Lsn}
use Rattle.als_record.specs.declared.trans_id.TransId.{TransId}
use Rattle.als_record.specs.declared.record.Body.{Body}
use Rattle.als_record.specs.declared.record.Body.TheVariants.{Update, Compensation, Commit, Rollback, End, BeginCheckpoint, EndCheckpoint, Prepare}
use Rattle.als_record.specs.declared.record.Record.{Record}
use Rattle.als_record.specs.declared.transaction_state.TransactionState.TheVariants.{Active, Committed, RollingBack, Prepared}
use Rattle.als_record.specs.LogText.{end_of}
use Rattle.als_record.specs.Spelling.{IsBody, IsRecord}
use Rattle.als_record.specs.Transactions.{is_of, records_of, has_begun, is_committed, has_rollback, has_prepare, is_unended, is_in_doubt, is_decision, last_lsn, surviving}
use Rattle.als_record.specs.Table.{is_prepared, state_of, row_of}
use Rattle.als_record.specs.Tail.{decision}
use Rattle.als_record.specs.Validity.{is_valid, IsValidLog}
use Rattle.als_record.specs.Commits.{Commit as AnyCommit, Write, writes_of, commits_of}
use Rattle.als_record.proofs.Chain.{Threaded-valid}
use Rattle.als_record.proofs.Records.{has_begun-unended, in_doubt_parts}
use Rattle.als_record.proofs.Decisions.{decision-is_valid}
use Rattle.als_record.proofs.CommitSteps.{commits_of-push}
use Rattle.als_commits.specs.Committing.{writes_in, commit_with}
use Rattle.als_log.specs.declared.fault.Fault.{Fault as LogFault}
use Rattle.als_log.specs.declared.fault.Fault.TheVariants as log_fault
use Rattle.als_log.specs.Local.{Local}
use Rattle.als_takeover.specs.Next.{CannotCollect as Uncollected}
use Rattle.als_ckpt.specs.Control.{Controlled}
use Rattle.als_pool.specs.Pooled.{Pooled}
use Rattle.als_reopen.specs.Taken.{Decides}
use Rattle.als_store.specs.declared.decision.Decision.{Decision}
use Rattle.als_store.specs.declared.decision.Decision.TheVariants as decision_of
use Rattle.als_store.specs.declared.fault.Fault.{Fault}
use Rattle.als_store.specs.declared.fault.Fault.TheVariants as fault
use Rattle.als_store.specs.Faults.{of_log}
use Rattle.als_store.specs.Origin.{Origin}
use Rattle.als_store.specs.Parts.{stored_of}
use Rattle.als_store.specs.Takeover.{decision_body, CannotCollect, NotCollected}

-- ---- its spelling

-- a transaction's number is that of a record of the log
number_fits : (pages t : ℕ) (log : List Record) → AllByRecursion (IsRecord pages) log → has_begun log t ≡ true → t < 2 ^ 32
unfolding has_begun records_of
number_fits pages t [] all e = absurd (false≢true e)
number_fits pages t (r ∷ rest) all e = elim (cases_Bool (is_of t r)) [
  | inl own ↦ let same : r.trans.0 ≡ t = eqb-true r.trans.0 t (and_parts _ (r.trans.0 == t) own).1 in subst (λ (n : ℕ). n < 2 ^ 32) same all.0.trans
  | inr other ↦ number_fits pages t rest all.1 (rw other at e)
]

body_fits : (pages : ℕ) (b : Body) → is_decision b ≡ true → IsBody pages b
body_fits pages Commit e = tt
body_fits pages Rollback e = tt
body_fits pages (Update key before after) e = absurd (false≢true e)
body_fits pages (Compensation undo_next key after) e = absurd (false≢true e)
body_fits pages End e = absurd (false≢true e)
body_fits pages BeginCheckpoint e = absurd (false≢true e)
body_fits pages (EndCheckpoint transactions rows) e = absurd (false≢true e)
body_fits pages Prepare e = absurd (false≢true e)

-- it fits its spelling, where the log is short enough
pub decision-IsRecord : (pages : ℕ) (log : List Record) (t : ℕ) (b : Body) → IsValidLog pages log → end_of log < 2 ^ 64 → is_in_doubt log t ≡ true → is_decision b ≡ true → IsRecord pages (decision log t b)
decision-IsRecord pages log t b l room d e =
    let last : last_lsn log t < end_of log = (Threaded-valid log l.valid t).last_below in
    record {
      lsn = room;
      prev = lt_trans last room;
      trans = number_fits pages t log l.text.records (has_begun-unended log t (in_doubt_parts log t d).0);
      body = body_fits pages b e;
    }

-- it is made from these
abbrev pub made_of : Lsn → Lsn → TransId → Body → Record
made_of end last t b = record { lsn = end; prev = last; trans = t; body = b }

pub decision-is : (log : List Record) (end last : Lsn) (t : TransId) (b : Body) → end.0 ≡ end_of log → last.0 ≡ last_lsn log t.0
    → made_of end last t b ≡ decision log t.0 b
decision-is log end last t b at is =
    ap (λ (n : ℕ). made_of (record { 0 = n }) last t b) at ∙ ap (λ (n : ℕ). made_of (record { 0 = end_of log }) (record { 0 = n }) t b) is

decides_body : (verdict : Decision) → is_decision (decision_body verdict) ≡ true
decides_body decision_of.Commit = refl
decides_body decision_of.Rollback = refl

pub decides : (log : List Record) (t : ℕ) (verdict : Decision) → is_in_doubt log t ≡ true → Decides log (decision log t (decision_body verdict))
decides log t verdict d = record { doubt = d; decides = decides_body verdict; is = refl }

-- ---- who is in doubt

-- a transaction with a row is in doubt where its row says so
pub prepared-is_in_doubt : (log : List Record) (t : ℕ) → is_unended log t ≡ true → is_prepared (row_of log t).state ≡ is_in_doubt log t
unfolding row_of state_of is_in_doubt
prepared-is_in_doubt log t u = rw u (go (is_committed log t) (has_rollback log t) (has_prepare log t))
  where
    go : (c h p : Bool) → is_prepared (cond c Committed (cond h RollingBack (cond p Prepared Active))) ≡ (true && p && not c && not h)
    go true true true = refl
    go true true false = refl
    go true false true = refl
    go true false false = refl
    go false true true = refl
    go false true false = refl
    go false false true = refl
    go false false false = refl

-- and one without a row is not
pub ended-is_in_doubt : (log : List Record) (t : ℕ) → is_unended log t ≡ false → is_in_doubt log t ≡ false
unfolding is_in_doubt
ended-is_in_doubt log t u = rw u refl

-- LastLSN stands in its row
pub last-row : (log : List Record) (t : ℕ) → (row_of log t).last.0 ≡ last_lsn log t
unfolding row_of
last-row log t = refl

-- ---- the commit that it makes

abbrev pub made_commit : TransId → Lsn → List Write → AnyCommit
made_commit t end writes = record { trans = t; lsn = end; writes = writes }

pub decision-commits : (log : List Record) (t : TransId) (end : Lsn) → is_valid log ≡ true → is_in_doubt log t.0 ≡ true → end.0 ≡ end_of log
    → commits_of (log ++ decision log t.0 Commit ∷ []) ≡ commits_of log ++ commit_with t end (surviving log t.0) ∷ []
unfolding writes_of
decision-commits log t end v d at =
    commits_of-push log (decision log t.0 Commit) (decision-is_valid log t.0 d v Commit refl)
    ∙ ap (λ (n : ℕ). commits_of log ++ commit_with t (record { 0 = n }) (surviving log t.0) ∷ []) (sym at)

-- and with the same writes
pub commits-written : (log : List Record) (t : TransId) (end : Lsn) (updates : List Record) (writes : List Write)
    → is_valid log ≡ true → is_in_doubt log t.0 ≡ true → end.0 ≡ end_of log → updates ≡ cond (is_unended log t.0) (surviving log t.0) [] → writes ≡ writes_in updates
    → commits_of (log ++ decision log t.0 Commit ∷ []) ≡ commits_of log ++ made_commit t end writes ∷ []
commits-written log t end updates writes v d at collected written =
    let all : updates ≡ surviving log t.0 = collected ∙ ap (λ b. cond b (surviving log t.0) []) (in_doubt_parts log t.0 d).0 in
    decision-commits log t end v d at
    ∙ ap (λ (ws : List Write). commits_of log ++ made_commit t end ws ∷ []) (sym (written ∙ ap writes_in all))

-- ---- what is not collected

pub not_collected : (e : LogFault) (old new : Local) → Uncollected e old new → CannotCollect (of_log e) old new
not_collected log_fault.Device old new is = is
not_collected log_fault.Memory old new is = is
not_collected log_fault.NothingToDo old new is = absurd is
not_collected log_fault.LogFull old new is = absurd is

-- of a store
pub uncollected_store : (pages : ℕ) (l l' : Local) (c : Controlled) (pool : Pooled) (broken : Bool) (origin : Origin) (recovering : Bool) (f : Fault) → CannotCollect f l l'
    → NotCollected (stored_of pages l c pool broken origin recovering) f (stored_of pages l' c pool broken origin recovering)
uncollected_store pages l l' c pool broken origin recovering fault.Memory is = ap (λ (x : Local). stored_of pages x c pool broken origin recovering) is
uncollected_store pages l l' c pool broken origin recovering fault.Device is = record { failed = omega (arith, is.failed); after = ap (λ (x : Local). stored_of pages x c pool broken origin recovering) is.same }
uncollected_store pages l l' c pool broken origin recovering (fault.Invalid cause) is = absurd is
uncollected_store pages l l' c pool broken origin recovering fault.LogBehind is = absurd is
uncollected_store pages l l' c pool broken origin recovering fault.CkptBusy is = absurd is
uncollected_store pages l l' c pool broken origin recovering fault.PoolFull is = absurd is
uncollected_store pages l l' c pool broken origin recovering fault.PageLent is = absurd is
uncollected_store pages l l' c pool broken origin recovering fault.NothingToDo is = absurd is
uncollected_store pages l l' c pool broken origin recovering fault.LogFull is = absurd is
uncollected_store pages l l' c pool broken origin recovering (fault.BadPage page) is = absurd is
uncollected_store pages l l' c pool broken origin recovering fault.NumbersSpent is = absurd is

-- and the log then differs by its count of failures alone
pub collect_room : (f : Fault) (old new : Local) → CannotCollect f old new → new ≡ record old { failures = new.failures }
collect_room fault.Memory old new is = is ∙ ap (λ (n : ℕ). record old { failures = n }) (sym (ap (λ (x : Local). x.failures) is))
collect_room fault.Device old new is = is.same
collect_room (fault.Invalid cause) old new is = absurd is
collect_room fault.LogBehind old new is = absurd is
collect_room fault.CkptBusy old new is = absurd is
collect_room fault.PoolFull old new is = absurd is
collect_room fault.PageLent old new is = absurd is
collect_room fault.NothingToDo old new is = absurd is
collect_room fault.LogFull old new is = absurd is
collect_room (fault.BadPage page) old new is = absurd is
collect_room fault.NumbersSpent old new is = absurd is

-- so it is whatever the answer
pub log_read : {X : Type 0} (r : Result X Fault) (old new : Local) → OnOk r (new ≡ old) → IfErr r (λ f. CannotCollect f old new) → new ≡ record old { failures = new.failures }
log_read (Ok x) old new same err = same ∙ ap (λ (n : ℕ). record old { failures = n }) (sym (ap (λ (x : Local). x.failures) same))
log_read (Err f) old new same err = collect_room f old new err

pub store_read : {X : Type 0} (pages : ℕ) (l l' : Local) (c : Controlled) (pool : Pooled) (broken : Bool) (origin : Origin) (recovering : Bool) (r : Result X Fault) → IfErr r (λ f. CannotCollect f l l')
    → IfErr r (λ f. NotCollected (stored_of pages l c pool broken origin recovering) f (stored_of pages l' c pool broken origin recovering))
store_read pages l l' c pool broken origin recovering (Ok x) err = tt
store_read pages l l' c pool broken origin recovering (Err f) err = uncollected_store pages l l' c pool broken origin recovering f err
