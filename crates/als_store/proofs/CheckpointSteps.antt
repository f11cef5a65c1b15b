-- The store when a checkpoint is begun, a block of it is written, and it is published.
use Rattle.std.proofs.Common.{◌≡◌, ℕ, ◌+◌, ◌≤◌, Bool, true, false, List, [], ◌∷◌, ◌++◌, Option}
use Rattle.std.proofs.Common.{Some, None, refl, sym, ap, subst, ◌∙◌, arith}
use Rattle.std.proofs.Common.{suc, length}
use Rattle.std.specs.Prelude.{IsSomeAnd}
use Rattle.std.specs.Prelude.{Result, Ok, Err, OnOk, IfErr}
use Rattle.als_ckpt.specs.declared.fault.Fault.{Fault}
use Rattle.als_ckpt.specs.declared.fault.Fault.TheVariants.{Device, BadControl, Memory, NothingToDo}
use Rattle.als_ckpt.specs.declared.fault.Fault.TheVariants.{CkptBusy, LogBehind}
use Rattle.als_ckpt.specs.Outcomes.{Publishes, PublishFails, RefusesBegin, RefusesNext, RefusesPublish}
use Rattle.std.specs.List.{AllByRecursion}
use Rattle.als_record.specs.declared.record.Record.{Record}
use Rattle.als_record.specs.declared.rows.LoggedPage.{LoggedPage}
use Rattle.als_record.specs.declared.rows.LoggedTransaction.{LoggedTransaction}
use Rattle.als_record.specs.declared.transaction_row.TransactionRow.{TransactionRow}
use Rattle.als_record.specs.LogText.{end_of}
use Rattle.als_record.specs.Spelling.{IsLoggedTransaction, IsLoggedPage}
use Rattle.als_record.specs.Table.{table_of}
use Rattle.als_analysis.specs.declared.open_row.OpenRow.{OpenRow}
use Rattle.als_analysis.specs.Open.{rows_of as transaction_rows}
use Rattle.als_ckpt_codec.specs.declared.numbers.Numbers.{Numbers}
use Rattle.als_ckpt_codec.specs.Checkpoint.{AreNumbers, are_transactions, are_pages}
use Rattle.als_ckpt.specs.Control.{IsBeginning}
use Rattle.als_dirty.specs.Rows.{rows_of}
use Rattle.als_tables.specs.Copies.{logged_rows}
use Rattle.als_store.proofs.CheckpointRows.{few_rows, rows_rise}
use Rattle.als_tables.specs.declared.commit_count.CommitCount.{CommitCount}
use Rattle.als_ckpt_codec.specs.declared.checkpoint.Checkpoint.{Checkpoint}
use Rattle.als_validator.specs.declared.validator.Validator.{Validator}
use Rattle.als_log.specs.Local.{Local, IsLocal}
use Rattle.als_ckpt.specs.Regions.{Begun}
use Rattle.als_ckpt.specs.Control.{Controlled, IsBusy, newest, with_begun, with_next, with_whole}
use Rattle.als_ckpt.specs.Control.{published, publishing, free_region}
use Rattle.als_epochs.specs.HistoryLaws.{GoesOn-refl}
use Rattle.als_pool.specs.Queues.{total_waiting}
use Rattle.als_pool.specs.Pooled.{Pooled}
use Rattle.als_store.specs.Checkpoints.{IsCovering, AreCovering}
use Rattle.als_store.specs.Parts.{IsStored}
use Rattle.als_store.specs.Origin.{Origin, origin_of}
use Rattle.als_store.specs.Takeover.{GoesOn, AreTaken}
use Rattle.als_store.specs.Warm.{IsWarm}
use Rattle.als_store.proofs.CheckpointLaws.{told_begun, told_written, told_whole}
use Rattle.als_store.proofs.TakeoverLaws.{taken_marked}
use Rattle.als_store.proofs.StoredParts.{with_control, stored-written, stored-torn, stored-broken}
use Rattle.als_store.proofs.StoredParts.{last_state-among}

-- the checkpoint of a log and its pages can be begun
pub begins : (pages : ℕ) (log : List Record) (pool : Pooled) (numbers : Numbers)
    (ts : List LoggedTransaction) (ps : List LoggedPage) → AreNumbers numbers
    → numbers.position.0 ≡ end_of log → ts ≡ logged_rows (table_of log)
    → AllByRecursion IsLoggedTransaction ts → ps ≡ rows_of pool.dirty
    → AllByRecursion IsLoggedPage ps → length pool.dirty ≡ pages → pages ≤ 4096
    → 16 ≤ end_of log → length (logged_rows (table_of log)) ≤ 256
    → are_transactions 0 (logged_rows (table_of log)) ≡ true
    → IsBeginning pages (record { numbers = numbers; transactions = ts; pages = ps })
begins pages log pool numbers ts ps fit at same fits same_pages fits_pages count few least few_ts
    rise = record {
      is_checkpoint = record {
        at = refl;
        numbers = fit;
        tables = (
          omega (arith, ap (λ (xs : List LoggedTransaction). length xs) same, few_ts),
          omega (
            arith,
            ap (λ (xs : List LoggedPage). length xs) same_pages,
            few_rows pool.dirty,
            count,
            few,
          ),
          fits,
          fits_pages,
        );
        transactions = ap (are_transactions 0) same ∙ rise;
        dirty = ap (are_pages pages 0) same_pages ∙ rows_rise pages pool.dirty (omega (arith, count));
      };
      position = omega (arith, at, least);
    }

pub end_low : (log : List Record) → 16 ≤ end_of log
unfolding end_of
end_low log = omega arith

pub length_rows : (os : List OpenRow) → length (transaction_rows os) ≡ length os
length_rows [] = refl
length_rows (o ∷ os) = ap (λ (n : ℕ). suc n) (length_rows os)

pub length_logged : (rows : List TransactionRow) → length (logged_rows rows) ≡ length rows
length_logged [] = refl
length_logged (r ∷ rows) = ap (λ (n : ℕ). suc n) (length_logged rows)

module _ (pages : ℕ) (held : CommitCount) (l : Local) (c : Controlled) (pool : Pooled)
    (validator : Validator) (broken : Bool) (origin : Origin) (recovering : Bool)
    (h : IsStored pages l held c pool validator broken origin recovering) where
  pub stored-begun : (c' : Controlled) (chk : Checkpoint)
      → (IsWarm recovering (origin_of l c pool) → IsCovering l.log pool chk) → c' ≡ with_begun c chk
      → IsStored pages l held c' pool validator broken origin recovering
  stored-begun c' chk is e =
      subst (λ (x : Controlled). IsStored pages l held x pool validator broken origin recovering)
      (sym e)
      (with_control pages held l c pool validator broken origin recovering h (with_begun c chk)
      broken validator h.judged h.judging (omega arith) (record {
        pages = h.marks.pages;
        bytes = h.marks.bytes;
        newest_synced =
            h.marks.newest_synced;
        fronts = h.marks.fronts;
      }) h.sure h.rise
      (λ w. record {
        is_pool = w.is_pool;
        taken = w.taken;
        told =
            told_begun l.log pool c.held c.begun (free_region c) (free_region c) chk (is w)
            w.told;
      }) (λ e. e))

  pub stored-next : (c' : Controlled) → c' ≡ with_next c
      → IsStored pages l held c' pool validator broken origin recovering
  stored-next c' e = subst (λ (x : Controlled). IsStored pages l held x pool validator broken origin
      recovering) (sym e)
      (with_control pages held l c pool validator broken origin recovering h (with_next c) broken
      validator h.judged h.judging (omega arith) (record {
        pages = h.marks.pages;
        bytes = h.marks.bytes;
        newest_synced =
            h.marks.newest_synced;
        fronts = h.marks.fronts;
      }) h.sure h.rise
      (λ w. record {
        is_pool = w.is_pool;
        taken = w.taken;
        told =
            told_written l.log pool c.held c.begun w.told;
      }) (λ e. e))

  stored-next_failed : (c' : Controlled)
      → c' ≡ record c { failures = c'.failures; attempts = c.attempts + 1 }
      → IsStored pages l held c' pool validator true origin recovering
  stored-next_failed c' e =
      subst (λ (x : Controlled). IsStored pages l held x pool validator true origin recovering)
      (sym e)
      (with_control pages held l c pool validator broken origin recovering h
      (record c { failures = c'.failures; attempts = c.attempts + 1 }) true validator h.judged
      h.judging (omega arith)
      (record {
        pages = h.marks.pages;
        bytes = h.marks.bytes;
        newest_synced =
            h.marks.newest_synced;
        fronts = h.marks.fronts;
      })
      (λ wrong. absurd cc) h.rise
      (λ w. record { is_pool = w.is_pool; taken = w.taken; told = w.told })
      (λ wrong. absurd cc))

  pub stored-whole : (b : Begun) → c.begun ≡ Some b
      → IsStored pages l held (with_whole c b) pool validator broken origin recovering
  stored-whole b is =
      with_control pages held l c pool validator broken origin recovering h (with_whole c b) broken
      validator h.judged h.judging (omega arith) (record {
        pages = h.marks.pages;
        bytes = h.marks.bytes;
        newest_synced =
            h.marks.newest_synced;
        fronts = h.marks.fronts;
      }) h.sure h.rise
      (λ w. record {
        is_pool = w.is_pool;
        taken = w.taken;
        told =
            told_whole l.log pool c.held b b.region
            (subst (λ (o : Option Begun). AreCovering l.log pool c.held o) is w.told);
      })
      (λ e. e)

  published_on : (b : Begun) → GoesOn (newest c) (publishing (newest c) b)
  published_on b = record { phase = omega arith; seal = λ past. refl; history = GoesOn-refl (newest c).history }

  published_taken : (b : Begun) → IsLocal l
      → AreTaken l.log c.synced c.since recovering (total_waiting pool.waits)
      → AreTaken l.log c.synced (c.since ++ publishing (newest c) b ∷ []) recovering
      (total_waiting pool.waits)
  published_taken b facts taken =
      taken_marked l.log c.synced c.since recovering (total_waiting pool.waits) taken
      (publishing (newest c) b) refl refl (GoesOn-refl (newest c).history) (omega arith)
      (omega (arith, h.marks.newest_synced, facts.synced, facts.written))

  pub stored-published : (c' : Controlled) (b : Begun) → IsLocal l → c.begun ≡ Some b
      → c' ≡ published c b → IsStored pages l held c' pool validator broken origin recovering
  stored-published c' b facts is e =
      stored-written pages held l (with_whole c b) pool validator broken origin recovering
      (stored-whole b is) c' (publishing (newest c) b) validator h.judged h.judging facts
      (h.marks.fronts (newest c) (last_state-among c.synced c.since)) h.marks.newest_synced
      (published_on b) (published_taken b facts) e

  pub stored-publish_torn : (c' : Controlled) (b : Begun) → IsLocal l → c.begun ≡ Some b
      → c' ≡ record (published c b) { sure = false; failures = c'.failures }
      → IsStored pages l held c' pool validator true origin recovering
  stored-publish_torn c' b facts is e =
      stored-torn pages held l (with_whole c b) pool validator broken origin recovering
      (stored-whole b is) c' (publishing (newest c) b) validator h.judged h.judging facts
      (h.marks.fronts (newest c) (last_state-among c.synced c.since)) h.marks.newest_synced
      (published_on b) (published_taken b facts) e

  pub publish_kept : (c' : Controlled) → IsLocal l → (o : Option Begun) → c.begun ≡ o
      → IsSomeAnd o (λ b. Publishes c b c')
      → IsStored pages l held c' pool validator broken origin recovering
  publish_kept c' facts None is done = absurd done
  publish_kept c' facts (Some b) is done = stored-published c' b facts is done.1

  pub publish_torn : (c' : Controlled) → IsLocal l → (o : Option Begun) → c.begun ≡ o
      → IsSomeAnd o (λ b. PublishFails c b c')
      → IsStored pages l held c' pool validator true origin recovering
  publish_torn c' facts None is done = absurd done
  publish_torn c' facts (Some b) is done = stored-publish_torn c' b facts is done.after

  same_kept : (c' : Controlled) → c' ≡ c
      → IsStored pages l held c' pool validator broken origin recovering
  same_kept c' is = subst (λ (x : Controlled). IsStored pages l held x pool validator broken origin
      recovering) (sym is) h

  refused_begin : (f : Fault) (c' : Controlled) → RefusesBegin f c c' → c' ≡ c
  refused_begin CkptBusy c' r = r.1
  refused_begin Memory c' r = r.1
  refused_begin NothingToDo c' r = absurd r
  refused_begin LogBehind c' r = absurd r
  refused_begin Device c' r = absurd r
  refused_begin BadControl c' r = absurd r

  pub begin_kept : (r : Result (Unit {0}) Fault) (c' : Controlled) (chk : Checkpoint)
      → (IsWarm recovering (origin_of l c pool) → IsCovering l.log pool chk)
      → OnOk r ((IsBusy c → ⊥) × (c' ≡ with_begun c chk)) → IfErr r (λ f. RefusesBegin f c c')
      → IsStored pages l held c' pool validator broken origin recovering
  begin_kept (Ok x) c' chk is ok err = stored-begun c' chk is ok.1
  begin_kept (Err f) c' chk is ok err = same_kept c' (refused_begin f c' err)

  pub next_err : (f : Fault) (c' : Controlled) → RefusesNext f c c' → IsStored pages l held c' pool validator true origin recovering
  next_err NothingToDo c' r = stored-broken pages held l c pool validator broken origin recovering h l c' (same_kept c' r.1)
  next_err Device c' r = stored-next_failed c' r.1.same
  next_err CkptBusy c' r = absurd r
  next_err LogBehind c' r = absurd r
  next_err Memory c' r = absurd r
  next_err BadControl c' r = absurd r

  pub publish_err : (f : Fault) (c' : Controlled) → IsLocal l → RefusesPublish f c c'
      → IsStored pages l held c' pool validator true origin recovering
  publish_err NothingToDo c' facts r =
      stored-broken pages held l c pool validator broken origin recovering h l c' (same_kept c' r.1)
  publish_err CkptBusy c' facts r =
      stored-broken pages held l c pool validator broken origin recovering h l c' (same_kept c' r.1)
  publish_err LogBehind c' facts r =
      stored-broken pages held l c pool validator broken origin recovering h l c' (same_kept c' r.1)
  publish_err Device c' facts r = publish_torn c' facts c.begun refl r
  publish_err Memory c' facts r = absurd r
  publish_err BadControl c' facts r = absurd r
