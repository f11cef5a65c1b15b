-- A commit that was answered is a record of the log, and in each text that begins with what is acknowledged of it.
use Rattle.std.proofs.Common.{◌≡◌, ◌≤◌, ◌+◌, ℕ, zero, suc, List, [], ◌∷◌, ◌++◌, length, take, refl, sym, ap, subst, ◌∙◌, append_assoc, append-nil, length-append, arith}
use Rattle.als_record.specs.declared.record.Record.{Record}
use Rattle.als_record.specs.LogText.{header_bytes, spellings, log_text, end_of}
use Rattle.als_record.specs.Validity.{IsValidLog}
use Rattle.als_record.specs.Commits.{Commit as AnyCommit, Write, writes_of}
use Rattle.als_record.proofs.HeaderLaws.{length-header_bytes}
use Rattle.als_record.proofs.LogLaws.{end_of_is, spellings-append}
use Rattle.als_record.proofs.TailFirst.{IsValidLog-front}
use Rattle.als_store.specs.Stored.{acknowledged}
use Rattle.als_engine.specs.Machine.{Machine}
use Rattle.als_ship.specs.Follows.{IsFront}
use Rattle.als_writing.specs.Writing.{Commits, record_for, updates}
use Rattle.als_writing.proofs.Updates.{Writing-updates}
use Rattle.als_writer.specs.declared.transaction.Transaction.{Transaction}
use Rattle.als_writer.specs.declared.work.Work.TheVariants as work
use Rattle.als_writer.specs.declared.written.Written.{Written}
use Rattle.als_writer.specs.Committing.{committed}
use Rattle.als_lead.specs.Answers.{IsIn, IsDurable, commit_by}
use Rattle.als_lead.specs.Placed.{IsCommitOf, commit_at}
use Rattle.als_lead.proofs.Placing.{committed-end, answered-end}

-- ---- a text that begins with enough of another one

take_beyond : (n : ℕ) (xs ys : List ℕ) → length xs ≤ n → (rest : List ℕ) × (take n (xs ++ ys) ≡ xs ++ rest)
take_beyond n [] ys le = (take n ys, refl)
take_beyond zero (x ∷ xs) ys le = absurd (omega (arith, le))
take_beyond (suc n) (x ∷ xs) ys le =
    let short : length xs ≤ n = omega (arith, le) in
    let more : (rest : List ℕ) × (take n (xs ++ ys) ≡ xs ++ rest) = take_beyond n xs ys short in
    (more.0, ap (λ (l : List ℕ). x ∷ l) more.1)

log_text-append : (pages : ℕ) (front rest : List Record) → log_text pages (front ++ rest) ≡ log_text pages front ++ spellings rest
log_text-append pages front rest =
    ap (λ (l : List ℕ). header_bytes pages ++ l) (spellings-append front rest) ∙ sym (append_assoc (header_bytes pages) (spellings front) (spellings rest))

length-log_text : (pages : ℕ) (log : List Record) → length (log_text pages log) ≡ end_of log
length-log_text pages log =
    length-append (header_bytes pages) (spellings log) ∙ ap (λ (n : ℕ). n + length (spellings log)) (length-header_bytes pages) ∙ sym (end_of_is log)

-- a front of a log that ends at or below a mark is in each text that begins with the log's up to the mark
begins_with : (pages mark : ℕ) (log front rest : List Record) (text : List ℕ) → log ≡ front ++ rest → end_of front ≤ mark → IsFront (take mark (log_text pages log)) text → IsFront (log_text pages front) text
begins_with pages mark log front rest text parts le f =
    let short : length (log_text pages front) ≤ mark = omega (arith, le, length-log_text pages front) in
    let taken : (more : List ℕ) × (take mark (log_text pages front ++ spellings rest) ≡ log_text pages front ++ more) = take_beyond mark (log_text pages front) (spellings rest) short in
    let whole : log_text pages log ≡ log_text pages front ++ spellings rest = ap (λ (l : List Record). log_text pages l) parts ∙ log_text-append pages front rest in
    (taken.0 ++ f.0, f.1 ∙ ap (λ (l : List ℕ). take mark l ++ f.0) whole ∙ ap (λ (l : List ℕ). l ++ f.0) taken.1 ∙ append_assoc (log_text pages front) taken.0 f.0)

-- ---- the commit of a record

module _ (m : Machine) (t : Transaction) (w : Written) (valid : IsValidLog m.held.pages m.held.log) (d : IsDurable m (work.Commit t) w) where
  abbrev in_log : IsIn m t w
  in_log = d.written

  -- the log up to the commit record, and that
  abbrev front : List Record
  front = in_log.past ++ updates in_log.past w.trans.0 t.sets.items

  abbrev commit : Record
  commit = record_for front w.trans.0 Commits

  regrouped : in_log.past ++ committed in_log.past w.trans.0 t.sets.items ≡ front ++ commit ∷ []
  regrouped = sym (append_assoc in_log.past (updates in_log.past w.trans.0 t.sets.items) (commit ∷ []))

  parts : m.held.log ≡ (front ++ commit ∷ []) ++ in_log.rest
  parts = in_log.log ∙ ap (λ (l : List Record). l ++ in_log.rest) regrouped

  sound : IsValidLog m.held.pages (front ++ commit ∷ [])
  sound = IsValidLog-front m.held.pages (front ++ commit ∷ []) in_log.rest (subst (λ (l : List Record). IsValidLog m.held.pages l) parts valid)

  before : IsValidLog m.held.pages in_log.past
  before = IsValidLog-front m.held.pages in_log.past (committed in_log.past w.trans.0 t.sets.items) (subst (λ (l : List Record). IsValidLog m.held.pages l) (sym regrouped) sound)

  written : writes_of front w.trans.0 ≡ t.sets.items
  written = sym (append-nil (writes_of front w.trans.0)) ∙ (Writing-updates m.held.pages in_log.past w.trans.0 t.sets.items before.valid in_log.may).writes

  same : commit_at front commit ≡ commit_by t w
  same =
      ap (λ (ws : List Write). let c : AnyCommit = record { trans = w.trans; lsn = record { 0 = end_of front }; writes = ws } in c) written
      ∙ ap (λ (n : ℕ). let c : AnyCommit = record { trans = w.trans; lsn = record { 0 = n }; writes = t.sets.items } in c) (sym in_log.lsn)

  ends : end_of (front ++ commit ∷ []) ≤ w.end.0
  ends = omega (arith, ap end_of (sym regrouped), committed-end in_log.past w.trans.0 t.sets.items, answered-end m t w in_log, in_log.lsn)

  durable : end_of (front ++ commit ∷ []) ≤ acknowledged m.held
  durable = omega (arith, ends, d.durable)

  pub commit_in_log : (front : List Record) × (r : Record) × IsCommitOf m t w front r
  commit_in_log = (
    front,
    commit,
    record {
      rest = in_log.rest;
      log = parts;
      commits = refl;
      commit = same;
      ends = ends;
      durable = durable;
      is_log = sound.text;
      there = λ text begins. begins_with m.held.pages (acknowledged m.held) m.held.log (front ++ commit ∷ []) in_log.rest text parts durable begins;
    },
  )
