-- A transaction that was planned, fed with its commit.
use Rattle.std.proofs.Common.{◌≡◌, ◌⊎◌, ℕ, ◌<◌, true, List, [], ◌∷◌, ◌++◌, length, Ok, Err, refl, sym, ap, ◌∙◌, inl, inr, append_assoc, append-nil, arith}
use Rattle.als_record.specs.declared.record.Record.{Record}
use Rattle.als_record.specs.Validity.{is_valid}
use Rattle.als_record.specs.Commits.{Write, Commit, commits_of}
use Rattle.als_record.proofs.CommitSteps.{commits_of-push}
use Rattle.als_writing.specs.Writing.{Commits as Committing, Ends, record_for, updates, transaction}
use Rattle.als_writing.proofs.Committing.{Committed-transaction}
use Rattle.als_engine.specs.declared.fed.Fed.{Fed}
use Rattle.als_engine.specs.declared.fed.FeedFault.{FeedFault}
use Rattle.als_engine.specs.Machine.{Machine}
use Rattle.als_engine.specs.Refusals.{feed_refusal}
use Rattle.als_engine.specs.Feeds.{grown, Feeds}
use Rattle.als_writer.specs.declared.closing.Closing.TheVariants as closing
use Rattle.als_writer.specs.declared.planning.Plan.{Plan}
use Rattle.als_writer.specs.declared.transaction.Transaction.{Transaction}
use Rattle.als_writer.specs.Planning.{IsPlan}
use Rattle.als_writer.specs.Committing.{committed, AreCommitted, IsInLog}
use Rattle.als_writer.proofs.Feeding.{feed_done}
use Rattle.als_writer.proofs.Closed.{length-updates, records-parts, planned, held, parts_of}

-- ---- lists

-- a front of some records and two more that is longer than the records has the first of these
front_past : (us : List Record) (c e : Record) (front more : List Record) → front ++ more ≡ us ++ c ∷ e ∷ [] → length us < length front → (front ≡ us ++ c ∷ e ∷ []) ⊎ (front ≡ us ++ c ∷ [])
front_past us c e [] more same lt = absurd (omega arith)
front_past [] c e (x ∷ []) more same lt = let a : x ≡ c = cc same in inr (ap (λ (y : Record). y ∷ []) a)
front_past [] c e (x ∷ y ∷ []) more same lt =
    let a : x ≡ c = cc same in
    let b : y ≡ e = cc same in
    inl (ap (λ (z : Record). z ∷ y ∷ []) a ∙ ap (λ (z : Record). c ∷ z ∷ []) b)
front_past [] c e (x ∷ y ∷ z ∷ front) more same lt = cc same
front_past (u ∷ us) c e (x ∷ front) more same lt =
    let a : x ≡ u = cc same in
    let b : front ++ more ≡ us ++ c ∷ e ∷ [] = cc same in
    let shorter : length us < length front = omega arith in
    elim (front_past us c e front more b shorter) [
      | inl f ↦ inl (ap (λ (z : Record). z ∷ front) a ∙ ap (λ (l : List Record). u ∷ l) f)
      | inr f ↦ inr (ap (λ (z : Record). z ∷ front) a ∙ ap (λ (l : List Record). u ∷ l) f)
    ]

-- ---- the records of a transaction

module _ (log : List Record) (t : ℕ) (ws : List Write) where
  -- where the updates end, and where the commit does
  abbrev updated : List Record
  updated = log ++ updates log t ws

  abbrev last : Record
  last = record_for (updated ++ record_for updated t Committing ∷ []) t Ends

  transaction-end : log ++ transaction log t ws ≡ (log ++ committed log t ws) ++ last ∷ []
  transaction-end =
      ap (λ (l : List Record). log ++ l) (records-parts closing.Commit log t ws ∙ sym (append_assoc (updates log t ws) (record_for updated t Committing ∷ []) (last ∷ [])))
      ∙ sym (append_assoc log (committed log t ws) (last ∷ []))

  -- the end adds no commit
  commits_of-committed : is_valid (log ++ transaction log t ws) ≡ true → commits_of (log ++ committed log t ws) ≡ commits_of (log ++ transaction log t ws)
  commits_of-committed v =
      sym (append-nil (commits_of (log ++ committed log t ws)))
      ∙ sym (commits_of-push (log ++ committed log t ws) last (ap is_valid (sym transaction-end) ∙ v))
      ∙ ap commits_of (sym transaction-end)

-- ---- a plan

module _ (m : Machine) (t : Transaction) (plan : Plan) (p : IsPlan m closing.Commit t plan) where
  commits_whole : (records : List Record) → AreCommitted m.held.log plan.trans.0 t.sets.items records → commits_of (m.held.log ++ records) ≡ commits_of (m.held.log ++ transaction m.held.log plan.trans.0 t.sets.items)
  commits_whole records (inl e) = ap (λ (l : List Record). commits_of (m.held.log ++ l)) e
  commits_whole records (inr e) =
      ap (λ (l : List Record). commits_of (m.held.log ++ l)) e
      ∙ commits_of-committed m.held.log plan.trans.0 t.sets.items (Committed-transaction m.held.pages m.held.log plan.trans.0 t.sets.items p.valid.valid p.may).valid

  in_log : (new : Machine) (records : List Record) → AreCommitted m.held.log plan.trans.0 t.sets.items records → new ≡ record m { held = grown m.held records } → IsInLog m t (record { trans = plan.trans; lsn = plan.lsn; end = plan.end }) new
  in_log new records whole after = record {
    valid = p.valid;
    tidy = p.tidy.owed;
    number = p.number;
    may = p.may;
    records = records;
    whole = whole;
    after = after;
    lsn = p.lsn;
    end = p.end;
    commits =
        ap (λ (x : Machine). commits_of x.held.log) after
        ∙ commits_whole records whole
        ∙ (Committed-transaction m.held.pages m.held.log plan.trans.0 t.sets.items p.valid.valid p.may).commits
        ∙ ap (λ (at : ℕ). commits_of m.held.log ++ (let c : Commit = record { trans = plan.trans; lsn = record { 0 = at }; writes = t.sets.items } in c) ∷ []) (sym p.lsn);
  }

  pub fed_whole : (fed : Fed) (new : Machine) → Feeds m plan.piece.items (feed_refusal m) (Ok fed) new → IsInLog m t (record { trans = plan.trans; lsn = plan.lsn; end = plan.end }) new
  fed_whole fed new f =
      in_log new (transaction m.held.log plan.trans.0 t.sets.items) (inl refl)
      (feed_done m (transaction m.held.log plan.trans.0 t.sets.items) plan.piece.items p.spelled (planned m closing.Commit t plan p) fed new p.takes f)

  -- the commit is held
  pub fed_commit : (refusal : FeedFault) (new : Machine) → Feeds m plan.piece.items (feed_refusal m) (Err refusal) new → length t.sets.items < refusal.records → IsInLog m t (record { trans = plan.trans; lsn = plan.lsn; end = plan.end }) new
  fed_commit refusal new f past =
      let h = held m closing.Commit t plan p refusal new f in
      let us : List Record = updates m.held.log plan.trans.0 t.sets.items in
      let count : length us ≡ length t.sets.items = length-updates m.held.log plan.trans.0 t.sets.items in
      let longer : length us < length h.front = let c : refusal.records ≡ length h.front = h.count in omega (arith, count, past, c) in
      elim (front_past us (record_for (updated m.held.log plan.trans.0 t.sets.items) plan.trans.0 Committing) (last m.held.log plan.trans.0 t.sets.items) h.front h.more (parts_of m closing.Commit t plan p refusal new h) longer) [
        | inl e ↦ in_log new h.front (inl (e ∙ sym (records-parts closing.Commit m.held.log plan.trans.0 t.sets.items))) h.after
        | inr e ↦ in_log new h.front (inr e) h.after
      ]
