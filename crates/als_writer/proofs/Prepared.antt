-- A transaction that was planned, fed with its prepare record.
use Rattle.std.proofs.Common.{◌≡◌, ℕ, ◌==◌, ◌<◌, Bool, true, false, ◌||◌, List, [], ◌∷◌, ◌++◌, length, filter_map, reverse, Ok, Err, refl, sym, ap, ◌∙◌, append-nil, arith}
use Rattle.als_record.specs.declared.record.Record.{Record}
use Rattle.als_record.specs.Transactions.{to_undo, surviving, is_in_doubt, in_doubt, is_among}
use Rattle.als_record.specs.Validity.{is_valid}
use Rattle.als_record.specs.Commits.{Write, write_of, writes_of, commits_of}
use Rattle.als_record.specs.Tail.{tail_of}
use Rattle.als_record.proofs.Numbers.{eqb-refl}
use Rattle.als_record.proofs.Records.{to_undo-own}
use Rattle.als_record.proofs.Unended.{is_among-in_doubt}
use Rattle.als_writing.specs.Writing.{Prepares as Preparing, record_for, updates, prepared, MayWrite}
use Rattle.als_writing.proofs.Updates.{Writing, Writing-updates}
use Rattle.als_writing.proofs.Preparing.{prepared-is, commits_prepared, in_doubt_prepared, tail_of-prepared}
use Rattle.als_engine.specs.declared.fed.Fed.{Fed}
use Rattle.als_engine.specs.declared.fed.FeedFault.{FeedFault}
use Rattle.als_engine.specs.Machine.{Machine}
use Rattle.als_engine.specs.Refusals.{feed_refusal}
use Rattle.als_engine.specs.Feeds.{grown, Feeds}
use Rattle.als_writer.specs.declared.closing.Closing.TheVariants as closing
use Rattle.als_writer.specs.declared.planning.Plan.{Plan}
use Rattle.als_writer.specs.declared.transaction.Transaction.{Transaction}
use Rattle.als_writer.specs.Planning.{IsPlan}
use Rattle.als_writer.specs.Preparing.{IsPrepared}
use Rattle.als_writer.proofs.Feeding.{feed_done}
use Rattle.als_writer.proofs.Closed.{length-updates, records-parts, planned, held, parts_of}

-- ---- lists

-- a front of some records and one more that is longer than the records is all of them
front_all : (us : List Record) (c : Record) (front more : List Record) → front ++ more ≡ us ++ c ∷ [] → length us < length front → front ≡ us ++ c ∷ []
front_all us c [] more same lt = absurd (omega arith)
front_all [] c (x ∷ []) more same lt = let a : x ≡ c = cc same in ap (λ (y : Record). y ∷ []) a
front_all [] c (x ∷ y ∷ front) more same lt = cc same
front_all (u ∷ us) c (x ∷ front) more same lt =
    let a : x ≡ u = cc same in
    let b : front ++ more ≡ us ++ c ∷ [] = cc same in
    let shorter : length us < length front = omega arith in
    ap (λ (z : Record). z ∷ front) a ∙ ap (λ (l : List Record). u ∷ l) (front_all us c front more b shorter)

among_last : (xs : List ℕ) (t : ℕ) → is_among (xs ++ t ∷ []) t ≡ true
among_last [] t = ap (λ b. b || false) (eqb-refl t)
among_last (x ∷ xs) t = ap (λ b. (x == t) || b) (among_last xs t) ∙ or-true (x == t)
  where
    or-true : (b : Bool) → (b || true) ≡ true
    or-true true = refl
    or-true false = refl

-- ---- what comes of it

module _ (pages : ℕ) (log : List Record) (t : ℕ) (ws : List Write) (v : is_valid log ≡ true) (may : MayWrite pages log t ws) where
  commits-same : commits_of (log ++ prepared log t ws) ≡ commits_of log
  commits-same = ap commits_of (prepared-is pages log t ws v may) ∙ commits_prepared pages log t ws v may

  doubts-more : in_doubt (log ++ prepared log t ws) ≡ in_doubt log ++ t ∷ []
  doubts-more = ap in_doubt (prepared-is pages log t ws v may) ∙ in_doubt_prepared pages log t ws v may

  doubted : is_in_doubt (log ++ prepared log t ws) t ≡ true
  doubted = sym (is_among-in_doubt (log ++ prepared log t ws) t) ∙ ap (λ ts. is_among ts t) doubts-more ∙ among_last (in_doubt log) t

  owed-none : tail_of log ≡ [] → tail_of (log ++ prepared log t ws) ≡ []
  owed-none tidy = ap tail_of (prepared-is pages log t ws v may) ∙ tail_of-prepared pages log t ws v may tidy

  -- its writes are those that survive
  writes-all : writes_of (log ++ prepared log t ws) t ≡ ws
  unfolding writes_of surviving
  writes-all =
      let updated : List Record = log ++ updates log t ws in
      let writing : Writing log t ws (log ++ updates log t ws) [] = Writing-updates pages log t ws v may in
      ap (λ (l : List Record). filter_map (λ (u : Record). write_of u.body) (reverse (to_undo l t))) (prepared-is pages log t ws v may)
      ∙ ap (λ (us : List Record). filter_map (λ (u : Record). write_of u.body) (reverse us)) (to_undo-own updated (record_for updated t Preparing) t (eqb-refl t))
      ∙ sym (append-nil (writes_of updated t))
      ∙ writing.writes

-- ---- a plan

module _ (m : Machine) (t : Transaction) (plan : Plan) (p : IsPlan m closing.Prepare t plan) where
  in_log : (new : Machine) → new ≡ record m { held = grown m.held (prepared m.held.log plan.trans.0 t.sets.items) } → IsPrepared m t (record { trans = plan.trans; lsn = plan.lsn; end = plan.end }) new
  in_log new after = record {
    valid = p.valid;
    tidy = p.tidy.owed;
    number = p.number;
    may = p.may;
    after = after;
    lsn = p.lsn;
    end = p.end;
    commits = ap (λ (x : Machine). commits_of x.held.log) after ∙ commits-same m.held.pages m.held.log plan.trans.0 t.sets.items p.valid.valid p.may;
    doubts = ap (λ (x : Machine). in_doubt x.held.log) after ∙ doubts-more m.held.pages m.held.log plan.trans.0 t.sets.items p.valid.valid p.may;
    doubted = ap (λ (x : Machine). is_in_doubt x.held.log plan.trans.0) after ∙ doubted m.held.pages m.held.log plan.trans.0 t.sets.items p.valid.valid p.may;
    writes = ap (λ (x : Machine). writes_of x.held.log plan.trans.0) after ∙ writes-all m.held.pages m.held.log plan.trans.0 t.sets.items p.valid.valid p.may;
    owed = ap (λ (x : Machine). tail_of x.held.log) after ∙ owed-none m.held.pages m.held.log plan.trans.0 t.sets.items p.valid.valid p.may p.tidy.owed;
  }

  pub prepared_whole : (fed : Fed) (new : Machine) → Feeds m plan.piece.items (feed_refusal m) (Ok fed) new → IsPrepared m t (record { trans = plan.trans; lsn = plan.lsn; end = plan.end }) new
  prepared_whole fed new f =
      in_log new (feed_done m (prepared m.held.log plan.trans.0 t.sets.items) plan.piece.items p.spelled (planned m closing.Prepare t plan p) fed new p.takes f)

  -- the prepare record is held
  pub prepared_past : (refusal : FeedFault) (new : Machine) → Feeds m plan.piece.items (feed_refusal m) (Err refusal) new → length t.sets.items < refusal.records → IsPrepared m t (record { trans = plan.trans; lsn = plan.lsn; end = plan.end }) new
  prepared_past refusal new f past =
      let h = held m closing.Prepare t plan p refusal new f in
      let us : List Record = updates m.held.log plan.trans.0 t.sets.items in
      let count : length us ≡ length t.sets.items = length-updates m.held.log plan.trans.0 t.sets.items in
      let longer : length us < length h.front = let c : refusal.records ≡ length h.front = h.count in omega (arith, count, past, c) in
      let whole : h.front ≡ us ++ record_for (m.held.log ++ us) plan.trans.0 Preparing ∷ [] = front_all us (record_for (m.held.log ++ us) plan.trans.0 Preparing) h.front h.more (parts_of m closing.Prepare t plan p refusal new h) longer in
      in_log new (h.after ∙ ap (λ (l : List Record). record m { held = grown m.held l }) (whole ∙ sym (records-parts closing.Prepare m.held.log plan.trans.0 t.sets.items)))
