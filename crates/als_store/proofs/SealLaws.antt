-- The store when its log is sealed, and when the takeover is done.
use Rattle.std.proofs.Common.{◌≡◌, ℕ, ◌+◌, ◌<◌, ◌≤◌, Bool, true, false, List, [], ◌∷◌, ◌++◌, Option, Some, None, refl, sym, ap, subst, ◌∙◌, inl, inr, arith, append-nil}
use Rattle.std.specs.Prelude.{◌*◌, ◌&&◌, ◌||◌, not, nat_le}
use Rattle.std.specs.List.{list_any}
use Rattle.std.proofs.lemmas.Bool.{and_parts, leb-true, le-leb, lt-leb}
use Rattle.als_record.specs.declared.lsn.Lsn.{Lsn}
use Rattle.als_record.specs.declared.record.Record.{Record}
use Rattle.als_record.specs.LogText.{end_of}
use Rattle.als_record.specs.Tail.{tail_of, is_undone, reserve_of, decision}
use Rattle.als_record.specs.Spelling.{record_len}
use Rattle.als_record.specs.Spelling.{IsRecord}
use Rattle.als_record.specs.Table.{table_of, is_prepared, is_closed}
use Rattle.als_record.specs.Validity.{first_bad}
use Rattle.als_record.proofs.Validity.{first_bad-admitted}
use Rattle.als_record.proofs.TailFirst.{tail_of-undone, is_undone-tail_of, tail_of-admitted, tail_of-IsRecord}
use Rattle.als_record.proofs.Reserve.{room-next}
use Rattle.als_record.proofs.Decisions.{decision-admitted, decision-reserved}
use Rattle.als_record.proofs.Unended.{is_closed-table_of}
use Rattle.als_takeover.specs.Next.{first_of, CannotRead}
use Rattle.als_log.specs.declared.fault.Fault.{Fault as LogFault}
use Rattle.als_log.specs.declared.fault.Fault.TheVariants as log_fault
use Rattle.als_log.specs.Outcomes.{ReadFails}
use Rattle.als_analysis.specs.declared.open_row.OpenRow.{OpenRow}
use Rattle.als_analysis.specs.Open.{rows_of}
use Rattle.als_record.proofs.PageLaws.{end_of-push}
use Rattle.als_validator.specs.declared.validator.Validator.{Validator}
use Rattle.als_validator.specs.Validated.{IsValidatorOf, judges}
use Rattle.als_log.specs.Local.{Local, IsLocal, IsFrontEnd}
use Rattle.als_ckpt.specs.declared.phase.Phase.{Phase}
use Rattle.als_ckpt.specs.declared.phase.Phase.TheVariants.{Following, Sealed, Primary}
use Rattle.als_ckpt.specs.declared.region.Region.{Region}
use Rattle.als_ckpt.specs.declared.control_state.ControlState.{ControlState}
use Rattle.als_ckpt.specs.Control.{Controlled, newest, phase_byte, IsPosition, IsSeal, IsLastSeal, IsControlState, Continues, IsControlled, with_state}
use Rattle.als_ckpt.proofs.StateLaws.{Continues-with}
use Rattle.als_epochs.specs.Histories.{IsHistory, RisesFrom, Takes, last_seal}
use Rattle.als_epochs.specs.HistoryLaws.{GoesOn-refl, IsSealed, sealed-history}
use Rattle.als_pool.specs.Queues.{total_waiting}
use Rattle.als_pool.specs.Pooled.{Pooled}
use Rattle.als_reopen.specs.Taken.{Decides, IsNextOfTail, IsTakenOver, IsTaken}
use Rattle.als_store.specs.Takeover.{follows, is_done, GoesOn, AreTaken, is_drained}
use Rattle.als_store.specs.Origin.{Origin}
use Rattle.als_store.specs.Parts.{IsStored, stored_of}
use Rattle.als_store.proofs.DecisionLaws.{decision-IsRecord}
use Rattle.als_store.proofs.TakeoverLaws.{contains_last, follows_low, rest_is_tail, ComesIn, taken_written}
use Rattle.als_store.proofs.StoredParts.{stored-written, stored-torn}
use Rattle.als_tables.specs.declared.commit_count.CommitCount.{CommitCount}

position_raised : (published : Option Region) (mark higher position : ℕ) → mark ≤ higher → IsPosition published mark position → IsPosition published higher position
position_raised None mark higher position le h = h
position_raised (Some region) mark higher position le h = let at : position ≤ mark = h.1 in (h.0, omega (arith, le, at))

sealed_seal : (p : Phase) (mark seal : ℕ) → follows p ≡ false → IsSeal p mark seal → IsSeal Primary mark seal
sealed_seal Following mark seal e h = absurd cc
sealed_seal Sealed mark seal e h = h
sealed_seal Primary mark seal e h = h

sealed_last : (p : Phase) (history : List ℕ) (seal : ℕ) → follows p ≡ false → IsLastSeal p history seal → IsLastSeal Primary history seal
sealed_last Following history seal e h = absurd cc
sealed_last Sealed history seal e h = h
sealed_last Primary history seal e h = h

-- the newest control state, sealed at this offset, with this history
abbrev pub sealing : Controlled → Lsn → List ℕ → ControlState
sealing c end seals = record (newest c) { phase = Sealed; mark = end; seal = end; history = seals }

phase_high : (p : Phase) → phase_byte p ≤ 3
phase_high Following = omega arith
phase_high Sealed = omega arith
phase_high Primary = omega arith

-- a sealed log with nothing of its tail left to append has its whole tail, and nothing was decided since
whole_tail : (p : Phase) (log : List Record) (mark seal : ℕ) → follows p ≡ false → is_done p ≡ false → is_undone log ≡ true → mark ≡ end_of log → IsTaken p log mark seal → IsTakenOver log mark seal
whole_tail Following log mark seal e f none at is = absurd cc
whole_tail Primary log mark seal e f none at is = absurd cc
whole_tail Sealed log mark seal e f none at is =
    let rest : is.rest ≡ [] = sym (rest_is_tail log seal is) ∙ tail_of-undone log none in
    let all : is.undone ≡ tail_of is.sealed = sym (append-nil is.undone) ∙ ap (λ (xs : List Record). is.undone ++ xs) (sym rest) ∙ is.tail in
    let parts : log ≡ is.sealed ++ tail_of is.sealed = is.parts ∙ ap (λ (xs : List Record). is.sealed ++ xs) all in
    record {
      sealed = is.sealed;
      more = [];
      parts = parts ∙ sym (append-nil (is.sealed ++ tail_of is.sealed));
      ends = is.ends;
      whole = omega (arith, at, ap end_of parts);
      decided = tt;
    }

pub record Drained (log : List Record) (waiting acknowledged : ℕ) : Type 0 where
  pub undone : is_undone log ≡ true
  pub waits : waiting ≡ 0
  pub whole : end_of log ≤ acknowledged

drained_parts : (log : List Record) (waiting acknowledged : ℕ) → (is_undone log && nat_le waiting 0 && nat_le (end_of log) acknowledged) ≡ true → Drained log waiting acknowledged
drained_parts log waiting acknowledged e =
    let first = and_parts (is_undone log && nat_le waiting 0) (nat_le (end_of log) acknowledged) e in
    let second = and_parts (is_undone log) (nat_le waiting 0) first.0 in
    record { undone = second.0; waits = omega (arith, leb-true waiting 0 second.1); whole = leb-true (end_of log) acknowledged first.1 }

first_cons : (rs : List Record) (r : Record) → first_of rs ≡ Some r → (rest : List Record) × (rs ≡ r ∷ rest)
first_cons [] r e = absurd (cc e)
first_cons (x ∷ rs) r e = let same : x ≡ r = cc e in (rs, ap (λ (y : Record). y ∷ rs) same)

module _ (pages : ℕ) (held : CommitCount) (l : Local) (c : Controlled) (pool : Pooled) (validator : Validator) (broken : Bool) (origin : Origin) (recovering : Bool) (h : IsStored pages l held c pool validator broken origin recovering) (local : IsLocal l) (controlled : IsControlled c) where
  now : IsControlState c.log_bytes (newest c)
  now = controlled.fits (newest c) (contains_last c.synced c.since)

  end_front : (at : Lsn) → at.0 ≡ end_of l.log → IsFrontEnd l.log at.0
  end_front at is = record { front = l.log; rest = []; parts = sym (append-nil l.log); ends = sym is }

  -- ---- the seal

  pub seal_rises : (end : Lsn) → end.0 ≡ end_of l.log → (newest c).mark.0 ≤ end.0
  seal_rises end is = omega (arith, is, h.marks.newest_synced, local.synced, local.written)

  pub seal_continues : (end : Lsn) (seals : List ℕ) → end.0 ≡ end_of l.log → seals ≡ (newest c).history ++ end.0 ∷ [] → Continues (newest c) (sealing c end seals)
  seal_continues end seals is more = Continues-with (newest c) (sealing c end seals) end.0 [] more (seal_rises end is)

  pub seal_fits : (end : Lsn) (seals : List ℕ) → end.0 ≡ end_of l.log → Takes (newest c).history end.0 → seals ≡ (newest c).history ++ end.0 ∷ [] → IsControlState c.log_bytes (sealing c end seals)
  seal_fits end seals is takes more =
      let rises : (newest c).mark.0 ≤ end.0 = seal_rises end is in
      let low : 16 ≤ end.0 = omega (arith, now.begins, rises) in
      let made : IsSealed (newest c).history end.0 = sealed-history (newest c).history end.0 now.history now.lsns takes low (omega (arith, is, local.fits, local.few)) in
      record {
        begins = omega (arith, now.begins, rises);
        in_log = omega (arith, is, local.fits, h.marks.bytes);
        position = position_raised (newest c).published (newest c).mark.0 end.0 (newest c).position.0 rises now.position;
        seal = (low, omega arith);
        history = subst IsHistory (sym more) made.history;
        lsns = subst (RisesFrom 16) (sym more) made.lsns;
        last = ap last_seal more ∙ made.last;
      }

  seal_on : (end : Lsn) (seals : List ℕ) → follows (newest c).phase ≡ true → seals ≡ (newest c).history ++ end.0 ∷ [] → GoesOn (newest c) (sealing c end seals)
  seal_on end seals on more = record {
    phase = omega (arith, follows_low (newest c).phase on);
    seal = λ past. absurd (omega (arith, past, follows_low (newest c).phase on));
    history = (end.0 ∷ [], more);
  }

  seal_taken : (end : Lsn) (seals : List ℕ) → end.0 ≡ end_of l.log → follows (newest c).phase ≡ true → seals ≡ (newest c).history ++ end.0 ∷ [] → AreTaken l.log c.synced c.since recovering (total_waiting pool.waits)
      → AreTaken l.log c.synced (c.since ++ sealing c end seals ∷ []) recovering (total_waiting pool.waits)
  seal_taken end seals is on more taken = taken_written l.log c.synced c.since recovering (total_waiting pool.waits) taken (sealing c end seals)
      (seal_on end seals on more)
      (record { sealed = l.log; undone = []; rest = tail_of l.log; parts = sym (append-nil l.log); ends = sym is; tail = refl })
      (omega (arith, is))
      (λ ready done. absurd cc)

  pub stored-sealed : (c' : Controlled) (end : Lsn) (seals : List ℕ) (validator' : Validator) → IsValidatorOf pages validator' l.log → judges validator' ≡ false → end.0 ≡ end_of l.log → end_of l.log ≤ l.synced → follows (newest c).phase ≡ true → seals ≡ (newest c).history ++ end.0 ∷ [] → c' ≡ with_state c (sealing c end seals) → IsStored pages l held c' pool validator' broken origin recovering
  stored-sealed c' end seals validator' judged judging is low on more e = stored-written pages held l c pool validator broken origin recovering h c' (sealing c end seals) validator' judged judging local (end_front end is) (omega (arith, is, low)) (seal_on end seals on more) (seal_taken end seals is on more) e

  pub stored-seal_torn : (c' : Controlled) (end : Lsn) (seals : List ℕ) (validator' : Validator) → IsValidatorOf pages validator' l.log → judges validator' ≡ false → end.0 ≡ end_of l.log → end_of l.log ≤ l.synced → follows (newest c).phase ≡ true → seals ≡ (newest c).history ++ end.0 ∷ [] → c' ≡ record (with_state c (sealing c end seals)) { sure = false; failures = c'.failures } → IsStored pages l held c' pool validator' true origin recovering
  stored-seal_torn c' end seals validator' judged judging is low on more e = stored-torn pages held l c pool validator broken origin recovering h c' (sealing c end seals) validator' judged judging local (end_front end is) (omega (arith, is, low)) (seal_on end seals on more) (seal_taken end seals is on more) e

  -- ---- the end of a takeover

  pub finish_fits : follows (newest c).phase ≡ false → IsControlState c.log_bytes (record (newest c) { phase = Primary })
  finish_fits past = record {
    begins = now.begins;
    in_log = now.in_log;
    position = now.position;
    seal = sealed_seal (newest c).phase (newest c).mark.0 (newest c).seal.0 past now.seal;
    history = now.history;
    lsns = now.lsns;
    last = sealed_last (newest c).phase (newest c).history (newest c).seal.0 past now.last;
  }

  module _ (past : follows (newest c).phase ≡ false) (unfinished : is_done (newest c).phase ≡ false) (drained : is_drained (stored_of pages l c pool broken origin recovering) ≡ true) where
    parts_of : Drained l.log (total_waiting pool.waits) c.synced.mark.0
    parts_of = drained_parts l.log (total_waiting pool.waits) c.synced.mark.0 drained

    mark_is : (newest c).mark.0 ≡ end_of l.log
    mark_is = omega (arith, parts_of.whole, controlled.from_synced (newest c) (contains_last c.synced c.since), h.marks.newest_synced, local.synced, local.written)

    finish_on : GoesOn (newest c) (record (newest c) { phase = Primary })
    finish_on = record { phase = phase_high (newest c).phase; seal = λ on. refl; history = GoesOn-refl (newest c).history }

    finish_taken : AreTaken l.log c.synced c.since recovering (total_waiting pool.waits) → AreTaken l.log c.synced (c.since ++ record (newest c) { phase = Primary } ∷ []) recovering (total_waiting pool.waits)
    finish_taken taken = taken_written l.log c.synced c.since recovering (total_waiting pool.waits) taken (record (newest c) { phase = Primary })
        finish_on
        (whole_tail (newest c).phase l.log (newest c).mark.0 (newest c).seal.0 past unfinished parts_of.undone mark_is taken.now)
        (omega (arith, mark_is))
        (λ ready done undecided. parts_of.waits)

    pub stored-finished : (c' : Controlled) → c' ≡ with_state c (record (newest c) { phase = Primary }) → IsStored pages l held c' pool validator broken origin recovering
    stored-finished c' e = stored-written pages held l c pool validator broken origin recovering h c' (record (newest c) { phase = Primary }) validator h.judged (h.judging ∙ past) local (end_front (newest c).mark mark_is) h.marks.newest_synced finish_on finish_taken e

    pub stored-finish_torn : (c' : Controlled) → c' ≡ record (with_state c (record (newest c) { phase = Primary })) { sure = false; failures = c'.failures } → IsStored pages l held c' pool validator true origin recovering
    stored-finish_torn c' e = stored-torn pages held l c pool validator broken origin recovering h c' (record (newest c) { phase = Primary }) validator h.judged (h.judging ∙ past) local (end_front (newest c).mark mark_is) h.marks.newest_synced finish_on finish_taken e

  -- ---- the next record

  -- it stands at the log's end, fits its spelling and may follow; the device has room for it, and for what a takeover and decisions then append
  pub record Next (r : Record) : Type 0 where
    pub fits : IsRecord pages r
    pub at : r.lsn.0 ≡ end_of l.log
    pub good : first_bad l.log r ≡ None
    pub left : end_of l.log + record_len r + reserve_of (l.log ++ r ∷ []) ≤ 512 * l.blocks

  -- the room that is kept behind the log
  kept_room : end_of l.log + reserve_of l.log ≤ 512 * l.blocks
  kept_room = h.fit l.log [] (sym (append-nil l.log)) (omega (arith, controlled.from_synced (newest c) (contains_last c.synced c.since), h.marks.newest_synced, local.synced, local.written))

  next_in_tail : (r : Record) → IsNextOfTail l.log r → Next r
  next_in_tail r n =
      let a = tail_of-admitted l.log r n.rest n.first h.is_log.valid in
      record {
        fits = tail_of-IsRecord pages l.log r n.rest h.is_log (omega (arith, local.fits, local.few)) n.first;
        at = a.place;
        good = first_bad-admitted l.log r a;
        left = omega (arith, end_of-push l.log r, room-next l.log r n.rest n.first, kept_room);
      }

  next_decision : (r : Record) → Decides l.log r → Next r
  next_decision r d = subst Next (sym d.is) (
      let made : Record = decision l.log r.trans.0 r.body in
      let a = decision-admitted l.log r.trans.0 d.doubt h.is_log.valid r.body d.decides in
      record {
        fits = decision-IsRecord pages l.log r.trans.0 r.body h.is_log (omega (arith, local.fits, local.few)) d.doubt d.decides;
        at = refl;
        good = first_bad-admitted l.log made a;
        left = omega (arith, decision-reserved l.log r.trans.0 d.doubt r.body d.decides, kept_room);
      }
      )

  pub next_of : (r : Record) → ComesIn (newest c).phase l.log r → Next r
  next_of r (inl next) = next_in_tail r next
  next_of r (inr d) = next_decision r d.1

-- the first of a tail is the next
pub next_first : (log : List Record) (r : Record) → first_of (tail_of log) ≡ Some r → IsNextOfTail log r
next_first log r e = let f = first_cons (tail_of log) r e in record { rest = f.0; first = f.1 }

-- ---- whether something of the tail is left to append

pub none_first : (log : List Record) → None ≡ first_of (tail_of log) → is_undone log ≡ true
none_first log e = is_undone-tail_of log (no_first (tail_of log) e)
  where
    no_first : (rs : List Record) → None ≡ first_of rs → rs ≡ []
    no_first [] e = refl
    no_first (r ∷ rs) e = absurd (cc e)

pub some_left : (log : List Record) (r : Record) (rest : List Record) → tail_of log ≡ r ∷ rest → is_undone log ≡ false
some_left log r rest e = go (is_undone log) (λ u. let wrong : r ∷ rest ≡ [] = sym e ∙ tail_of-undone log u in cc wrong)
  where
    go : (b : Bool) → (b ≡ true → ⊥) → b ≡ false
    go true n = absurd (n refl)
    go false n = refl

-- a takeover has something left to append where not every row is of a transaction in doubt
pub rows_left : (log : List Record) (entries : List OpenRow) → rows_of entries ≡ table_of log → list_any (λ o. not (is_prepared o.row.state)) entries ≡ not (is_undone log)
unfolding is_closed
rows_left log entries e = open_rows entries ∙ ap (λ rows. not (is_closed rows)) e ∙ ap not (is_closed-table_of log)
  where
    either : (prepared closed : Bool) → (not prepared || not closed) ≡ not (prepared && closed)
    either true closed = refl
    either false closed = refl

    open_rows : (os : List OpenRow) → list_any (λ o. not (is_prepared o.row.state)) os ≡ not (is_closed (rows_of os))
    open_rows [] = refl
    open_rows (o ∷ os) = ap (λ b. not (is_prepared o.row.state) || b) (open_rows os) ∙ either (is_prepared o.row.state) (is_closed (rows_of os))

-- a record that could not be read: the device failed
pub read_fails : (e : LogFault) (old new : Local) → CannotRead e old new → ReadFails old new
read_fails log_fault.Device old new h = h
read_fails log_fault.Memory old new h = absurd h
read_fails log_fault.NothingToDo old new h = absurd h
read_fails log_fault.LogFull old new h = absurd h

-- ---- whether a takeover can end

pub left_not_drained : (undone waits whole : Bool) → true ≡ not undone → false ≡ (undone && waits && whole)
left_not_drained true waits whole e = absurd cc
left_not_drained false waits whole e = refl

pub waits_not_drained : (ended : Bool) (waiting : ℕ) (whole : Bool) → 0 < waiting → false ≡ (ended && nat_le waiting 0 && whole)
waits_not_drained true waiting whole lt = rw (lt-leb waiting 0 lt) refl
waits_not_drained false waiting whole lt = refl

pub drained_is : (ended : Bool) (waiting end acknowledged end' acknowledged' : ℕ) → false ≡ not ended → waiting ≤ 0 → end' ≡ end → acknowledged' ≡ acknowledged
    → nat_le end' acknowledged' ≡ (ended && nat_le waiting 0 && nat_le end acknowledged)
drained_is true waiting end acknowledged end' acknowledged' e le p q = rw (le-leb waiting 0 le, p, q) refl
drained_is false waiting end acknowledged end' acknowledged' e le p q = absurd cc
