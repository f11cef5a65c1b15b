-- A transaction that was planned, fed, however it closes.
use Rattle.std.proofs.Common.{◌≡◌, ℕ, suc, ◌+◌, ◌*◌, ◌<◌, ◌≤◌, ◌^◌, Bool, true, false, List, [], ◌∷◌, ◌++◌, length, map, take, Err, refl, sym, ap, subst, ◌∙◌, append_assoc, arith}
use Rattle.std.proofs.lemmas.List.{take_at}
use Rattle.als_record.specs.declared.record.Record.{Record}
use Rattle.als_record.specs.Spelling.{record_len}
use Rattle.als_record.specs.LogText.{end_of}
use Rattle.als_record.specs.Transactions.{is_some_left}
use Rattle.als_record.specs.Validity.{is_valid, may_follow_all, IsValidLog}
use Rattle.als_record.specs.Commits.{Write, commits_of}
use Rattle.als_record.specs.Tail.{tail_of, reserve_of}
use Rattle.als_record.proofs.Places.{end_of-push}
use Rattle.als_writing.specs.Writing.{Move, Writes, Commits as Committing, Ends, Prepares as Preparing, record_for, moved, updates, transaction, prepared, rollback, room_for, MayWrite}
use Rattle.als_writing.proofs.Moved.{moved-split, take-updates}
use Rattle.als_writing.proofs.Updates.{Writing-updates}
use Rattle.als_writing.proofs.Committing.{may_follow_all-transaction}
use Rattle.als_writing.proofs.Preparing.{may_follow_all-prepared, IsValidLog-prepared, room-prepared_front}
use Rattle.als_writing.proofs.Fitting.{IsValidLog-transaction}
use Rattle.als_writing.proofs.Rolling.{MayWrite-front}
use Rattle.als_writing.proofs.Ahead.{room-front}
use Rattle.als_writing.proofs.Owed.{tail_of-front}
use Rattle.als_store.specs.Stored.{Stored, IsTooLong}
use Rattle.als_engine.specs.declared.fault.Fault.TheVariants as fault
use Rattle.als_engine.specs.declared.fed.FeedFault.{FeedFault}
use Rattle.als_engine.specs.Machine.{Machine}
use Rattle.als_engine.specs.Refusals.{feed_refusal}
use Rattle.als_engine.specs.Feeds.{grown, Feeds}
use Rattle.als_writer.specs.declared.closing.Closing.{Closing}
use Rattle.als_writer.specs.declared.closing.Closing.TheVariants as closing
use Rattle.als_writer.specs.declared.refusal.Refusal.{Refusal}
use Rattle.als_writer.specs.declared.refusal.Refusal.TheVariants.{Invalid, State, Untidy, Held, NotAsAsked, NumbersSpent, TooMany, LogFull, Memory, Unplanned}
use Rattle.als_writer.specs.declared.planning.Plan.{Plan}
use Rattle.als_writer.specs.declared.transaction.Transaction.{Transaction}
use Rattle.als_writer.specs.Closing.{records_for, extra_of}
use Rattle.als_writer.specs.Planning.{IsPlan}
use Rattle.als_writer.specs.Committing.{IsCut, FeedRefused, NotWritten}
use Rattle.als_writer.specs.Preparing.{NotPrepared}
use Rattle.als_writer.proofs.Feeding.{IsPlanned, IsHeldFront, grown_none, feed_refused}

-- ---- lists

-- a front that is no longer than the records is a front of them
front_within : (us rest front more : List Record) → front ++ more ≡ us ++ rest → length front ≤ length us → front ≡ take (length front) us
front_within us rest [] more same le = refl
front_within [] rest (x ∷ front) more same le = absurd (omega arith)
front_within (u ∷ us) rest (x ∷ front) more same le =
    let a : x ≡ u = cc same in
    let b : front ++ more ≡ us ++ rest = cc same in
    let shorter : length front ≤ length us = omega arith in
    ap (λ (z : Record). z ∷ front) a ∙ ap (λ (l : List Record). u ∷ l) (front_within us rest front more b shorter)

some_left : (us : List Record) → 0 < length us → is_some_left us ≡ true
some_left [] lt = absurd (omega arith)
some_left (u ∷ us) lt = refl

length-moved : (t : ℕ) (log : List Record) (moves : List Move) → length (moved log t moves) ≡ length moves
unfolding moved
length-moved t log [] = refl
length-moved t log (move ∷ moves) = ap suc (length-moved t (log ++ record_for log t move ∷ []) moves)

length-writes : (ws : List Write) → length (map Writes ws) ≡ length ws
length-writes [] = refl
length-writes (w ∷ ws) = ap suc (length-writes ws)

pub length-updates : (log : List Record) (t : ℕ) (ws : List Write) → length (updates log t ws) ≡ length ws
unfolding updates
length-updates log t ws = length-moved t log (map Writes ws) ∙ length-writes ws

-- ---- the records of a transaction

-- those behind its updates
abbrev pub closed_by : Closing → List Record → ℕ → List Record
closed_by closing.Commit updated t = record_for updated t Committing ∷ record_for (updated ++ record_for updated t Committing ∷ []) t Ends ∷ []
closed_by closing.Prepare updated t = record_for updated t Preparing ∷ []

pub records-parts : (by : Closing) (log : List Record) (t : ℕ) (ws : List Write) → records_for by log t ws ≡ updates log t ws ++ closed_by by (log ++ updates log t ws) t
unfolding transaction prepared updates moved
records-parts closing.Commit log t ws = moved-split t (map Writes ws) (Committing ∷ Ends ∷ []) log
records-parts closing.Prepare log t ws = moved-split t (map Writes ws) (Preparing ∷ []) log

records-valid : (by : Closing) (pages : ℕ) (log : List Record) (t : ℕ) (ws : List Write) → IsValidLog pages log → MayWrite pages log t ws → end_of (log ++ records_for by log t ws) ≤ 2 ^ 64 → IsValidLog pages (log ++ records_for by log t ws)
records-valid closing.Commit pages log t ws v may short = IsValidLog-transaction pages log t ws v may short
records-valid closing.Prepare pages log t ws v may short = IsValidLog-prepared pages log t ws v may short

records-each : (by : Closing) (pages : ℕ) (log : List Record) (t : ℕ) (ws : List Write) → is_valid log ≡ true → MayWrite pages log t ws → may_follow_all log (records_for by log t ws) ≡ true
records-each closing.Commit pages log t ws v may = may_follow_all-transaction pages log t ws v may
records-each closing.Prepare pages log t ws v may = may_follow_all-prepared pages log t ws v may

records-room : (by : Closing) (pages : ℕ) (log : List Record) (t : ℕ) (ws : List Write) → is_valid log ≡ true → 0 < length ws → MayWrite pages log t ws → (k : ℕ) → end_of (log ++ take k (records_for by log t ws)) + reserve_of (log ++ take k (records_for by log t ws)) ≤ end_of log + reserve_of log + room_for log t ws + extra_of by
records-room by pages log t [] v some may k = absurd (omega arith)
records-room closing.Commit pages log t (w ∷ rest) v some may k = let a = room-front pages log t v w rest may k in omega (arith, a)
records-room closing.Prepare pages log t (w ∷ rest) v some may k = room-prepared_front pages log t v w rest may k

-- ---- a plan

module _ (m : Machine) (by : Closing) (t : Transaction) (plan : Plan) (p : IsPlan m by t plan) where
  fits : (front : List Record) (r : Record) (more : List Record) → records_for by m.held.log plan.trans.0 t.sets.items ≡ front ++ r ∷ more → IsTooLong (grown m.held front) r → ⊥
  fits front r more e long =
      let log : List Record = m.held.log in
      let all : List Record = records_for by m.held.log plan.trans.0 t.sets.items in
      let k : ℕ = length (front ++ r ∷ []) in
      let cut : take k all ≡ front ++ r ∷ [] = ap (take k) (e ∙ sym (append_assoc front (r ∷ []) more)) ∙ take_at (front ++ r ∷ []) more k refl in
      let room : end_of (log ++ take k all) + reserve_of (log ++ take k all) ≤ end_of log + reserve_of log + room_for log plan.trans.0 t.sets.items + extra_of by = records-room by m.held.pages log plan.trans.0 t.sets.items p.valid.valid p.some p.may k in
      let same : log ++ take k all ≡ (log ++ front) ++ r ∷ [] = ap (λ (l : List Record). log ++ l) cut ∙ sym (append_assoc log front (r ∷ [])) in
      let ends : end_of (log ++ take k all) ≡ end_of (log ++ front) + record_len r = ap end_of same ∙ end_of-push (log ++ front) r in
      let reserve : reserve_of (log ++ take k all) ≡ reserve_of ((log ++ front) ++ r ∷ []) = ap reserve_of same in
      let over : 512 * m.held.blocks < end_of (log ++ front) + record_len r + reserve_of ((log ++ front) ++ r ∷ []) = long in
      let free : end_of log + reserve_of log + room_for log plan.trans.0 t.sets.items + extra_of by ≤ 512 * m.held.blocks = p.fits in
      absurd (omega (arith, room, ends, reserve, over, free))

  pub planned : IsPlanned m (records_for by m.held.log plan.trans.0 t.sets.items)
  planned = record {
    partial = p.tidy.partial;
    text = (records-valid by m.held.pages m.held.log plan.trans.0 t.sets.items p.valid p.may p.short).text;
    each = records-each by m.held.pages m.held.log plan.trans.0 t.sets.items p.valid.valid p.may;
    fits = fits;
  }

  pub held : (refusal : FeedFault) (new : Machine) → Feeds m plan.piece.items (feed_refusal m) (Err refusal) new → IsHeldFront m (records_for by m.held.log plan.trans.0 t.sets.items) plan.piece.items p.spelled planned refusal new
  held refusal new f = feed_refused m (records_for by m.held.log plan.trans.0 t.sets.items) plan.piece.items p.spelled planned refusal new p.takes f

  pub fed_memory : (refusal : FeedFault) (new : Machine) → Feeds m plan.piece.items (feed_refusal m) (Err refusal) new → refusal.fault ≡ fault.Memory
  fed_memory refusal new f = (held refusal new f).cause

  pub parts_of : (refusal : FeedFault) (new : Machine) → (h : IsHeldFront m (records_for by m.held.log plan.trans.0 t.sets.items) plan.piece.items p.spelled planned refusal new) → h.front ++ h.more ≡ updates m.held.log plan.trans.0 t.sets.items ++ closed_by by (m.held.log ++ updates m.held.log plan.trans.0 t.sets.items) plan.trans.0
  parts_of refusal new h = sym h.parts ∙ records-parts by m.held.log plan.trans.0 t.sets.items

  -- some of the updates are held
  fed_cut : (refusal : FeedFault) (new : Machine) → Feeds m plan.piece.items (feed_refusal m) (Err refusal) new → refusal.records ≤ length t.sets.items → 0 < refusal.records → IsCut m t new
  fed_cut refusal new f within some =
      let h = held refusal new f in
      let us : List Record = updates m.held.log plan.trans.0 t.sets.items in
      let count : length us ≡ length t.sets.items = length-updates m.held.log plan.trans.0 t.sets.items in
      let c : refusal.records ≡ length h.front = h.count in
      let shorter : length h.front ≤ length us = omega (arith, count, within, c) in
      let is : h.front ≡ take (length h.front) us = front_within us (closed_by by (m.held.log ++ us) plan.trans.0) h.front h.more (parts_of refusal new h) shorter in
      let after : new ≡ record m { held = grown m.held (take (length h.front) us) } = h.after ∙ ap (λ (l : List Record). record m { held = grown m.held l }) is in
      let left : is_some_left (take (length h.front) us) ≡ true = subst (λ (l : List Record). is_some_left l ≡ true) is (some_left h.front (omega (arith, some, c))) in
      record {
        number = plan.trans.0;
        n = length h.front;
        above = p.number;
        may = p.may;
        after = after;
        commits =
            ap (λ (x : Machine). commits_of x.held.log) after
            ∙ ap (λ (l : List Record). commits_of (m.held.log ++ l)) (take-updates (length h.front) m.held.log plan.trans.0 t.sets.items)
            ∙ (Writing-updates m.held.pages m.held.log plan.trans.0 (take (length h.front) t.sets.items) p.valid.valid (MayWrite-front m.held.pages m.held.log plan.trans.0 t.sets.items (length h.front) p.may)).commits;
        owed =
            ap (λ (x : Machine). tail_of x.held.log) after
            ∙ tail_of-front m.held.pages m.held.log plan.trans.0 t.sets.items p.valid.valid p.may p.tidy.owed (length h.front) left
            ∙ ap (λ (x : Machine). rollback x.held.log plan.trans.0 (take (length h.front) us)) (sym after);
      }

  -- nothing is held
  fed_none : (refusal : FeedFault) (new : Machine) → Feeds m plan.piece.items (feed_refusal m) (Err refusal) new → refusal.records ≡ 0 → new ≡ m
  fed_none refusal new f zero' =
      let h = held refusal new f in
      let c : refusal.records ≡ length h.front = h.count in
      let none : h.front ≡ [] = nothing h.front (omega (arith, c, zero')) in
      h.after ∙ ap (λ (l : List Record). record m { held = grown m.held l }) none ∙ ap (λ (s : Stored). record m { held = s }) (grown_none m.held)
    where
      nothing : (us : List Record) → length us ≡ 0 → us ≡ []
      nothing [] e = refl
      nothing (u ∷ us) e = absurd (omega arith)

  pub fed_refused : (refusal : FeedFault) (new : Machine) (owed : Bool) → Feeds m plan.piece.items (feed_refusal m) (Err refusal) new → refusal.records ≤ length t.sets.items → (owed ≡ true → 0 < refusal.records) → (owed ≡ false → refusal.records ≡ 0) → FeedRefused m t (Memory owed) new
  fed_refused refusal new true f within some none = fed_cut refusal new f within (some refl)
  fed_refused refusal new false f within some none = fed_none refusal new f (none refl)

-- ---- what is refused

pub fed_not_written : (m : Machine) (t : Transaction) (r : Refusal) (new : Machine) → FeedRefused m t r new → NotWritten m t r new
fed_not_written m t (Memory true) new f = f
fed_not_written m t (Memory false) new f = (f, refl)
fed_not_written m t (Invalid flaw) new f = absurd f
fed_not_written m t (State fault) new f = absurd f
fed_not_written m t Untidy new f = absurd f
fed_not_written m t (Held key by) new f = absurd f
fed_not_written m t (NotAsAsked failing) new f = absurd f
fed_not_written m t NumbersSpent new f = absurd f
fed_not_written m t TooMany new f = absurd f
fed_not_written m t LogFull new f = absurd f
fed_not_written m t (Unplanned fault) new f = absurd f

pub fed_not_prepared : (m : Machine) (t : Transaction) (r : Refusal) (new : Machine) → FeedRefused m t r new → NotPrepared m t r new
fed_not_prepared m t (Memory true) new f = f
fed_not_prepared m t (Memory false) new f = (f, refl)
fed_not_prepared m t (Invalid flaw) new f = absurd f
fed_not_prepared m t (State fault) new f = absurd f
fed_not_prepared m t Untidy new f = absurd f
fed_not_prepared m t (Held key by) new f = absurd f
fed_not_prepared m t (NotAsAsked failing) new f = absurd f
fed_not_prepared m t NumbersSpent new f = absurd f
fed_not_prepared m t TooMany new f = absurd f
fed_not_prepared m t LogFull new f = absurd f
fed_not_prepared m t (Unplanned fault) new f = absurd f
