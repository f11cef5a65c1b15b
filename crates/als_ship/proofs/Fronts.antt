-- What a standby holds stays a front of the text of its epoch, while it takes bytes of that epoch.
use Rattle.std.proofs.Common.{◌≡◌, ℕ, ◌+◌, ◌-◌, ◌<◌, ◌≤◌, List, [], ◌∷◌, ◌++◌, length, take, drop, Bool, true, false, cond, Option, None, Some, Result, Ok, Err, refl, subst, sym, ap, ◌∙◌, append_assoc, append-nil, length-append, drop_of_length-le, inl, inr, arith}
use Rattle.std.specs.Prelude.{◌⊎◌}
use Rattle.std.proofs.lemmas.List.{drop-drop, drop-take, drop_at, take-append-drop}
use Rattle.std.proofs.lemmas.Bool.{cases_lt, cases_Bool, false≢true}
use Rattle.als_record.specs.declared.lsn.Lsn.{Lsn}
use Rattle.als_record.specs.declared.record.Record.{Record}
use Rattle.als_record.specs.LogText.{header_bytes, spellings, log_text, end_of}
use Rattle.als_record.proofs.HeaderLaws.{length-header_bytes}
use Rattle.als_record.proofs.LogLaws.{spellings-append, end_of_is}
use Rattle.als_epochs.specs.Histories.{GoesOn}
use Rattle.als_store.specs.Takeover.{history_of}
use Rattle.als_engine.specs.declared.fault.Fault.{Fault as EngineFault}
use Rattle.als_engine.specs.declared.fault.Fault.TheVariants.{Stopped}
use Rattle.als_engine.specs.declared.fed.Fed.{Fed}
use Rattle.als_engine.specs.declared.fed.FeedFault.{FeedFault}
use Rattle.als_engine.specs.Machine.{Machine, IsRunning, IsStopped}
use Rattle.als_engine.specs.Feeds.{TakesPiece, FeedsFront, FeedsAll, refused_whole}
use Rattle.als_engine.specs.Refusals.{feed_refusal, refusal}
use Rattle.als_engine.specs.declared.step.Step.TheVariants as step
use Rattle.als_engine.specs.Events.{DropsPartial}
use Rattle.als_wire.specs.Frames.{IsHead}
use Rattle.als_ship.specs.declared.fault.Fault.{Fault}
use Rattle.als_ship.specs.declared.fault.Fault.TheVariants.{BadHeader, Memory, Gap, BadFrame, Diverged, Cut, Stream, OtherEpoch, Refused}
use Rattle.als_ship.proofs.LogForcing.{split_option}
use Rattle.als_ship.specs.Wire.{bytes_at}
use Rattle.als_ship.specs.Follows.{held_text, position, epoch_of, IsFront, HoldsFront, WasResynced, FeedsRest, Takes, SameText, FeedsOnce}

-- ---- fronts

pub front_less : (xs more text : List ℕ) → IsFront (xs ++ more) text → IsFront xs text
front_less xs more text front = (more ++ front.0, front.1 ∙ append_assoc xs more front.0)

pub front_same : (xs ys text : List ℕ) → xs ≡ ys → IsFront xs text → IsFront ys text
front_same xs ys text e front = subst (λ (zs : List ℕ). IsFront zs text) e front

-- true bytes that begin at or below the end of a front make it longer, by what is past it
front_grown : (held bytes text : List ℕ) (offset : ℕ) → bytes_at text offset (length bytes) ≡ bytes → offset ≤ length held → length held - offset < length bytes → IsFront held text
    → IsFront (held ++ drop (length held - offset) bytes) text
front_grown held bytes text offset holds low some front =
    let k = length held - offset in
    let m = length bytes - k in
    let rest = front.0 in
    let split : k + m ≡ length bytes = omega (arith, some) in
    let past : drop k bytes ≡ take m rest =
    ap (drop k) (sym holds)
    ∙ ap (λ (n : ℕ). drop k (take n (drop offset text))) (sym split)
    ∙ drop-take k m (drop offset text)
    ∙ ap (take m) (drop-drop k offset text ∙ ap (λ (n : ℕ). drop n text) (omega (arith, low)) ∙ ap (drop (length held)) front.1 ∙ drop_at held rest (length held) refl) in (
      drop m rest,
      front.1 ∙ ap (λ (xs : List ℕ). held ++ xs) (sym (take-append-drop m rest)) ∙ sym (append_assoc held (take m rest) (drop m rest)) ∙ ap (λ (xs : List ℕ). (held ++ xs) ++ drop m rest) (sym past),
    )

-- ---- feeds

grown_text : (pages : ℕ) (log records : List Record) (partial piece rest : List ℕ) → partial ++ piece ≡ spellings records ++ rest → log_text pages (log ++ records) ++ rest ≡ (log_text pages log ++ partial) ++ piece
grown_text pages log records partial piece rest e =
    let h = header_bytes pages in
    let s = spellings log in
    let r = spellings records in
    ap (λ (xs : List ℕ). (h ++ xs) ++ rest) (spellings-append log records)
    ∙ ap (λ (xs : List ℕ). xs ++ rest) (sym (append_assoc h s r))
    ∙ append_assoc (h ++ s) r rest
    ∙ ap (λ (xs : List ℕ). (h ++ s) ++ xs) (sym e)
    ∙ sym (append_assoc (h ++ s) partial piece)

-- the held text, and bytes behind it, are the old held text and the piece
abbrev pub Goes : Machine → List ℕ → Machine → Type 0
Goes old piece new = (rest : List ℕ) × (held_text new ++ rest ≡ held_text old ++ piece)

-- a piece was taken: the history stays, and whether the standby has stopped
record Taken (old : Machine) (piece : List ℕ) (new : Machine) : Type 0 where
  pub goes : Goes old piece new
  pub history : history_of new.held ≡ history_of old.held
  pub broken : new.held.broken ≡ old.held.broken

goes_all : (old new : Machine) (piece : List ℕ) (fed : Fed) → FeedsAll old piece fed new → Taken old piece new
goes_all old new piece fed f = record {
  goes = ([], ap (λ (m : Machine). held_text m ++ []) f.after ∙ append-nil (log_text old.held.pages (old.held.log ++ f.records) ++ f.rest) ∙ grown_text old.held.pages old.held.log f.records old.partial piece f.rest f.split.whole);
  history = ap (λ (m : Machine). history_of m.held) f.after;
  broken = ap (λ (m : Machine). m.held.broken) f.after;
}

goes_front : (old new : Machine) (piece : List ℕ) (refusal : FeedFault) → FeedsFront old piece refusal new → Taken old piece new
goes_front old new piece refusal f = record {
  goes = (f.rest, ap (λ (m : Machine). held_text m ++ f.rest) f.after ∙ ap (λ (xs : List ℕ). xs ++ f.rest) (append-nil (log_text old.held.pages (old.held.log ++ f.records))) ∙ grown_text old.held.pages old.held.log f.records old.partial piece f.rest f.split.whole);
  history = ap (λ (m : Machine). history_of m.held) f.after;
  broken = ap (λ (m : Machine). m.held.broken) f.after;
}

goes_taken : (old new : Machine) (piece : List ℕ) (result : Result Fed FeedFault) → TakesPiece old piece result new → Taken old piece new
goes_taken old new piece (Ok fed) takes = goes_all old new piece fed takes
goes_taken old new piece (Err refusal) takes = goes_front old new piece refusal takes

gone_front : (old new : Machine) (piece text : List ℕ) → Goes old piece new → IsFront (held_text old ++ piece) text → IsFront (held_text new) text
gone_front old new piece text goes front = front_less (held_text new) goes.0 text (front_same (held_text old ++ piece) (held_text new ++ goes.0) text (sym goes.1) front)

-- ---- what is held, by parts

-- of an equal standby
pub holds_equal : (texts : ℕ → List ℕ) (seals : List ℕ) (old new : Machine) → new ≡ old → HoldsFront texts seals old → HoldsFront texts seals new
holds_equal texts seals old new e h = subst (HoldsFront texts seals) (sym e) h

-- the history stays, and the text of that epoch begins with the log, and with what is held of a standby that runs
pub holds_by : (texts : ℕ → List ℕ) (seals : List ℕ) (old new : Machine) → history_of new.held ≡ history_of old.held → IsFront (log_text new.held.pages new.held.log) (texts (epoch_of old)) → (IsRunning new → IsFront (held_text new) (texts (epoch_of old)))
    → HoldsFront texts seals old → HoldsFront texts seals new
holds_by texts seals old new same log partial h = record {
  history = subst (λ (history : List ℕ). GoesOn history seals) (sym same) h.history;
  log = subst (λ (history : List ℕ). IsFront (log_text new.held.pages new.held.log) (texts (length history))) (sym same) log;
  partial = λ runs. subst (λ (history : List ℕ). IsFront (held_text new) (texts (length history))) (sym same) (partial runs);
}

-- a standby that runs has not stopped before
was_running : (old new : Machine) → (IsStopped old → IsStopped new) → IsRunning new → IsRunning old
was_running old new stopped runs =
    elim (cases_Bool old.held.broken) [
      | inl broken ↦ absurd (false≢true (sym runs ∙ stopped broken))
      | inr other ↦ other
    ]

pub holds_same : (texts : ℕ → List ℕ) (seals : List ℕ) (old new : Machine) → SameText old new → HoldsFront texts seals old → HoldsFront texts seals new
holds_same texts seals old new s h =
    let text : log_text old.held.pages old.held.log ≡ log_text new.held.pages new.held.log =
    ap (λ (pages : ℕ). log_text pages old.held.log) (sym s.pages) ∙ ap (λ (log : List Record). log_text new.held.pages log) (sym s.log) in
    let held : held_text old ≡ held_text new = ap (λ (xs : List ℕ). xs ++ old.partial) text ∙ ap (λ (xs : List ℕ). log_text new.held.pages new.held.log ++ xs) (sym s.partial) in
    holds_by texts seals old new s.history
    (front_same (log_text old.held.pages old.held.log) (log_text new.held.pages new.held.log) (texts (epoch_of old)) text h.log)
    (λ runs. front_same (held_text old) (held_text new) (texts (epoch_of old)) held (h.partial (was_running old new s.stopped runs)))
    h

-- ---- feeds, of a standby whose epoch's text goes on with the piece

-- the first cause of a feed does not stand
not_stopped : (b : Bool) (f : EngineFault) (others : Option EngineFault) → cond b (Some f) others ≡ None → b ≡ false
not_stopped false f others e = refl
not_stopped true f others e = absurd cc

fed_front : (texts : ℕ → List ℕ) (seals : List ℕ) (old new : Machine) (piece : List ℕ) (result : Result Fed FeedFault) → FeedsOnce old piece result new → (IsRunning old → IsFront (held_text old ++ piece) (texts (epoch_of old))) → HoldsFront texts seals old
    → HoldsFront texts seals new
fed_front texts seals old new piece result feeds goes_on h =
    elim (split_option (feed_refusal old) (TakesPiece old piece result new) (λ fault. (result ≡ Err (refused_whole fault)) × (new ≡ old)) feeds) [
      | inl (none, takes) ↦
          let t : Taken old piece new = goes_taken old new piece result takes in
          let runs : IsRunning old = not_stopped old.held.broken Stopped _ none in
          let held : IsFront (held_text new) (texts (epoch_of old)) = gone_front old new piece (texts (epoch_of old)) t.goes (goes_on runs) in
          holds_by texts seals old new t.history (front_less (log_text new.held.pages new.held.log) new.partial (texts (epoch_of old)) held) (λ still. held) h
      | inr (fault, same) ↦ holds_equal texts seals old new same.1 h
    ]

rest_front : (texts : ℕ → List ℕ) (seals : List ℕ) (old new : Machine) (bytes : List ℕ) (result : Result (Unit {0}) EngineFault) → FeedsRest old bytes result new → (IsRunning old → IsFront (held_text old ++ bytes) (texts (epoch_of old)))
    → HoldsFront texts seals old → HoldsFront texts seals new
rest_front texts seals old new [] result f goes_on h = holds_equal texts seals old new f.1 h
rest_front texts seals old new (b ∷ bytes) (Ok done) f goes_on h = fed_front texts seals old new (b ∷ bytes) (Ok f.0) f.1 goes_on h
rest_front texts seals old new (b ∷ bytes) (Err fault) f goes_on h = fed_front texts seals old new (b ∷ bytes) (Err f.0) f.2 goes_on h

-- ---- frames of log bytes

length_log : (m : Machine) → length (log_text m.held.pages m.held.log) ≡ end_of m.held.log
length_log m = omega (arith, length-append (header_bytes m.held.pages) (spellings m.held.log), length-header_bytes m.held.pages, end_of_is m.held.log)

pub text_end : (pages : ℕ) (log : List Record) → length (log_text pages log) ≡ end_of log
text_end pages log = omega (arith, length-append (header_bytes pages) (spellings log), length-header_bytes pages, end_of_is log)

length_held : (m : Machine) → length (held_text m) ≡ position m
length_held m = omega (arith, length-append (log_text m.held.pages m.held.log) m.partial, length_log m)

-- what is left of a true frame is true behind what is held
left_front : (old : Machine) (offset : ℕ) (bytes text : List ℕ) → bytes_at text offset (length bytes) ≡ bytes → offset ≤ position old → IsFront (held_text old) text → IsFront (held_text old ++ drop (position old - offset) bytes) text
left_front old offset bytes text holds low front =
    let held = held_text old in
    let long = length_held old in
    elim (cases_lt (position old - offset) (length bytes)) [
      | inl some ↦ subst (λ (n : ℕ). IsFront (held ++ drop (n - offset) bytes) text) long (front_grown held bytes text offset holds (omega (arith, long, low)) (omega (arith, long, some)) front)
      | inr none ↦ front_same held (held ++ drop (position old - offset) bytes) text (sym (ap (λ (xs : List ℕ). held ++ xs) (drop_of_length-le bytes {i = position old - offset} none) ∙ append-nil held)) front
    ]

resync_acts : (texts : ℕ → List ℕ) (seals : List ℕ) (old new : Machine) (answer : Result (Unit {0}) EngineFault) → DropsPartial old answer new → HoldsFront texts seals old → HoldsFront texts seals new
resync_acts texts seals old new (Ok done) r h =
    let text = log_text old.held.pages old.held.log in
    let log : IsFront (log_text new.held.pages new.held.log) (texts (epoch_of old)) = front_same text (log_text new.held.pages new.held.log) (texts (epoch_of old)) (ap (λ (m : Machine). log_text m.held.pages m.held.log) (sym r)) h.log in
    let held : text ≡ held_text new = sym (append-nil text) ∙ ap held_text (sym r) in
    holds_by texts seals old new (ap (λ (m : Machine). history_of m.held) r) log (λ runs. front_same text (held_text new) (texts (epoch_of old)) held h.log) h
resync_acts texts seals old new (Err fault) r h = absurd r

pub resync_front : (texts : ℕ → List ℕ) (seals : List ℕ) (old new : Machine) → WasResynced old new → HoldsFront texts seals old → HoldsFront texts seals new
resync_front texts seals old new (answer, r) h =
    elim (split_option (refusal old step.Resync) (DropsPartial old answer new) (λ fault. (answer ≡ Err fault) × (new ≡ old)) r) [
      | inl (none, drops) ↦ resync_acts texts seals old new answer drops h
      | inr (fault, same) ↦ holds_equal texts seals old new same.1 h
    ]

-- bytes of the standby's own epoch
own_front : (texts : ℕ → List ℕ) (seals : List ℕ) (old new : Machine) (epoch offset : ℕ) (bytes : List ℕ) (result : Result (Unit {0}) EngineFault) → epoch ≡ epoch_of old → offset ≤ position old → FeedsRest old (drop (position old - offset) bytes) result new
    → bytes_at (texts epoch) offset (length bytes) ≡ bytes → HoldsFront texts seals old → HoldsFront texts seals new
own_front texts seals old new epoch offset bytes result own low feeds holds h =
    let there : bytes_at (texts (epoch_of old)) offset (length bytes) ≡ bytes = subst (λ (e : ℕ). bytes_at (texts e) offset (length bytes) ≡ bytes) own holds in
    rest_front texts seals old new (drop (position old - offset) bytes) result feeds (λ runs. left_front old offset bytes (texts (epoch_of old)) there low (h.partial runs)) h

pub takes_front : (texts : ℕ → List ℕ) (seals : List ℕ) (old new : Machine) (epoch offset : ℕ) (bytes : List ℕ) (result : Result Lsn Fault) → Takes old epoch offset bytes result new → bytes_at (texts epoch) offset (length bytes) ≡ bytes
    → HoldsFront texts seals old → HoldsFront texts seals new
takes_front texts seals old new epoch offset bytes (Ok lsn) t holds h = own_front texts seals old new epoch offset bytes (Ok tt) t.0.1 t.1 t.3 holds h
takes_front texts seals old new epoch offset bytes (Err (Refused fault)) t holds h = own_front texts seals old new epoch offset bytes (Err fault) t.0.1 t.1 t.2 holds h
takes_front texts seals old new epoch offset bytes (Err Gap) t holds h = holds_equal texts seals old new t.2 h
takes_front texts seals old new epoch offset bytes (Err (OtherEpoch other)) t holds h = holds_equal texts seals old new t.3 h
takes_front texts seals old new epoch offset bytes (Err BadFrame) t holds h = resync_front texts seals old new t.1 h
takes_front texts seals old new epoch offset bytes (Err BadHeader) t holds h = absurd t
takes_front texts seals old new epoch offset bytes (Err Memory) t holds h = absurd t
takes_front texts seals old new epoch offset bytes (Err (Diverged seal)) t holds h = absurd t
takes_front texts seals old new epoch offset bytes (Err Cut) t holds h = absurd t
takes_front texts seals old new epoch offset bytes (Err Stream) t holds h = absurd t
