-- What a standby holds stays a front of the text of its epoch, when it goes on with another history, and after a crash.
use Rattle.std.proofs.Common.{◌≡◌, ◌≢◌, ℕ, ◌≤◌, List, [], ◌∷◌, ◌++◌, length, Bool, true, false, cond, Option, None, Some, Result, Ok, Err, refl, subst, sym, ap, ◌∙◌, append_assoc, append-nil, inl, inr, arith}
use Rattle.std.specs.Prelude.{◌⊎◌, slice_get}
use Rattle.std.proofs.lemmas.Bool.{false≢true}
use Rattle.als_record.specs.declared.lsn.Lsn.{Lsn}
use Rattle.als_record.specs.declared.record.Record.{Record}
use Rattle.als_record.specs.LogText.{header_bytes, spellings, log_text, end_of}
use Rattle.als_record.proofs.LogLaws.{spellings-append}
use Rattle.als_epochs.specs.declared.fault.Fault.{Fault as EpochFault}
use Rattle.als_epochs.specs.declared.fault.Fault.TheVariants as epochs
use Rattle.als_epochs.specs.declared.step.Step.{Step as Judged}
use Rattle.als_epochs.specs.declared.step.Step.TheVariants.{Stay, Adopt}
use Rattle.als_epochs.specs.Histories.{GoesOn, next_seal}
use Rattle.als_epochs.specs.HistoryLaws.{GoesOn-trans, next_seal-behind}
use Rattle.als_epochs.specs.Judging.{judged, Judges}
use Rattle.als_epochs.proofs.JudgingLaws.{judged-means}
use Rattle.als_ckpt.specs.declared.control_state.ControlState.{ControlState}
use Rattle.als_ckpt.specs.Control.{Continues}
use Rattle.als_ckpt.proofs.StateLaws.{last_state-push}
use Rattle.als_store.specs.Stored.{Stored, newest}
use Rattle.als_store.specs.Takeover.{history_of, adopted_state, WritesState, BreaksState}
use Rattle.als_engine.specs.declared.fault.Fault.{Fault as EngineFault}
use Rattle.als_engine.specs.declared.fault.Fault.TheVariants.{Stopped, Recovering, Sealed}
use Rattle.als_engine.specs.declared.step.Step.TheVariants as step
use Rattle.als_engine.specs.Machine.{Machine, IsRunning, IsStopped}
use Rattle.als_engine.specs.Refusals.{refusal, first_of, not_adopted, judgement_on}
use Rattle.als_engine.specs.Events.{ControlSyncs}
use Rattle.als_engine.specs.Takeover.{Adopts, AdoptsIt, AdoptsHeld}
use Rattle.als_ship.specs.declared.fault.Fault.{Fault}
use Rattle.als_ship.specs.declared.fault.Fault.TheVariants.{BadHeader, Memory, Gap, BadFrame, Diverged, Cut, Stream, OtherEpoch, Refused}
use Rattle.als_ship.specs.Epochs.{AreEpochs}
use Rattle.als_ship.specs.Follows.{held_text, epoch_of, IsFront, HoldsFront, TakesUp, AdoptsSynced, NotAdopted, Crashes}
use Rattle.als_ship.proofs.LogForcing.{split_option, ctl_sync_same}
use Rattle.als_ship.proofs.EpochLaws.{front_later, front_earlier}
use Rattle.als_ship.proofs.Fronts.{front_less, front_same, holds_equal, holds_same, text_end}

-- ---- adoption

-- no cause stands against an adoption: the judgement says so too
first_none : (a b c : Bool) (x y z : EngineFault) (others : Option EngineFault) → cond a (Some x) (cond b (Some y) (cond c (Some z) others)) ≡ None → others ≡ None
first_none true b c x y z others e = absurd cc
first_none false true c x y z others e = absurd cc
first_none false false true x y z others e = absurd cc
first_none false false false x y z others e = e

is_adopted : (judgement : Result Judged EpochFault) → first_of (not_adopted judgement) ≡ None → judgement ≡ Ok Adopt
is_adopted (Ok Adopt) e = refl
is_adopted (Ok Stay) e = absurd cc
is_adopted (Err fault) e = absurd cc

judged_adopted : (m : Machine) (history : List ℕ) → refusal m (step.Adopt history) ≡ None → Judges (history_of m.held) history (end_of m.held.log) (Ok Adopt)
judged_adopted m history none =
    let own = history_of m.held in
    let end = end_of m.held.log in
    let is : judged own history end ≡ Ok Adopt = is_adopted (judgement_on m.held history) (first_none _ _ _ Stopped Recovering Sealed _ none) in
    subst (Judges own history end) is (judged-means own history end)

-- the log stays and ends at or below the next seal, and the history is the offered one; a standby that runs has no partial record
holds_adopted : (texts : ℕ → List ℕ) (seals : List ℕ) (old new : Machine) (history : List ℕ) → AreEpochs texts seals → GoesOn history seals → Judges (history_of old.held) history (end_of old.held.log) (Ok Adopt) → history_of new.held ≡ history
    → log_text new.held.pages new.held.log ≡ log_text old.held.pages old.held.log → (IsRunning new → new.partial ≡ []) → HoldsFront texts seals old → HoldsFront texts seals new
holds_adopted texts seals old new history epochs true_ (seal, rest, is, low) same text none h =
    let bytes = log_text old.held.pages old.held.log in
    let short : length bytes ≤ seal = omega (arith, text_end old.held.pages old.held.log, low) in
    let moved : IsFront bytes (texts (length history)) = front_later texts seals (history_of old.held) seal rest history bytes epochs is true_ short h.log in
    let there : IsFront bytes (texts (epoch_of new)) = subst (λ (own : List ℕ). IsFront bytes (texts (length own))) (sym same) moved in
    let log : IsFront (log_text new.held.pages new.held.log) (texts (epoch_of new)) = front_same bytes (log_text new.held.pages new.held.log) (texts (epoch_of new)) (sym text) there in
    record {
      history = subst (λ (own : List ℕ). GoesOn own seals) (sym same) true_;
      log = log;
      partial = λ runs. front_same (log_text new.held.pages new.held.log) (held_text new) (texts (epoch_of new)) (sym (append-nil (log_text new.held.pages new.held.log)) ∙ ap (λ (xs : List ℕ). log_text new.held.pages new.held.log ++ xs) (sym (none runs))) log;
    }

-- the newest control state is the adopted one
history_written : (old held : Stored) (history : List ℕ) (c : ControlState) → c ≡ adopted_state old history → c.history ≡ history
history_written old held history c is = ap (λ (s : ControlState). s.history) is

adopt_acts : (texts : ℕ → List ℕ) (seals : List ℕ) (old new : Machine) (history : List ℕ) (result : Result (Unit {0}) EngineFault) → AreEpochs texts seals → GoesOn history seals → Judges (history_of old.held) history (end_of old.held.log) (Ok Adopt) → AdoptsIt history old result new
    → HoldsFront texts seals old → HoldsFront texts seals new
adopt_acts texts seals old new history (Ok done) epochs true_ judges a h =
    let last = last_state-push old.held.control old.held.since (adopted_state old.held history) in
    holds_adopted texts seals old new history epochs true_ judges
    (ap (λ (m : Machine). history_of m.held) a.after ∙ ap history_of a.adopts.after ∙ ap (λ (s : ControlState). s.history) last)
    (ap (λ (m : Machine). log_text m.held.pages m.held.log) a.after ∙ ap (λ (s : Stored). log_text s.pages s.log) a.adopts.after)
    (λ runs. ap (λ (m : Machine). m.partial) a.after)
    h
adopt_acts texts seals old new history (Err fault) epochs true_ judges (is, c) h =
    let last = last_state-push old.held.control old.held.since (adopted_state old.held history) in
    let broken : new.held.broken ≡ true = ap (λ (m : Machine). m.held.broken) c.after ∙ ap (λ (s : Stored). s.broken) c.becomes.after in
    holds_adopted texts seals old new history epochs true_ judges
    (ap (λ (m : Machine). history_of m.held) c.after ∙ ap history_of c.becomes.after ∙ ap (λ (s : ControlState). s.history) last)
    (ap (λ (m : Machine). log_text m.held.pages m.held.log) c.after ∙ ap (λ (s : Stored). log_text s.pages s.log) c.becomes.after)
    (λ runs. absurd (false≢true (sym runs ∙ broken)))
    h

adopt_front : (texts : ℕ → List ℕ) (seals : List ℕ) (old new : Machine) (history : List ℕ) (result : Result (Unit {0}) EngineFault) → AreEpochs texts seals → GoesOn history seals → Adopts old history result new → HoldsFront texts seals old → HoldsFront texts seals new
adopt_front texts seals old new history result epochs true_ a h =
    elim (split_option (refusal old (step.Adopt history)) (AdoptsIt history old result new) (λ fault. (result ≡ Err fault) × (new ≡ old)) a) [
      | inl (none, acts) ↦ adopt_acts texts seals old new history result epochs true_ (judged_adopted old history none) acts h
      | inr (fault, same) ↦ holds_equal texts seals old new same.1 h
    ]

sync_front : (texts : ℕ → List ℕ) (seals : List ℕ) (old new : Machine) (result : Result Lsn EngineFault) → ControlSyncs old result new → HoldsFront texts seals old → HoldsFront texts seals new
sync_front texts seals old new result s h = holds_same texts seals old new (ctl_sync_same old new result s) h

pub takes_up_front : (texts : ℕ → List ℕ) (seals : List ℕ) (old new : Machine) (history : List ℕ) (result : Result Lsn Fault) → AreEpochs texts seals → GoesOn history seals → TakesUp old history result new → HoldsFront texts seals old → HoldsFront texts seals new
takes_up_front texts seals old new history (Ok lsn) epochs true_ (at, inl (same, is)) h = holds_equal texts seals old new is h
takes_up_front texts seals old new history (Ok lsn) epochs true_ (at, inr (other, (adopted, mark, adopts, syncs))) h =
    sync_front texts seals adopted new (Ok mark) syncs (adopt_front texts seals old adopted history (Ok tt) epochs true_ adopts h)
takes_up_front texts seals old new history (Err (Refused fault)) epochs true_ (other, inl adopts) h = adopt_front texts seals old new history (Err fault) epochs true_ adopts h
takes_up_front texts seals old new history (Err (Refused fault)) epochs true_ (other, inr (adopted, adopts, syncs)) h =
    sync_front texts seals adopted new (Err fault) syncs (adopt_front texts seals old adopted history (Ok tt) epochs true_ adopts h)
takes_up_front texts seals old new history (Err BadHeader) epochs true_ t h = absurd t
takes_up_front texts seals old new history (Err Memory) epochs true_ t h = absurd t
takes_up_front texts seals old new history (Err Gap) epochs true_ t h = absurd t
takes_up_front texts seals old new history (Err BadFrame) epochs true_ t h = absurd t
takes_up_front texts seals old new history (Err (Diverged seal)) epochs true_ t h = absurd t
takes_up_front texts seals old new history (Err Cut) epochs true_ t h = absurd t
takes_up_front texts seals old new history (Err Stream) epochs true_ t h = absurd t
takes_up_front texts seals old new history (Err (OtherEpoch epoch)) epochs true_ t h = absurd t

-- ---- crashes

-- the log that is left begins the old one's text
kept_front : (old new : Machine) (text : List ℕ) → Crashes old new → IsFront (log_text old.held.pages old.held.log) text → IsFront (log_text new.held.pages new.held.log) text
kept_front old new text c front =
    let h = header_bytes old.held.pages in
    let kept = spellings new.held.log in
    let parts : log_text old.held.pages old.held.log ≡ (h ++ kept) ++ spellings c.lost =
    ap (λ (log : List Record). log_text old.held.pages log) c.log ∙ ap (λ (xs : List ℕ). h ++ xs) (spellings-append new.held.log c.lost) ∙ sym (append_assoc h kept (spellings c.lost)) in
    let less : IsFront (h ++ kept) text = front_less (h ++ kept) (spellings c.lost) text (front_same (log_text old.held.pages old.held.log) ((h ++ kept) ++ spellings c.lost) text parts front) in
    front_same (h ++ kept) (log_text new.held.pages new.held.log) text (ap (λ (pages : ℕ). log_text pages new.held.log) (sym c.pages)) less

-- a log that ends at or below the first seal that an older history lacks begins the text of that epoch
older_front : (texts : ℕ → List ℕ) (seals older later bytes lost : List ℕ) → AreEpochs texts seals → later ≡ older ++ lost → GoesOn later seals → ((seal : ℕ) → next_seal older later ≡ Some seal → length bytes ≤ seal) → IsFront bytes (texts (length later))
    → IsFront bytes (texts (length older))
older_front texts seals older later bytes [] epochs is on short begins =
    subst (λ (own : List ℕ). IsFront bytes (texts (length own))) (is ∙ append-nil older) begins
older_front texts seals older later bytes (seal ∷ lost) epochs is on short begins =
    front_earlier texts seals older seal lost later bytes epochs is on (short seal (next_seal-behind older later (seal ∷ lost) is)) begins

pub crash_front : (texts : ℕ → List ℕ) (seals : List ℕ) (old new : Machine) → AreEpochs texts seals → Crashes old new → HoldsFront texts seals old → HoldsFront texts seals new
crash_front texts seals old new epochs c h =
    let older = c.state.history in
    let bytes = log_text new.held.pages new.held.log in
    let same : history_of new.held ≡ older = ap (λ (s : ControlState). s.history) c.newest in
    let (lost, is) = c.continued.history in
    let short : (seal : ℕ) → next_seal older (history_of old.held) ≡ Some seal → length bytes ≤ seal = λ seal next.
    let below = c.continued.below seal next in
    omega (arith, text_end new.held.pages new.held.log, c.ends, below) in
    let begins : IsFront bytes (texts (length older)) = older_front texts seals older (history_of old.held) bytes lost epochs is h.history short (kept_front old new (texts (epoch_of old)) c h.log) in
    let log : IsFront bytes (texts (epoch_of new)) = subst (λ (own : List ℕ). IsFront bytes (texts (length own))) (sym same) begins in
    record {
      history = subst (λ (own : List ℕ). GoesOn own seals) (sym same) (GoesOn-trans older (history_of old.held) seals c.continued.history h.history);
      log = log;
      partial = λ runs. front_same bytes (held_text new) (texts (epoch_of new)) (sym (append-nil bytes) ∙ ap (λ (xs : List ℕ). bytes ++ xs) (sym c.partial)) log;
    }
