-- The store when it goes on with the history of another node.
use Rattle.std.proofs.Common.{◌≡◌, ℕ, ◌≤◌, Bool, true, false, List, [], ◌∷◌, ◌++◌, refl, subst, arith}
use Rattle.std.specs.Prelude.{Ok}
use Rattle.als_record.specs.LogText.{end_of}
use Rattle.als_epochs.specs.Histories.{IsHistory, RisesFrom}
use Rattle.als_epochs.specs.Histories.{GoesOn as HistoryGoesOn}
use Rattle.als_epochs.specs.Judging.{judged, Judges}
use Rattle.als_epochs.specs.declared.step.Step.TheVariants.{Adopt}
use Rattle.als_validator.specs.declared.validator.Validator.{Validator}
use Rattle.als_log.specs.Local.{Local, IsLocal}
use Rattle.als_ckpt.specs.declared.phase.Phase.{Phase}
use Rattle.als_ckpt.specs.declared.phase.Phase.TheVariants.{Following, Sealed, Primary}
use Rattle.als_ckpt.specs.declared.control_state.ControlState.{ControlState}
use Rattle.als_ckpt.specs.Control.{Controlled, newest, IsLastSeal, IsControlState, Continues, IsControlled, with_state}
use Rattle.als_ckpt.proofs.StateLaws.{Continues-with}
use Rattle.als_pool.specs.Queues.{total_waiting}
use Rattle.als_pool.specs.Pooled.{Pooled}
use Rattle.als_store.specs.Takeover.{follows, GoesOn, AreTaken}
use Rattle.als_store.specs.Origin.{Origin}
use Rattle.als_store.specs.Parts.{IsStored}
use Rattle.als_store.proofs.TakeoverLaws.{contains_last, taken_marked}
use Rattle.als_store.proofs.StoredParts.{stored-written, stored-torn}
use Rattle.als_tables.specs.declared.commit_count.CommitCount.{CommitCount}

-- while the log follows its source nothing is asked of the last seal
following_last : (p : Phase) (history : List ℕ) (seal : ℕ) → follows p ≡ true → IsLastSeal p history seal
following_last Following history seal e = tt
following_last Sealed history seal e = absurd cc
following_last Primary history seal e = absurd cc

-- the newest control state, with this history
abbrev pub adopting : Controlled → List ℕ → ControlState
adopting c history = record (newest c) { history = history }

-- a history that is to be adopted goes on from the own one
pub adopted_grows : (own offered : List ℕ) (end : ℕ) → Judges own offered end (judged own offered end) → judged own offered end ≡ Ok Adopt → HistoryGoesOn own offered
adopted_grows own offered end words is =
    let more : Judges own offered end (Ok Adopt) = subst (Judges own offered end) is words in
    (more.0 ∷ more.1, more.2)

module _ (pages : ℕ) (held : CommitCount) (l : Local) (c : Controlled) (pool : Pooled) (validator : Validator) (broken : Bool) (origin : Origin) (recovering : Bool) (h : IsStored pages l held c pool validator broken origin recovering) (local : IsLocal l) (controlled : IsControlled c) where
  now : IsControlState c.log_bytes (newest c)
  now = controlled.fits (newest c) (contains_last c.synced c.since)

  mark_low : (newest c).mark.0 ≤ end_of l.log
  mark_low = omega (arith, h.marks.newest_synced, local.synced, local.written)

  -- the log ends at or below the first seal that it lacks, and so does the mark
  pub adopt_continues : (history : List ℕ) → Judges (newest c).history history (end_of l.log) (judged (newest c).history history (end_of l.log)) → judged (newest c).history history (end_of l.log) ≡ Ok Adopt
      → Continues (newest c) (adopting c history)
  adopt_continues history words is =
      let more : Judges (newest c).history history (end_of l.log) (Ok Adopt) = subst (Judges (newest c).history history (end_of l.log)) is words in
      Continues-with (newest c) (adopting c history) more.0 more.1 more.2 (omega (arith, more.3, mark_low))

  pub adopt_fits : (history : List ℕ) → follows (newest c).phase ≡ true → IsHistory history → (16 ≤ end_of l.log → RisesFrom 16 (newest c).history → RisesFrom 16 history) → IsControlState c.log_bytes (adopting c history)
  adopt_fits history on is lsns = record {
    begins = now.begins;
    in_log = now.in_log;
    position = now.position;
    seal = now.seal;
    history = is;
    lsns = lsns (omega (arith, now.begins, mark_low)) now.lsns;
    last = following_last (newest c).phase history (newest c).seal.0 on;
  }

  adopt_on : (history : List ℕ) → HistoryGoesOn (newest c).history history → GoesOn (newest c) (adopting c history)
  adopt_on history grows = record { phase = omega arith; seal = λ past. refl; history = grows }

  adopt_taken : (history : List ℕ) → HistoryGoesOn (newest c).history history → AreTaken l.log c.synced c.since recovering (total_waiting pool.waits)
      → AreTaken l.log c.synced (c.since ++ adopting c history ∷ []) recovering (total_waiting pool.waits)
  adopt_taken history grows taken = taken_marked l.log c.synced c.since recovering (total_waiting pool.waits) taken (adopting c history) refl refl grows (omega arith) mark_low

  pub stored-adopted : (c' : Controlled) (history : List ℕ) → HistoryGoesOn (newest c).history history → c' ≡ with_state c (adopting c history) → IsStored pages l held c' pool validator broken origin recovering
  stored-adopted c' history grows e = stored-written pages held l c pool validator broken origin recovering h c' (adopting c history) validator h.judged h.judging local (h.marks.fronts (newest c) (contains_last c.synced c.since)) h.marks.newest_synced (adopt_on history grows) (adopt_taken history grows) e

  pub stored-adopt_torn : (c' : Controlled) (history : List ℕ) → HistoryGoesOn (newest c).history history → c' ≡ record (with_state c (adopting c history)) { sure = false; failures = c'.failures } → IsStored pages l held c' pool validator true origin recovering
  stored-adopt_torn c' history grows e = stored-torn pages held l c pool validator broken origin recovering h c' (adopting c history) validator h.judged h.judging local (h.marks.fronts (newest c) (contains_last c.synced c.since)) h.marks.newest_synced (adopt_on history grows) (adopt_taken history grows) e
