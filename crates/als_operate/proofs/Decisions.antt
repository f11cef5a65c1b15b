-- A decision, event by event.
use Rattle.std.proofs.Common.{◌≡◌, Bool, true, false, not, List, [], ◌∷◌, ◌++◌, Result, Ok, Err, refl, sym, ap, ◌∙◌, append_assoc}
use Rattle.std.specs.Prelude.{MatchOption}
use Rattle.als_record.specs.declared.lsn.Lsn.{Lsn}
use Rattle.als_record.specs.declared.record.Record.{Record}
use Rattle.als_record.specs.declared.trans_id.TransId.{TransId}
use Rattle.als_record.specs.Tail.{tail_of, is_undone, decision}
use Rattle.als_record.specs.Transactions.{is_in_doubt}
use Rattle.als_store.specs.declared.decision.Decision.{Decision}
use Rattle.als_store.specs.Stored.{Stored}
use Rattle.als_store.specs.Takeover.{decision_body, is_primary}
use Rattle.als_engine.specs.declared.fault.Fault.{Fault}
use Rattle.als_engine.specs.declared.fault.Fault.TheVariants.{Stopped, Recovering, NotPrimary, NotInDoubt}
use Rattle.als_engine.specs.declared.step.Step.TheVariants as step
use Rattle.als_engine.specs.Machine.{Machine}
use Rattle.als_engine.specs.Refusals.{refusal, first_of}
use Rattle.als_engine.specs.Takeover.{ResolvesIt, ResolvesOf}
use Rattle.als_drive.specs.Driving.{IsDrained, OnlyRedoes, OnlyRecovers}
use Rattle.als_ship.specs.Follows.{SameText}
use Rattle.als_ship.proofs.LogForcing.{refused_or_acts}
use Rattle.als_operate.specs.Deciding.{IsDecided}
use Rattle.als_operate.specs.TakingOver.{GoesAlong, IsStable}
use Rattle.als_operate.proofs.Takeovers.{along_whole}

-- ---- the decision

-- it is the next record of the log
resolve_log : (old new : Machine) (trans : TransId) (verdict : Decision) (lsn : Lsn) → ResolvesOf old trans verdict (Ok lsn) new → new.held.log ≡ old.held.log ++ decision old.held.log trans.0 (decision_body verdict) ∷ []
resolve_log old new trans verdict lsn e = refused_or_acts (refusal old (step.Resolve trans verdict)) (ResolvesIt trans verdict old (Ok lsn) new) (new.held.log ≡ old.held.log ++ decision old.held.log trans.0 (decision_body verdict) ∷ []) (λ f. (Ok lsn ≡ Err f) × (new ≡ old))
    (λ a. ap (λ (m : Machine). m.held.log) a.after ∙ ap (λ (s : Stored). s.log) a.resolves.after) (λ f s. absurd (cc s.0)) e

no_cause : (a b c d : Bool) (A P : Type 0) (lsn : Lsn) → MatchOption (first_of ((a, Stopped) ∷ (b, Recovering) ∷ (c, NotPrimary) ∷ (not d, NotInDoubt) ∷ [])) A (λ (f : Fault). let held : Result Lsn Fault = Ok lsn in (held ≡ Err f) × P) → d ≡ true
no_cause true b c d A P lsn e = absurd (cc e.0)
no_cause false true c d A P lsn e = absurd (cc e.0)
no_cause false false true d A P lsn e = absurd (cc e.0)
no_cause false false false false A P lsn e = absurd (cc e.0)
no_cause false false false true A P lsn e = refl

-- of a transaction in doubt
resolve_doubt : (old new : Machine) (trans : TransId) (verdict : Decision) (lsn : Lsn) → ResolvesOf old trans verdict (Ok lsn) new → is_in_doubt old.held.log trans.0 ≡ true
resolve_doubt old new trans verdict lsn e = no_cause old.held.broken old.held.recovering (not (is_primary old.held)) (is_in_doubt old.held.log trans.0) (ResolvesIt trans verdict old (Ok lsn) new) (new ≡ old) lsn e

-- the whole of it
pub decided : (old ready held undone forced new : Machine) (trans : TransId) (verdict : Decision) (lsn : Lsn) → OnlyRecovers old ready → ResolvesOf ready trans verdict (Ok lsn) held → GoesAlong held undone → is_undone undone.held.log ≡ true → SameText undone forced → OnlyRedoes forced new → IsStable new → IsDrained new → IsDecided old trans verdict new
decided old ready held undone forced new trans verdict lsn recovers resolves along left forces redoes stable drained = record {
  doubted = ap (λ (l : List Record). is_in_doubt l trans.0) (sym same) ∙ resolve_doubt ready held trans verdict lsn resolves;
  more = along.more;
  log = kept ∙ along.log ∙ ap (λ (l : List Record). l ++ along.more) next ∙ append_assoc old.held.log (decision old.held.log trans.0 (decision_body verdict) ∷ []) along.more;
  tail = along_whole held undone along left ∙ ap tail_of next;
  undone = ap (λ (l : List Record). is_undone l) kept ∙ left;
  stable = stable;
  drained = drained;
}
  where
    same : ready.held.log ≡ old.held.log
    same = ap (λ (m : Machine). m.held.log) recovers

    kept : new.held.log ≡ undone.held.log
    kept = ap (λ (m : Machine). m.held.log) redoes ∙ forces.log

    next : held.held.log ≡ old.held.log ++ decision old.held.log trans.0 (decision_body verdict) ∷ []
    next = resolve_log ready held trans verdict lsn resolves ∙ ap (λ (l : List Record). l ++ decision l trans.0 (decision_body verdict) ∷ []) same
