use Rattle.std.proofs.Common.{Bool, refl, subst, arith, inr}
use Rattle.std.specs.Prelude.{MatchBool}
use Rattle.als_tables.specs.Fronts.{IsCheckpointOf}
use Rattle.als_reopen.specs.Reading.{IsMet}
use Rattle.als_reopen.proofs.Refusals.{unmet}
use Rattle.als_reopen.proofs.Steps.{met_none}
use Rattle.als_reopen.proofs.reading.meet.Goals as goal

pub returns-then-not-branch-clause-bare : goal.returns-then-not-branch-clause-bare
returns-then-not-branch-clause-bare g c whole rest parts f =
    let s = c.args.reading.now.scan in
    let checkpoint = c.in-Some.checkpoint in
    let low = subst (λ (b : Bool). IsMet b s.log c.args.checkpoint.now) c.if-reading.false c.requires.met in
    let differs = subst (λ (b : Bool). MatchBool b (IsCheckpointOf s.log checkpoint) (IsCheckpointOf s.log checkpoint → ⊥)) c.if-not-branch.true c.in_ok-is_checkpoint_of.ensures.ok in
    absurd (met_none whole s.log rest c.args.checkpoint.now checkpoint c.in-Some.is parts f low (omega (arith, c.end.ensures.end, c.if-end-checkpoint.false)) differs)

pub returns-then-not-branch-clause-err : goal.returns-then-not-branch-clause-err
returns-then-not-branch-clause-err g c =
    let s = c.args.reading.now.scan in
    let checkpoint = c.in-Some.checkpoint in
    let low = subst (λ (b : Bool). IsMet b s.log c.args.checkpoint.now) c.if-reading.false c.requires.met in
    let differs = subst (λ (b : Bool). MatchBool b (IsCheckpointOf s.log checkpoint) (IsCheckpointOf s.log checkpoint → ⊥)) c.if-not-branch.true c.in_ok-is_checkpoint_of.ensures.ok in
    inr (refl, unmet s.log c.args.checkpoint.now checkpoint c.in-Some.is low (omega (arith, c.end.ensures.end, c.if-end-checkpoint.false)) differs)
