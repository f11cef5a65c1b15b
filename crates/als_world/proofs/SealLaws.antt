-- The log of a takeover at its seal.
use Rattle.std.proofs.Common.{◌≡◌, ℕ, ◌<◌, ◌≤◌, List, ◌++◌, inl, inr, refl, sym, ap, subst, ◌∙◌, append_assoc, arith}
use Rattle.als_record.specs.declared.lsn.Lsn.{Lsn}
use Rattle.als_record.specs.declared.record.Record.{Record}
use Rattle.als_record.specs.LogText.{end_of}
use Rattle.als_record.specs.Tail.{tail_of}
use Rattle.als_ckpt.specs.declared.phase.Phase.{Phase}
use Rattle.als_ckpt.specs.declared.phase.Phase.TheVariants.{Following, Sealed, Primary}
use Rattle.als_ckpt.specs.Control.{phase_byte, IsSeal}
use Rattle.als_reopen.specs.Taken.{IsTaken, WasTakenFrom}
use Rattle.als_store.proofs.OpeningLaws.{whole_front}
use Rattle.als_world.specs.Standing.{Standing, Up, Down, Keeps, IsTrue, IsSealedAt, log_of, control_of}
use Rattle.als_world.proofs.KeepLaws.{fronts-nest}

-- a front of a log that ends within another front is a front of all that has the other in front
pub front_of_front : (log front lost more other : List Record) (a rest : List Record) → log ≡ front ++ lost → log ≡ a ++ rest → other ≡ front ++ more → end_of a ≤ end_of front → (left : List Record) × (other ≡ a ++ left)
front_of_front log front lost more other a rest parts has new below = elim (fronts-nest a rest front lost (sym has ∙ parts)) [
  | inl far ↦
      let same : front ≡ a = whole_front a front far.0 far.1 below in
      (more, new ∙ ap (λ (l : List Record). l ++ more) same)
  | inr near ↦ (near.0 ++ more, new ∙ ap (λ (l : List Record). l ++ more) near.1 ∙ append_assoc a near.0 more)
]

-- two fronts of a log that end where the other does are one
same_front : (a more b left : List Record) → a ++ more ≡ b ++ left → end_of a ≡ end_of b → a ≡ b
same_front a more b left parts ends = elim (fronts-nest a more b left parts) [
  | inl far ↦ sym (whole_front a b far.0 far.1 (omega (arith, ends)))
  | inr near ↦ whole_front b a near.0 near.1 (omega (arith, ends))
]

pub same_sealed : (old new : Standing) (before after : List Record) → Keeps old new → IsSealedAt old before → IsSealedAt new after → after ≡ before
same_sealed old new before after k a b =
    let t = k.text in
    let left = front_of_front (log_of old) t.front t.lost t.more (log_of new) before a.rest t.old a.parts t.new (omega (arith, a.ends, a.acknowledged, t.reaches)) in
    let seal = k.takeover.seal a.past in
    same_front after b.rest before left.0 (sym b.parts ∙ left.1) (b.ends ∙ ap (λ (l : Lsn). l.0) seal ∙ sym a.ends)

-- ---- it is there

sealed_of : (log : List Record) (mark seal : ℕ) (p : Phase) → IsTaken p log mark seal → IsSeal p mark seal → 1 < phase_byte p → (sealed : List Record) × (rest : List Record) × (log ≡ sealed ++ rest) × (end_of sealed ≡ seal) × (seal ≤ mark)
sealed_of log mark seal Following t s past = absurd (omega (arith, past))
sealed_of log mark seal Sealed t s past = (t.sealed, t.undone, t.parts, t.ends, s.1)
sealed_of log mark seal Primary t s past = (t.sealed, tail_of t.sealed ++ t.more, t.parts ∙ append_assoc t.sealed (tail_of t.sealed) t.more, t.ends, s.1)

pub sealed_in : (s : Standing) → IsTrue s → 1 < phase_byte (control_of s).phase → (sealed : List Record) × IsSealedAt s sealed
sealed_in (Up m slots) is past =
    let c = m.held.control in
    let w : WasTakenFrom m.held.log c = is.0.each c (0, omega arith, refl) in
    let f = sealed_of w.front c.mark.0 c.seal.0 c.phase w.taken is.2 past in (
      f.0,
      record {
        past = past;
        rest = f.1 ++ w.since;
        parts = w.parts ∙ ap (λ (l : List Record). l ++ w.since) f.2 ∙ append_assoc f.0 f.1 w.since;
        ends = f.3;
        acknowledged = f.4;
      },
    )
sealed_in (Down n workers) is past =
    let c = n.said.state in
    let f = sealed_of n.log c.mark.0 c.seal.0 c.phase is.0 is.1 past in
    (f.0, record { past = past; rest = f.1; parts = f.2; ends = f.3; acknowledged = f.4 })
