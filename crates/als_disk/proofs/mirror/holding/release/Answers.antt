use Rattle.std.proofs.Common.{◌≢◌, ◌<◌, ◌∙◌, length, arith, inl, inr}
use Rattle.std.proofs.lemmas.Bool.{cases_eq}
use Rattle.als_disk.proofs.MirrorLaws.{piece_in-emptied, piece_in-others}
use Rattle.als_disk.proofs.mirror.holding.release.Goals as goal

pub loop-p-preserved : goal.loop-p-preserved
loop-p-preserved c =
    let held = c.loop-p.pieces.items in
    let some : c.loop-p.p < length held = omega (arith, c.loop-p-test.true, c.min-end.ensures, c.len.ensures, c.loop-p.invariant.count) in
    record {
      within = omega (arith, c.loop-p-test.true, c.min-end.ensures);
      kept = λ q le.
          let apart : q ≢ c.loop-p.p = omega (arith, le) in
          piece_in-others held c.empty.new.pieces.items c.loop-p.p q c.empty.ensures.here apart ∙ c.loop-p.invariant.kept q (omega (arith, le));
      count = c.empty.ensures.count ∙ c.loop-p.invariant.count;
      released = λ q from below. elim (cases_eq q c.loop-p.p) [
        | inl here ↦ piece_in-emptied held c.empty.new.pieces.items c.loop-p.p q c.empty.ensures.here some here
        | inr apart ↦ piece_in-others held c.empty.new.pieces.items c.loop-p.p q c.empty.ensures.here apart ∙ c.loop-p.invariant.released q from (omega (arith, apart, below))
      ];
    }

pub returns-clause-kept : goal.returns-clause-kept
returns-clause-kept c = λ q le. c.loop-p.invariant.kept q (omega (arith, le, c.loop-p.invariant.within))

pub returns-clause-released : goal.returns-clause-released
returns-clause-released c = λ q from below some.
    c.loop-p.invariant.released q from (omega (arith, below, some, c.loop-p-test.false, c.min-end.ensures, c.len.ensures))
