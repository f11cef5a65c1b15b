use Rattle.std.proofs.Common.{◌≡◌, ℕ, List, length, refl, sym, ap, ◌∙◌, subst, arith}
use Rattle.als_commits.specs.Left.{writes_left}
use Rattle.als_record.specs.Commits.{Write as AnyWrite}
use Rattle.als_renew.proofs.Doubting.{SpelledSoFar, spelled-none, spelled-next, spelled-all}
use Rattle.als_renew.proofs.doubt.spell_writes.Goals.{in-Some+in_ok-spell_write-in-Some, in-None}
use Rattle.als_renew.proofs.doubt.spell_writes.Goals as goal

pub loop-init : goal.loop-init
loop-init c = record {
  counted = omega (arith, ap (λ (ws : List AnyWrite). length ws) c.left-left.ensures);
  trans = refl;
  so_far = λ pages log place keys h.
      let t : ℕ = c.args.place.now.trans.0 in
      let ws : List AnyWrite = c.args.writes.now in
      subst (λ (left : List AnyWrite). SpelledSoFar pages log t ws left c.args.piece.now.items c.args.place.now c.args.now.now) (sym c.left-left.ensures)
      (spelled-none pages log t ws c.args.piece.now.items c.args.place.now c.args.now.now c.requires.empty place keys h);
}

pub loop-preserved : goal.loop-preserved
loop-preserved c = elim c.match-next.branch [
  | in-Some+in_ok-spell_write-in-Some w ↦
      let split = rw w.in-Some.is at c.next.ensures in
      rw (w.now-is, w.place-is, w.piece-is) (record {
        counted = omega (arith, c.loop.invariant.counted, ap (λ (ws : List AnyWrite). length ws) split);
        trans = w.in_ok-spell_write-in-Some.ensures.trans ∙ c.loop.invariant.trans;
        so_far = λ pages log place keys h.
            let t : ℕ = c.args.place.now.trans.0 in
            let ws : List AnyWrite = c.args.writes.now in
            let s = subst (λ (left : List AnyWrite). SpelledSoFar pages log t ws left c.loop.piece.items c.loop.place c.loop.now) split (c.loop.invariant.so_far pages log place keys h) in
            spelled-next pages log t ws (writes_left c.next.new.self) w.in-Some.write c.loop.piece.items w.spell_write.new.piece.items c.loop.place w.spell_write.new.place c.loop.now w.spell_write.new.now s
            (ap (λ x. x.0) c.loop.invariant.trans) (w.in_ok-spell_write-in-Some.ensures.spelled pages);
      })
  | in-None w ↦
      let none = rw w.in-None.is at c.next.ensures in
      absurd (omega (arith, c.loop.invariant.counted, ap (λ (ws : List AnyWrite). length ws) none.0, c.loop-test.true, c.len-end.ensures, c.loop.auto.counter-end))
]

pub returns-clause-spelled : goal.returns-clause-spelled
returns-clause-spelled c pages log place keys h =
    spelled-all pages log c.args.place.now.trans.0 c.args.writes.now (writes_left c.loop.left) c.loop.piece.items c.loop.place c.loop.now (c.loop.invariant.so_far pages log place keys h)
    (omega (arith, c.loop.invariant.counted, c.loop-test.false, c.len-end.ensures, c.loop.auto.counter-end))
