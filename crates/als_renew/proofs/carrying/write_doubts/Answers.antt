use Rattle.std.proofs.Common.{◌≡◌, ℕ, ◌+◌, ◌++◌, List, [], ◌∷◌, drop, refl, sym, ap, subst, ◌∙◌, arith}
use Rattle.als_lookback.specs.Doubts.{Doubt}
use Rattle.als_renew.specs.Carried.{carried}
use Rattle.als_renew.proofs.Doubting.{CarriedSoFar, carried-step, carried-all, next-new, drop-at, drop-none}
use Rattle.als_renew.proofs.carrying.write_doubts.Goals as goal

pub loop-i-init : goal.loop-i-init
loop-i-init g c = record {
  room = omega arith;
  so_far = λ pages log before valid may h ends greatest written. record {
    log = log;
    valid = valid;
    may_be = may;
    whole = refl;
    ends = ends;
    greatest_is = greatest;
    written = written;
    now_is = h;
  };
}

pub loop-i-preserved : goal.loop-i-preserved
loop-i-preserved g c = record {
  room = omega (arith, c.in_ok-next.ensures.most);
  so_far = λ pages log before valid may h ends greatest written.
      let ds : List Doubt = c.args.doubts.now in
      let i : ℕ = c.loop-i.i in
      let d : Doubt = c.index-doubts-i.result in
      let rest : List Doubt = drop (i + 1) ds in
      let whole_log = log ++ carried log ds in
      let mid = g.W.Write.contents c.loop-i.writer in
      let new = g.W.Write.contents c.write_doubt.new.writer in
      let parts : d ∷ rest ≡ drop i ds = ap (λ (x : Doubt). x ∷ rest) c.index-doubts-i.is ∙ drop-at ds i d c.loop-i-test.true in
      let s : CarriedSoFar pages whole_log (d ∷ rest) before mid c.loop-i.reached.greatest.0 c.loop-i.reached.end.0 c.loop-i.now =
      subst (λ (xs : List Doubt). CarriedSoFar pages whole_log xs before mid c.loop-i.reached.greatest.0 c.loop-i.reached.end.0 c.loop-i.now) (sym parts) (c.loop-i.invariant.so_far pages log before valid may h ends greatest written) in
      let n = next-new pages s.log d rest s.valid s.may_be in
      let w = c.in_ok-next.ensures.ok pages s.log s.valid s.ends n.0 n.1 s.now_is in
      subst (λ (t : ℕ). CarriedSoFar pages whole_log rest before new t c.in_ok-next.next.end.0 c.write_doubt.new.now) (sym c.in_ok-next.ensures.greatest)
      (carried-step pages whole_log d rest before mid new c.loop-i.reached.greatest.0 c.loop-i.reached.end.0 c.in_ok-next.next.end.0 c.loop-i.now c.write_doubt.new.now s w);
}

pub returns-clause-ok : goal.returns-clause-ok
returns-clause-ok g c pages log before valid may h ends greatest written =
    carried-all pages log c.args.doubts.now (drop c.loop-i.i c.args.doubts.now) before (g.W.Write.contents c.loop-i.writer) c.loop-i.reached.greatest.0 c.loop-i.reached.end.0 c.loop-i.now
    (c.loop-i.invariant.so_far pages log before valid may h ends greatest written) (drop-none c.args.doubts.now c.loop-i.i c.loop-i-test.false)
