use Rattle.std.proofs.Common.{◌≡◌, ◌==◌, ◌≤◌, true, List, length, ap, refl, ◌∙◌, subst, arith}
use mathlib.Core.List.{IsPrefix}
use Rattle.als_record.specs.Commits.{Commit}
use Rattle.als_view.proofs.Fronts.{begins_longer}
use Rattle.als_view.proofs.front.Front.see.Goals as goal

pub returns-clause-later : goal.returns-clause-later
returns-clause-later c =
    let f = c.args.self.now in
    let s = c.args.copy.now in
    let both = c.learn.new.self.log in
    let this : IsPrefix f.seen.log both = subst (λ (l : List Commit). IsPrefix l both) (ap (λ t. t.log) c.again-both.ensures) c.learn.ensures.2 in
    let that : IsPrefix s.seen.log both = subst (λ (l : List Commit). IsPrefix l both) (ap (λ t. t.log) c.seen.ensures) c.learn.ensures.3 in
    let log : c.again.result.log ≡ s.seen.log = ap (λ t. t.log) c.again.ensures ∙ ap (λ t. t.log) c.seen-2.ensures in
    let long : length f.seen.log ≤ length s.seen.log = omega (arith, f.counted, c.count.ensures, c.if-count-self.false, ap length c.requires.sound.0) in
    rw log (begins_longer (f.listed == 1) true f.seen.log s.seen.log both this that long refl)
