use Rattle.std.proofs.Common.{◌≡◌, ◌<◌, ◌≤◌, ◌==◌, true, List, length, ap, subst, arith}
use Rattle.std.proofs.lemmas.Bool.{leb-true, leb-false}
use Rattle.std.proofs.lemmas.Bool.Decides.{nat_tests}
use mathlib.Core.List.{IsPrefix}
use Rattle.als_record.specs.Commits.{Commit}
use Rattle.als_view.proofs.Fronts.{begins_longer, begins_not}
use Rattle.als_view.proofs.front.Front.is_within.Goals as goal

pub returns-clause-within : goal.returns-clause-within
returns-clause-within c le =
    let f = c.args.self.now in
    let o = c.args.other.now in
    let both = c.learn.new.self.log in
    let this : IsPrefix f.seen.log both = subst (λ (l : List Commit). IsPrefix l both) (ap (λ s. s.log) c.again-both.ensures) c.learn.ensures.2 in
    let listed : (o.listed == 1) ≡ true = grind (arith, nat_tests, c.if-other-ne1.false) in
    let few : f.count ≤ o.count = leb-true f.count o.count le in
    begins_longer (f.listed == 1) (o.listed == 1) f.seen.log o.seen.log both this c.learn.ensures.3 (omega (arith, f.counted, o.counted, few)) listed

pub returns-clause-beyond : goal.returns-clause-beyond
returns-clause-beyond c above =
    let f = c.args.self.now in
    let o = c.args.other.now in
    let both = c.learn.new.self.log in
    let this : IsPrefix f.seen.log both = subst (λ (l : List Commit). IsPrefix l both) (ap (λ s. s.log) c.again-both.ensures) c.learn.ensures.2 in
    let mine : (f.listed == 1) ≡ true = grind (arith, nat_tests, c.if-self-ne1.false) in
    let more : o.count < f.count = leb-false f.count o.count above in
    let less : length o.seen.log < length f.seen.log = omega (arith, f.counted, o.counted, more) in (
      begins_longer (o.listed == 1) (f.listed == 1) o.seen.log f.seen.log both c.learn.ensures.3 this (omega (arith, less)) mine,
      begins_not (f.listed == 1) (o.listed == 1) f.seen.log o.seen.log mine less,
    )
