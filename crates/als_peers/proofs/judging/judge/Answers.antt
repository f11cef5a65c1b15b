use Rattle.std.proofs.Common.{◌≡◌, false, true, sym, subst, ◌∙◌, get_or, arith, Option, None}
use Rattle.std.specs.Prelude.{All}
use Rattle.std.proofs.lemmas.Bool.{false≢true}
use Rattle.std.proofs.lemmas.List.{take_all, get_or_default}
use Rattle.std.proofs.lemmas.List.Elements.{All-more}
use Rattle.als_compare.specs.declared.rank.Rank.{Rank}
use Rattle.als_peers.specs.Keeping.{KeepsFrom}
use Rattle.als_peers.proofs.judging.judge.Goals as goal

pub loop-i-init : goal.loop-i-init
loop-i-init c = record { clear = λ k d lt. absurd (omega arith) }

pub loop-i-preserved : goal.loop-i-preserved
loop-i-preserved c = record {
  clear = All-more (λ (answer : Option Rank). KeepsFrom c.args.own answer → ⊥) c.args.answers.now c.loop-i.i None c.loop-i-test.true c.loop-i.invariant.clear
      (λ keeps. false≢true (sym c.if-keeps_from.false ∙ c.keeps_from.ensures.1 keeps));
}

pub returns-then-keeps_from-clause-err : goal.returns-then-keeps_from-clause-err
returns-then-keeps_from-clause-err c =
    let answer : Option Rank = get_or c.args.answers.now c.loop-i.i None in
    record {
      answer = answer;
      within = c.loop-i-test.true;
      there = get_or_default c.args.answers.now c.loop-i.i None answer c.loop-i-test.true;
      keeps = c.keeps_from.ensures.0 c.if-keeps_from.true;
    }

pub returns-clause-ok : goal.returns-clause-ok
returns-clause-ok c = subst (All (λ (answer : Option Rank). KeepsFrom c.args.own answer → ⊥)) (take_all c.loop-i.i c.args.answers.now c.loop-i-test.false) c.loop-i.invariant.clear
