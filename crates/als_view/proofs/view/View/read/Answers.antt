use Rattle.std.proofs.Common.{ℕ, subst}
use Rattle.als_view.specs.Answers.{IsAnswer}
use Rattle.als_view.specs.Showing.{View}
use Rattle.als_view.specs.Views.{pages_of}
use Rattle.als_view.proofs.ShowingLaws.{reads}
use Rattle.als_view.proofs.view.View.read.Goals as goal

pub returns-clause-ok : goal.returns-clause-ok
returns-clause-ok c log below v h =
    let answer = c.in_ok-answer.answer in
    let seen : IsAnswer (pages_of c.args.reader.now) c.args.key c.args.self.now.published answer =
    subst (λ (view : View). IsAnswer (pages_of c.args.reader.now) c.args.key view.published answer) c.self.view_is c.in_ok-answer.ensures.answer in
    reads log below c.args.self.now c.args.key answer v (subst (λ (n : ℕ). IsAnswer n c.args.key c.args.self.now.published answer) c.requires.pages seen) h
