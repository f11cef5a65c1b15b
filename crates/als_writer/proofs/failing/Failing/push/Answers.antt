use Rattle.std.proofs.Common.{List, [], ◌∷◌, ◌++◌, length-set, take, subst, ◌∙◌, arith}
use Rattle.als_writer.specs.declared.unmet.Unmet.{Unmet}
use Rattle.als_writer.proofs.Showing.{kept_push, shown_push}
use Rattle.als_writer.proofs.failing.Failing.push.Goals as goal

pub invariant_of-self : goal.invariant_of-self
invariant_of-self c =
    let f = c.self.inside in
    let is = c.self.invariant in
    (omega (arith, c.if-self-lt-FAILING_LIMIT.true), length-set f.kept f.count c.args.unmet ∙ is.1, kept_push f.kept f.count c.args.unmet c.if-self-lt-FAILING_LIMIT.true is.1 is.2)

pub returns-then-self-lt-FAILING_LIMIT : goal.returns-then-self-lt-FAILING_LIMIT
returns-then-self-lt-FAILING_LIMIT c =
    let f = c.self.inside in
    rw (← c.self.view_is) (shown_push f.kept f.count c.args.unmet c.if-self-lt-FAILING_LIMIT.true c.self.invariant.1)
