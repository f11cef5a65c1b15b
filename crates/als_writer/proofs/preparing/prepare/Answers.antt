use Rattle.std.proofs.Common.{ℕ, sym, ap, subst}
use Rattle.std.proofs.lemmas.Result.{err_from_is_err_and}
use Rattle.als_engine.specs.Machine.{Machine}
use Rattle.als_writer.specs.declared.closing.Closing.TheVariants as closing
use Rattle.als_writer.specs.Changes.{AreBounds}
use Rattle.als_writer.proofs.LastBounds.{AreBounds-same}
use Rattle.als_writer.proofs.Bounding.{refused_bounds}
use Rattle.als_writer.proofs.Looking.{fed_shown, fed_unmet}
use Rattle.als_writer.proofs.Closed.{fed_not_prepared}
use Rattle.als_writer.proofs.preparing.prepare.Goals as goal

pub returns-in_err-written-clause-refused : goal.returns-in_err-written-clause-refused
returns-in_err-written-clause-refused g c =
    let p = err_from_is_err_and c.from_residual-in_err-written.result c.from_residual-in_err-written.ensures.1 in
    rw (p.1, p.2) (λ a. fed_not_prepared (g.E.Events.machine c.args.engine.now) c.args.transaction.now c.in_err-written.field-0.0 (g.E.Events.machine c.feed_plan.new.engine)
    (c.in_err-written.ensures.refused a closing.Prepare (c.in_ok-planned.ensures.planned a)))

pub returns-in_err-written-clause-bounds : goal.returns-in_err-written-clause-bounds
returns-in_err-written-clause-bounds g c a bounds =
    let m : Machine = g.E.Events.machine c.args.engine.now in
    let new : Machine = g.E.Events.machine c.feed_plan.new.engine in
    refused_bounds m c.args.transaction.now c.in_err-written.field-0.0 new c.args.changes.now (c.in_err-written.ensures.refused a closing.Prepare (c.in_ok-planned.ensures.planned a)) bounds

pub returns-clause-bounds : goal.returns-clause-bounds
returns-clause-bounds g c a bounds =
    let m : Machine = g.E.Events.machine c.args.engine.now in
    let new : Machine = g.E.Events.machine c.feed_plan.new.engine in
    let d = c.in_ok-written.ensures.prepared a (c.in_ok-planned.ensures.planned a) in
    subst (λ (pages : ℕ). AreBounds c.args.changes.now pages new.held.log) (sym (ap (λ (x : Machine). x.held.pages) d.after))
    (AreBounds-same c.args.changes.now m.held.pages m.held.log new.held.log d.commits bounds)

pub returns-in_err-written-clause-shown : goal.returns-in_err-written-clause-shown
returns-in_err-written-clause-shown g c =
    let p = err_from_is_err_and c.from_residual-in_err-written.result c.from_residual-in_err-written.ensures.1 in
    rw (p.1, p.2) (λ a bounds.
    let m : Machine = g.E.Events.machine c.args.engine.now in
    fed_shown m c.args.transaction.now (g.E.Events.machine c.feed_plan.new.engine) m.held.log c.args.transaction.now.asks.items c.in_err-written.field-0.0
    (c.in_err-written.ensures.refused a closing.Prepare (c.in_ok-planned.ensures.planned a)))

pub returns-in_err-written-clause-unmet : goal.returns-in_err-written-clause-unmet
returns-in_err-written-clause-unmet g c =
    let p = err_from_is_err_and c.from_residual-in_err-written.result c.from_residual-in_err-written.ensures.1 in
    rw (p.1, p.2) (λ a.
    let m : Machine = g.E.Events.machine c.args.engine.now in
    fed_unmet m c.args.transaction.now (g.E.Events.machine c.feed_plan.new.engine) c.args.changes.now m.held.log c.args.transaction.now.asks.items c.in_err-written.field-0.0
    (c.in_err-written.ensures.refused a closing.Prepare (c.in_ok-planned.ensures.planned a)))
