use Rattle.als_record.specs.Shown.{shown as seen}
use Rattle.als_engine.proofs.ReaderLaws.{goes_on_taken}
use Rattle.als_engine.proofs.holding.hold_commit.Goals as goal

pub returns-clause-goes_on : goal.returns-clause-goes_on
returns-clause-goes_on g c =
    let ok = c.in_ok-admit.ensures.ok in
    goes_on_taken c.args.held.now.stored c.admit.new.self.stored (seen c.args.logged.now)
    c.args.shown.now c.reserve_place.new.shown c.take.new.self ok.1 c.reserve_place.ensures.same
    (λ offset h. c.take.ensures.shows c.args.held.now.stored.log (seen c.args.logged.now) offset
    (c.in_ok-found.ensures.ok ok.0) h)
    c.take.ensures.published c.take.ensures.same
