use Rattle.als_engine.specs.Machine.{Machine}
use Rattle.als_view.specs.Showing.{published_of}
use Rattle.als_engine.proofs.FeedLaws.{machine}
use Rattle.als_engine.proofs.RestartLaws.{crash_leaves}
use Rattle.als_engine.proofs.engine.Engine.crash.Goals as goal

pub returns-clause-leaves : goal.returns-clause-leaves
returns-clause-leaves g c =
    let e = c.self.inside in
    let m : Machine = machine e.store.stored e.limit e.receiver.kept e.refused
    (published_of e.shown) in
    let left = c.crash.ensures in
    rw (← c.self.view_is)
    (λ config made warm. crash_leaves m config _ _ _ _ _ _ made
    (left.node warm) left.log left.control left.pages left.log_blocks left.some_blocks
    left.few_blocks left.control_blocks left.page_blocks)
