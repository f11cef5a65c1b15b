use Rattle.std.proofs.Common.{sym, subst}
use Rattle.als_record.specs.Shown.{shown}
use Rattle.als_receiver.specs.Reception.{Reception, HandsOut}
use Rattle.als_engine.proofs.TakingLaws.{hands_one}
use Rattle.als_engine.proofs.taking_in.take_record.Goals as goal

pub returns-in_ok-hold-in-Ok-Some-clause-ok : goal.returns-in_ok-hold-in-Ok-Some-clause-ok
returns-in_ok-hold-in-Ok-Some-clause-ok g c =
    let can = rw c.in-Ok-Some.field-0-is at c.in-Ok-Some.ensures.shows in
    let out = subst (λ (new : Reception). HandsOut c.args.receiver.now (shown c.in-Ok-Some.view)
    new) (sym c.advance.ensures) can.out in
    let held = c.in_ok-hold-in-Ok-Some.ensures.ok in
    hands_one c.args.held.now.stored c.hold.new.held.stored c.args.receiver.now c.advance.new.self
    (shown c.in-Ok-Some.view) c.requires.meets held.0 held.1 out held.2
