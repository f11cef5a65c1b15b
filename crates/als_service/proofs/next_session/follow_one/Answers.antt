use Rattle.std.proofs.Common.{sym, subst}
use Rattle.als_ship.specs.Vouching.{TellsVouched}
use Rattle.als_store.specs.Stored.{acknowledged}
use Rattle.als_service.proofs.Chains.{reaches_both, follows_both}
use Rattle.als_service.proofs.Vouched.{vouches_last, vouches_nobody}
use Rattle.als_service.proofs.next_session.follow_one.Goals as goal

pub returns-after-is_silent-clause-reached : goal.returns-after-is_silent-clause-reached
returns-after-is_silent-clause-reached g c = λ alone.
    reaches_both (g.E.Events.machine c.args.events) (g.E.Events.machine c.make_ready.new.events)
    (g.E.Events.machine c.follow_beside-engine.result.engine)
    (c.make_ready.ensures.reached alone) (c.follow_beside-engine.ensures.reached alone)

pub returns-after-is_silent-clause-follows : goal.returns-after-is_silent-clause-follows
returns-after-is_silent-clause-follows g c = λ alone.
    follows_both (g.E.Events.machine c.args.events) (g.E.Events.machine c.make_ready.new.events)
    (g.E.Events.machine c.follow_beside-engine.result.engine)
    (c.make_ready.ensures.follows alone) (c.follow_beside-engine.ensures.follows alone)

pub returns-in-Err-clause-vouched : goal.returns-in-Err-clause-vouched
returns-in-Err-clause-vouched g c = λ alone.
    vouches_nobody (acknowledged (g.E.Events.machine c.make_ready.new.events).held) c.in-Err.fault
    (g.L.Primaries.met c.args.primaries.now) (g.L.Primaries.met c.next.new.self) c.in-Err.ensures.none

-- what the wrapped stream was given is what its stream was given
pub returns-after-is_silent-clause-vouched : goal.returns-after-is_silent-clause-vouched
returns-after-is_silent-clause-vouched g c = λ alone.
    let floor = acknowledged (g.E.Events.machine c.follow_beside-engine.result.engine).held in
    let told = c.follow_beside-engine.ensures.vouched alone in
    let behind = subst (λ w. TellsVouched floor (g.S.Write.contents c.new-in-Ok.result.stream) (g.S.Write.contents w))
    (sym c.end.ensures) told in
    let tells = subst (λ w. TellsVouched floor (g.S.Write.contents w) (g.S.Write.contents c.end.result))
    c.new-in-Ok.ensures behind in
    vouches_last floor c.follow_beside-engine.result.ended (g.S.Write.contents c.in-Ok.writer)
    (g.S.Write.contents c.end.result) (g.L.Primaries.met c.args.primaries.now)
    (g.L.Primaries.met c.next.new.self) (g.L.Primaries.met c.part.new.self) c.in-Ok.ensures.begins c.part.ensures.ends
    tells
