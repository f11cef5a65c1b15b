use Rattle.std.proofs.Common.{refl, sym, subst}
use Rattle.als_pool.specs.Pooled.{Held}
use Rattle.als_pool.specs.Restart.{HoldsImagesOf}
use Rattle.als_reopen.proofs.WholeLogs.{reopened, not_full}
use Rattle.als_reopen.proofs.joining.finish.Goals as goal

pub returns-then-not-has_room-clause-bare : goal.returns-then-not-has_room-clause-bare
returns-then-not-has_room-clause-bare g c whole is before =
    let new = c.read_all.new.self.scan in
    absurd (not_full c.args.blocks c.args.reading.scan new c.args.checkpoint.now c.read_all.ensures.scan c.in-Ok.ensures.reading.facts c.in-Ok.ensures.whole whole is (c.if-not-has_room.ensures.full refl))

pub returns-in-Ok-take_up-clause-ok : goal.returns-in-Ok-take_up-clause-ok
returns-in-Ok-take_up-clause-ok g c =
    let old = c.args.reading.scan in
    let new = c.read_all.new.self in
    let read = c.in-Ok-take_up.read in
    reopened c.args.blocks old new.scan c.args.state.now c.args.checkpoint.now new.taken.pool new.taken.count read.log read.validator read.count read.pool c.read_all.ensures.scan c.in-Ok.ensures.reading c.in-Ok.ensures.whole c.in-Ok.ensures.of_front
    c.requires.mark (c.if-not-has_room.ensures.fits refl) c.in-Ok-take_up.ensures.log c.in-Ok-take_up.ensures.judged c.in-Ok-take_up.ensures.judging c.in-Ok-take_up.ensures.pool.0 c.in-Ok-take_up.ensures.pool.1

pub returns-in-Ok-take_up-clause-images : goal.returns-in-Ok-take_up-clause-images
returns-in-Ok-take_up-clause-images g c log below h =
    subst (λ (p : Held). HoldsImagesOf log below p.pool) (sym c.in-Ok-take_up.ensures.pool.0) (c.read_all.ensures.images log below h)
