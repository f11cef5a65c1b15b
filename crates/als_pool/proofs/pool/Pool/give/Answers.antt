use Rattle.std.proofs.Common.{◌≡◌, arith}
use Rattle.als_frames.specs.Images.{synced_lsn}
use Rattle.als_pool.proofs.Keeping.{keeps_give}
use Rattle.als_pool.proofs.Lsns.{others_give, give-spelled}
use Rattle.als_pool.proofs.Restarting.{rows-give}
use Rattle.als_pool.proofs.Bounding.{ends-give}
use Rattle.als_pool.proofs.pool.Pool.give.Goals as goal

pub returns-clause-keeps : goal.returns-clause-keeps
returns-clause-keeps g c log below h = keeps_give log below c.take_back.result c.args.self.now c.take_back.new.self c.args.lease c.take_back.ensures.ok c.take_back.ensures.err h

pub returns-clause-others : goal.returns-clause-others
returns-clause-others g c = others_give c.take_back.result c.args.self.now c.take_back.new.self c.args.lease c.take_back.ensures.ok c.take_back.ensures.err

pub returns-clause-grows : goal.returns-clause-grows
returns-clause-grows g c p lt =
    let same : synced_lsn c.take_back.new.self.pool.frames p ≡ synced_lsn c.args.self.now.pool.frames p
    = give-spelled c.take_back.result c.args.self.now c.take_back.new.self c.args.lease p c.take_back.ensures.ok c.take_back.ensures.err in
    omega (arith, same)

pub returns-clause-given : goal.returns-clause-given
returns-clause-given g c position rows h = rows-give position rows c.take_back.result c.args.self.now c.take_back.new.self c.args.lease c.take_back.ensures.ok c.take_back.ensures.err h

pub returns-clause-ends : goal.returns-clause-ends
returns-clause-ends g c end h = ends-give end c.take_back.result c.args.self.now c.take_back.new.self c.args.lease c.take_back.ensures.ok c.take_back.ensures.err h
