use Rattle.std.proofs.Common.{◌≡◌, arith}
use Rattle.als_frames.specs.Images.{synced_lsn}
use Rattle.als_frames.proofs.Keeping.{IfOk-so}
use Rattle.als_pool.proofs.Keeping.{keeps_lend, lend-history, never_bad}
use Rattle.als_pool.proofs.Lsns.{others_lend, lend-spelled}
use Rattle.als_pool.proofs.Restarting.{rows-lend}
use Rattle.als_pool.proofs.Bounding.{ends-lend}
use Rattle.als_pool.proofs.pool.Pool.lend.Goals as goal

pub returns-clause-history : goal.returns-clause-history
returns-clause-history g c =
    IfOk-so c.lend_waiting.result c.lend_waiting.ensures.ok (λ lease done log below h. lend-history log below c.args.self.now.pool c.lend_waiting.new.self.pool c.args.page c.args.end.0 lease done h)

pub returns-clause-keeps : goal.returns-clause-keeps
returns-clause-keeps g c log below h =
    keeps_lend log below c.lend_waiting.result c.args.self.now c.lend_waiting.new.self c.args.page c.args.end.0 c.lend_waiting.ensures.ok c.lend_waiting.ensures.err h

pub returns-clause-others : goal.returns-clause-others
returns-clause-others g c log below h =
    others_lend log below c.lend_waiting.result c.args.self.now c.lend_waiting.new.self c.args.page c.args.end.0 c.lend_waiting.ensures.ok c.lend_waiting.ensures.err h

pub returns-clause-grows : goal.returns-clause-grows
returns-clause-grows g c log below h p lt =
    let same : synced_lsn c.lend_waiting.new.self.pool.frames p ≡ synced_lsn c.args.self.now.pool.frames p
    = lend-spelled c.lend_waiting.result c.args.self.now c.lend_waiting.new.self c.args.page c.args.end.0 p c.lend_waiting.ensures.ok c.lend_waiting.ensures.err in
    omega (arith, same)

pub returns-clause-sound : goal.returns-clause-sound
returns-clause-sound g c log below h le is =
    never_bad log below c.lend_waiting.result c.args.self.now c.lend_waiting.new.self c.args.page c.args.end.0 c.args.page le c.lend_waiting.ensures.err h is

pub returns-clause-given : goal.returns-clause-given
returns-clause-given g c position rows h =
    rows-lend position rows c.lend_waiting.result c.args.self.now c.lend_waiting.new.self c.args.page c.args.end.0 c.lend_waiting.ensures.ok c.lend_waiting.ensures.err h

pub returns-clause-ends : goal.returns-clause-ends
returns-clause-ends g c limit le h =
    ends-lend limit c.lend_waiting.result c.args.self.now c.lend_waiting.new.self c.args.page c.args.end.0 le c.lend_waiting.ensures.ok c.lend_waiting.ensures.err h
