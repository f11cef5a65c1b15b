use Rattle.std.proofs.Common.{◌≡◌, arith}
use Rattle.als_frames.specs.Images.{synced_lsn}
use Rattle.als_pool.proofs.Keeping.{keeps_recall}
use Rattle.als_pool.proofs.Lsns.{lsns_recall, recall-spelled}
use Rattle.als_pool.proofs.Restarting.{rows-recall}
use Rattle.als_pool.proofs.Bounding.{ends-recall}
use Rattle.als_pool.proofs.pool.Pool.recall.Goals as goal

pub returns-clause-keeps : goal.returns-clause-keeps
returns-clause-keeps g c log below h = keeps_recall log below c.end_lease.result c.args.self.now c.end_lease.new.self c.args.page c.end_lease.ensures.ok c.end_lease.ensures.err h

pub returns-clause-lsns : goal.returns-clause-lsns
returns-clause-lsns g c = lsns_recall c.end_lease.result c.args.self.now c.end_lease.new.self c.args.page c.end_lease.ensures.ok c.end_lease.ensures.err

pub returns-clause-grows : goal.returns-clause-grows
returns-clause-grows g c p lt =
    let same : synced_lsn c.end_lease.new.self.pool.frames p ≡ synced_lsn c.args.self.now.pool.frames p
    = recall-spelled c.end_lease.result c.args.self.now c.end_lease.new.self c.args.page p c.end_lease.ensures.ok c.end_lease.ensures.err in
    omega (arith, same)

pub returns-clause-given : goal.returns-clause-given
returns-clause-given g c position rows h = rows-recall position rows c.end_lease.result c.args.self.now c.end_lease.new.self c.args.page c.end_lease.ensures.ok c.end_lease.ensures.err h

pub returns-clause-ends : goal.returns-clause-ends
returns-clause-ends g c end h = ends-recall end c.end_lease.result c.args.self.now c.end_lease.new.self c.args.page c.end_lease.ensures.ok c.end_lease.ensures.err h
