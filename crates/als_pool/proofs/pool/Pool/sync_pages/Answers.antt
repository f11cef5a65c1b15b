use Rattle.als_pool.proofs.Keeping.{keeps_sync_pages}
use Rattle.als_pool.proofs.Lsns.{lsns_sync, sync_grows}
use Rattle.als_pool.proofs.Restarting.{rows-sync}
use Rattle.als_pool.proofs.Bounding.{ends-sync}
use Rattle.als_pool.proofs.pool.Pool.sync_pages.Goals as goal

pub returns-clause-keeps : goal.returns-clause-keeps
returns-clause-keeps g c log below sure h =
    keeps_sync_pages log below c.sync_all.result c.args.self.now.pool c.sync_all.new.self.pool c.sync_all.ensures.ok c.sync_all.ensures.err sure h

pub returns-clause-lsns : goal.returns-clause-lsns
returns-clause-lsns g c log below sure h = lsns_sync log below c.sync_all.result c.args.self.now.pool c.sync_all.new.self.pool c.sync_all.ensures.ok c.sync_all.ensures.err sure h

pub returns-clause-grows : goal.returns-clause-grows
returns-clause-grows g c log below sure h p lt =
    sync_grows log below c.sync_all.result c.args.self.now.pool c.sync_all.new.self.pool p lt c.sync_all.ensures.ok c.sync_all.ensures.err sure h

pub returns-clause-given : goal.returns-clause-given
returns-clause-given g c position rows h =
    rows-sync position rows c.sync_all.result c.args.self.now.pool c.sync_all.new.self.pool c.sync_all.ensures.ok c.sync_all.ensures.err h

pub returns-clause-ends : goal.returns-clause-ends
returns-clause-ends g c end h =
    ends-sync end c.sync_all.result c.args.self.now.pool c.sync_all.new.self.pool c.sync_all.ensures.ok c.sync_all.ensures.err h
