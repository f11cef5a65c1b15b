use Rattle.als_pool.proofs.Keeping.{keeps_flush, flush_grows}
use Rattle.als_pool.proofs.Lsns.{lsns_flush}
use Rattle.als_pool.proofs.Restarting.{rows-flush}
use Rattle.als_pool.proofs.Bounding.{ends-flush}
use Rattle.als_pool.proofs.pool.Pool.flush_one.Goals as goal

pub returns-clause-keeps : goal.returns-clause-keeps
returns-clause-keeps g c log below le h =
    keeps_flush log below c.write_due.result c.args.self.now.pool c.write_due.new.self.pool c.args.page c.args.acknowledged c.write_due.ensures.ok c.write_due.ensures.err le h

pub returns-clause-lsns : goal.returns-clause-lsns
returns-clause-lsns g c =
    lsns_flush c.write_due.result c.args.self.now.pool c.write_due.new.self.pool c.args.page c.args.acknowledged c.write_due.ensures.ok c.write_due.ensures.err

pub returns-clause-grows : goal.returns-clause-grows
returns-clause-grows g c log below le h p lt =
    flush_grows log below c.write_due.result c.args.self.now.pool c.write_due.new.self.pool c.args.page p c.args.acknowledged lt c.write_due.ensures.ok c.write_due.ensures.err le h

pub returns-clause-given : goal.returns-clause-given
returns-clause-given g c position rows h =
    rows-flush position rows c.write_due.result c.args.self.now.pool c.write_due.new.self.pool c.args.page c.args.acknowledged c.write_due.ensures.ok c.write_due.ensures.err h

pub returns-clause-ends : goal.returns-clause-ends
returns-clause-ends g c end h =
    ends-flush end c.write_due.result c.args.self.now.pool c.write_due.new.self.pool c.args.page c.args.acknowledged c.write_due.ensures.ok c.write_due.ensures.err h
