use Rattle.std.proofs.Common.{sym}
use Rattle.als_record.specs.Shown.{shown}
use Rattle.als_store.proofs.store.holding.route_change.Goals as goal

pub returns-in-None-clause-keeps : goal.returns-in-None-clause-keeps
returns-in-None-clause-keeps g c log below is is_log at =
    c.other_records_pass.ensures log below c.args.pool.now.pool (shown c.args.logged.now) is_log at
    (sym c.in-None.ensures) is

pub returns-in-Some-clause-keeps : goal.returns-in-Some-clause-keeps
returns-in-Some-clause-keeps g c log below is is_log at =
    c.route.ensures.keeps log below (shown c.args.logged.now) is is_log at (sym c.in-Some.ensures)

pub returns-in-None-clause-ends : goal.returns-in-None-clause-ends
returns-in-None-clause-ends g c log ends at =
    c.pool_ends_below.ensures.other log (shown c.args.logged.now) c.args.pool.now.pool ends
