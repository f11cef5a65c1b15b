use Rattle.std.proofs.lemmas.Result.{err_from_is_err_and}
use Rattle.als_scan.proofs.ScanLaws.{scan_facts, facts_seen, scan_fill, scan_take, seen_filled, hands_next, refuses_next}
use Rattle.als_scan.proofs.FrontLaws.{bare_handed, bare_refused}
use Rattle.als_scan.proofs.scan.Scan.next.Goals as goal

pub invariant_of-self : goal.invariant_of-self
invariant_of-self g c =
    let inside = c.self.inside in
    let old = g.D.BlockDisk.slot inside.disk in
    let new = g.D.BlockDisk.slot c.fill.new.disk in
    let f = c.fill.ensures in
    let filled = scan_fill inside.pages inside.mark _ (g.D.BlockDisk.block_count c.fill.new.disk) old new inside.judge c.fill.new.judge c.self.invariant f.same f.count f.log f.reads f.within in
    filled

pub returns-in_err-fill-clause-facts : goal.returns-in_err-fill-clause-facts
returns-in_err-fill-clause-facts g c =
    scan_facts _ _ _ _ _ _ _ (invariant_of-self g c)

pub invariant_of-self-in_err-found : goal.invariant_of-self-in_err-found
invariant_of-self-in_err-found g c =
    let inside = c.self.inside in
    let old = g.D.BlockDisk.slot inside.disk in
    let new = g.D.BlockDisk.slot c.fill.new.disk in
    let f = c.fill.ensures in
    let filled = scan_fill inside.pages inside.mark _ (g.D.BlockDisk.block_count c.fill.new.disk) old new inside.judge c.fill.new.judge c.self.invariant f.same f.count f.log f.reads f.within in
    rw c.in_err-found.ensures.same filled

pub returns-in_err-found-clause-facts : goal.returns-in_err-found-clause-facts
returns-in_err-found-clause-facts g c =
    scan_facts _ _ _ _ _ _ _ (invariant_of-self-in_err-found g c)

pub returns-in_err-found-clause-err : goal.returns-in_err-found-clause-err
returns-in_err-found-clause-err g c =
    let inside = c.self.inside in
    let old = g.D.BlockDisk.slot inside.disk in
    let new = g.D.BlockDisk.slot c.fill.new.disk in
    let f = c.fill.ensures in
    let filled = scan_fill inside.pages inside.mark _ (g.D.BlockDisk.block_count c.fill.new.disk) old new inside.judge c.fill.new.judge c.self.invariant f.same f.count f.log f.reads f.within in
    let same = seen_filled inside.pages inside.mark _ (g.D.BlockDisk.block_count c.fill.new.disk) _ (g.D.BlockDisk.failures c.fill.new.disk) _ (g.D.BlockDisk.attempts c.fill.new.disk) old new inside.judge c.fill.new.judge c.args.self.now c.self.view_is f.same f.count c.in_ok-fill.ensures.done f.attempts f.log in
    let p = err_from_is_err_and c.from_residual-in_err-found.result c.from_residual-in_err-found.ensures.1 in
    let refused = refuses_next inside.pages inside.mark _ new c.fill.new.judge filled (g.D.BlockDisk.failures c.fill.new.disk) (g.D.BlockDisk.attempts c.fill.new.disk) c.take_one.new.self c.in_err-found.field-0.0 c.in_ok-fill.ensures.ok c.in_err-found.ensures.err c.in_err-found.ensures.same in
    rw (p.1, p.2, same) refused

pub returns-in_err-found-clause-bare : goal.returns-in_err-found-clause-bare
returns-in_err-found-clause-bare g c =
    let inside = c.self.inside in
    let old = g.D.BlockDisk.slot inside.disk in
    let new = g.D.BlockDisk.slot c.fill.new.disk in
    let f = c.fill.ensures in
    let filled = scan_fill inside.pages inside.mark _ (g.D.BlockDisk.block_count c.fill.new.disk) old new inside.judge c.fill.new.judge c.self.invariant f.same f.count f.log f.reads f.within in
    let same = seen_filled inside.pages inside.mark _ (g.D.BlockDisk.block_count c.fill.new.disk) _ (g.D.BlockDisk.failures c.fill.new.disk) _ (g.D.BlockDisk.attempts c.fill.new.disk) old new inside.judge c.fill.new.judge c.args.self.now c.self.view_is f.same f.count c.in_ok-fill.ensures.done f.attempts f.log in
    let p = err_from_is_err_and c.from_residual-in_err-found.result c.from_residual-in_err-found.ensures.1 in
    let refused = refuses_next inside.pages inside.mark _ new c.fill.new.judge filled (g.D.BlockDisk.failures c.fill.new.disk) (g.D.BlockDisk.attempts c.fill.new.disk) c.take_one.new.self c.in_err-found.field-0.0 c.in_ok-fill.ensures.ok c.in_err-found.ensures.err c.in_err-found.ensures.same in
    let facts = facts_seen _ _ _ _ _ _ _ c.args.self.now c.self.view_is c.self.invariant in
    λ log valid text. rw (p.1, p.2) (bare_refused c.args.self.now _ _ log c.in_err-found.field-0.0 same facts valid text refused)

pub invariant_of-self-2 : goal.invariant_of-self-2
invariant_of-self-2 g c =
    let inside = c.self.inside in
    let old = g.D.BlockDisk.slot inside.disk in
    let new = g.D.BlockDisk.slot c.fill.new.disk in
    let f = c.fill.ensures in
    let filled = scan_fill inside.pages inside.mark _ (g.D.BlockDisk.block_count c.fill.new.disk) old new inside.judge c.fill.new.judge c.self.invariant f.same f.count f.log f.reads f.within in
    scan_take _ _ _ _ c.fill.new.judge c.take_one.new.self c.in_ok-found.found filled c.in_ok-found.ensures.ok c.take_one.ensures.valid

pub returns-clause-facts : goal.returns-clause-facts
returns-clause-facts g c =
    scan_facts _ _ _ _ _ _ _ (invariant_of-self-2 g c)

pub returns-clause-ok : goal.returns-clause-ok
returns-clause-ok g c =
    let inside = c.self.inside in
    let old = g.D.BlockDisk.slot inside.disk in
    let new = g.D.BlockDisk.slot c.fill.new.disk in
    let f = c.fill.ensures in
    let filled = scan_fill inside.pages inside.mark _ (g.D.BlockDisk.block_count c.fill.new.disk) old new inside.judge c.fill.new.judge c.self.invariant f.same f.count f.log f.reads f.within in
    let same = seen_filled inside.pages inside.mark _ (g.D.BlockDisk.block_count c.fill.new.disk) _ (g.D.BlockDisk.failures c.fill.new.disk) _ (g.D.BlockDisk.attempts c.fill.new.disk) old new inside.judge c.fill.new.judge c.args.self.now c.self.view_is f.same f.count c.in_ok-fill.ensures.done f.attempts f.log in
    let handed = hands_next inside.pages inside.mark _ new c.fill.new.judge filled (g.D.BlockDisk.failures c.fill.new.disk) (g.D.BlockDisk.attempts c.fill.new.disk) c.take_one.new.self c.in_ok-found.found c.in_ok-fill.ensures.ok c.in_ok-found.ensures.ok in
    rw same handed

pub returns-clause-bare : goal.returns-clause-bare
returns-clause-bare g c =
    let inside = c.self.inside in
    let old = g.D.BlockDisk.slot inside.disk in
    let new = g.D.BlockDisk.slot c.fill.new.disk in
    let f = c.fill.ensures in
    let filled = scan_fill inside.pages inside.mark _ (g.D.BlockDisk.block_count c.fill.new.disk) old new inside.judge c.fill.new.judge c.self.invariant f.same f.count f.log f.reads f.within in
    let same = seen_filled inside.pages inside.mark _ (g.D.BlockDisk.block_count c.fill.new.disk) _ (g.D.BlockDisk.failures c.fill.new.disk) _ (g.D.BlockDisk.attempts c.fill.new.disk) old new inside.judge c.fill.new.judge c.args.self.now c.self.view_is f.same f.count c.in_ok-fill.ensures.done f.attempts f.log in
    let handed = hands_next inside.pages inside.mark _ new c.fill.new.judge filled (g.D.BlockDisk.failures c.fill.new.disk) (g.D.BlockDisk.attempts c.fill.new.disk) c.take_one.new.self c.in_ok-found.found c.in_ok-fill.ensures.ok c.in_ok-found.ensures.ok in
    let facts = facts_seen _ _ _ _ _ _ _ c.args.self.now c.self.view_is c.self.invariant in
    λ log valid text. bare_handed c.args.self.now _ _ log c.in_ok-found.found same facts valid text handed
