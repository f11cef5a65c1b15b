use Rattle.std.proofs.Common.{◌≡◌, List, ◌∙◌}
use Rattle.std.proofs.lemmas.Result.{err_from_is_err_and}
use Rattle.als_record.specs.declared.record.Record.{Record}
use Rattle.als_scan.proofs.ScanLaws.{scan_facts, facts_seen, scan_fill, scan_hand, seen_filled, hands_to, refuses_next}
use Rattle.als_scan.proofs.FrontLaws.{bare_handed_on, bare_refused}
use Rattle.als_scan.proofs.scan.Scan.next_to.Goals as goal

pub invariant_of-self : goal.invariant_of-self
invariant_of-self g c =
    let inside = c.self.inside in
    let old = g.D.BlockDisk.slot inside.disk in
    let new = g.D.BlockDisk.slot c.fill.new.disk in
    let f = c.fill.ensures in
    let filled = scan_fill inside.pages inside.mark _ (g.D.BlockDisk.block_count c.fill.new.disk) old new inside.judge c.fill.new.judge c.self.invariant f.same f.count f.log f.reads f.within in
    filled

pub returns-in_err-fill-clause-facts : goal.returns-in_err-fill-clause-facts
returns-in_err-fill-clause-facts g c =
    scan_facts _ _ _ _ _ _ _ (invariant_of-self g c)

pub invariant_of-self-in_err-more : goal.invariant_of-self-in_err-more
invariant_of-self-in_err-more g c =
    let inside = c.self.inside in
    let old = g.D.BlockDisk.slot inside.disk in
    let new = g.D.BlockDisk.slot c.fill.new.disk in
    let f = c.fill.ensures in
    let filled = scan_fill inside.pages inside.mark _ (g.D.BlockDisk.block_count c.fill.new.disk) old new inside.judge c.fill.new.judge c.self.invariant f.same f.count f.log f.reads f.within in
    rw (c.in_err-more.ensures.same, c.look_ahead.ensures) filled

pub returns-in_err-more-clause-facts : goal.returns-in_err-more-clause-facts
returns-in_err-more-clause-facts g c =
    scan_facts _ _ _ _ _ _ _ (invariant_of-self-in_err-more g c)

pub returns-in_err-more-clause-err : goal.returns-in_err-more-clause-err
returns-in_err-more-clause-err g c =
    let inside = c.self.inside in
    let old = g.D.BlockDisk.slot inside.disk in
    let new = g.D.BlockDisk.slot c.fill.new.disk in
    let f = c.fill.ensures in
    let filled = scan_fill inside.pages inside.mark _ (g.D.BlockDisk.block_count c.fill.new.disk) old new inside.judge c.fill.new.judge c.self.invariant f.same f.count f.log f.reads f.within in
    let same = seen_filled inside.pages inside.mark _ (g.D.BlockDisk.block_count c.fill.new.disk) _ (g.D.BlockDisk.failures c.fill.new.disk) _ (g.D.BlockDisk.attempts c.fill.new.disk) old new inside.judge c.fill.new.judge c.args.self.now c.self.view_is f.same f.count c.in_ok-fill.ensures.done f.attempts f.log in
    let p = err_from_is_err_and c.from_residual-in_err-more.result c.from_residual-in_err-more.ensures.1 in
    let err = rw c.look_ahead.ensures at c.in_err-more.ensures.err in
    let refused = refuses_next inside.pages inside.mark _ new c.fill.new.judge filled (g.D.BlockDisk.failures c.fill.new.disk) (g.D.BlockDisk.attempts c.fill.new.disk) c.hand_to.new.self c.in_err-more.field-0.0 c.in_ok-fill.ensures.ok err (c.in_err-more.ensures.same ∙ c.look_ahead.ensures) in
    rw (p.1, p.2, same) refused

pub returns-in_err-more-clause-bare : goal.returns-in_err-more-clause-bare
returns-in_err-more-clause-bare g c =
    let inside = c.self.inside in
    let old = g.D.BlockDisk.slot inside.disk in
    let new = g.D.BlockDisk.slot c.fill.new.disk in
    let f = c.fill.ensures in
    let filled = scan_fill inside.pages inside.mark _ (g.D.BlockDisk.block_count c.fill.new.disk) old new inside.judge c.fill.new.judge c.self.invariant f.same f.count f.log f.reads f.within in
    let same = seen_filled inside.pages inside.mark _ (g.D.BlockDisk.block_count c.fill.new.disk) _ (g.D.BlockDisk.failures c.fill.new.disk) _ (g.D.BlockDisk.attempts c.fill.new.disk) old new inside.judge c.fill.new.judge c.args.self.now c.self.view_is f.same f.count c.in_ok-fill.ensures.done f.attempts f.log in
    let p = err_from_is_err_and c.from_residual-in_err-more.result c.from_residual-in_err-more.ensures.1 in
    let err = rw c.look_ahead.ensures at c.in_err-more.ensures.err in
    let refused = refuses_next inside.pages inside.mark _ new c.fill.new.judge filled (g.D.BlockDisk.failures c.fill.new.disk) (g.D.BlockDisk.attempts c.fill.new.disk) c.hand_to.new.self c.in_err-more.field-0.0 c.in_ok-fill.ensures.ok err (c.in_err-more.ensures.same ∙ c.look_ahead.ensures) in
    let facts = facts_seen _ _ _ _ _ _ _ c.args.self.now c.self.view_is c.self.invariant in
    λ log valid text. rw (p.1, p.2) (bare_refused c.args.self.now _ _ log c.in_err-more.field-0.0 same facts valid text refused)

pub invariant_of-self-2 : goal.invariant_of-self-2
invariant_of-self-2 g c =
    let inside = c.self.inside in
    let old = g.D.BlockDisk.slot inside.disk in
    let new = g.D.BlockDisk.slot c.fill.new.disk in
    let f = c.fill.ensures in
    let filled = scan_fill inside.pages inside.mark _ (g.D.BlockDisk.block_count c.fill.new.disk) old new inside.judge c.fill.new.judge c.self.invariant f.same f.count f.log f.reads f.within in
    let took : List Record → Record → Type 0 = λ log r. g.T.TakeRecord.took c.args.taker.now log r c.hand_to.new.taker in
    let kept = c.hand_to.new.taker ≡ c.args.taker.now in
    let ok = rw c.look_ahead.ensures at c.in_ok-more.ensures.ok in
    scan_hand took kept inside.pages inside.mark _ new c.fill.new.judge c.hand_to.new.self c.in_ok-more.more filled ok c.hand_to.ensures.valid

pub returns-clause-facts : goal.returns-clause-facts
returns-clause-facts g c =
    scan_facts _ _ _ _ _ _ _ (invariant_of-self-2 g c)

pub returns-clause-ok : goal.returns-clause-ok
returns-clause-ok g c =
    let inside = c.self.inside in
    let old = g.D.BlockDisk.slot inside.disk in
    let new = g.D.BlockDisk.slot c.fill.new.disk in
    let f = c.fill.ensures in
    let filled = scan_fill inside.pages inside.mark _ (g.D.BlockDisk.block_count c.fill.new.disk) old new inside.judge c.fill.new.judge c.self.invariant f.same f.count f.log f.reads f.within in
    let same = seen_filled inside.pages inside.mark _ (g.D.BlockDisk.block_count c.fill.new.disk) _ (g.D.BlockDisk.failures c.fill.new.disk) _ (g.D.BlockDisk.attempts c.fill.new.disk) old new inside.judge c.fill.new.judge c.args.self.now c.self.view_is f.same f.count c.in_ok-fill.ensures.done f.attempts f.log in
    let took : List Record → Record → Type 0 = λ log r. g.T.TakeRecord.took c.args.taker.now log r c.hand_to.new.taker in
    let kept = c.hand_to.new.taker ≡ c.args.taker.now in
    let ok = rw c.look_ahead.ensures at c.in_ok-more.ensures.ok in
    let handed = hands_to inside.pages inside.mark _ new c.fill.new.judge filled took kept (g.D.BlockDisk.failures c.fill.new.disk) (g.D.BlockDisk.attempts c.fill.new.disk) c.hand_to.new.self c.in_ok-more.more c.in_ok-fill.ensures.ok ok in
    rw same handed

pub returns-clause-bare : goal.returns-clause-bare
returns-clause-bare g c =
    let inside = c.self.inside in
    let old = g.D.BlockDisk.slot inside.disk in
    let new = g.D.BlockDisk.slot c.fill.new.disk in
    let f = c.fill.ensures in
    let filled = scan_fill inside.pages inside.mark _ (g.D.BlockDisk.block_count c.fill.new.disk) old new inside.judge c.fill.new.judge c.self.invariant f.same f.count f.log f.reads f.within in
    let same = seen_filled inside.pages inside.mark _ (g.D.BlockDisk.block_count c.fill.new.disk) _ (g.D.BlockDisk.failures c.fill.new.disk) _ (g.D.BlockDisk.attempts c.fill.new.disk) old new inside.judge c.fill.new.judge c.args.self.now c.self.view_is f.same f.count c.in_ok-fill.ensures.done f.attempts f.log in
    let took : List Record → Record → Type 0 = λ log r. g.T.TakeRecord.took c.args.taker.now log r c.hand_to.new.taker in
    let kept = c.hand_to.new.taker ≡ c.args.taker.now in
    let ok = rw c.look_ahead.ensures at c.in_ok-more.ensures.ok in
    let handed = hands_to inside.pages inside.mark _ new c.fill.new.judge filled took kept (g.D.BlockDisk.failures c.fill.new.disk) (g.D.BlockDisk.attempts c.fill.new.disk) c.hand_to.new.self c.in_ok-more.more c.in_ok-fill.ensures.ok ok in
    let facts = facts_seen _ _ _ _ _ _ _ c.args.self.now c.self.view_is c.self.invariant in
    λ log valid text. bare_handed_on c.args.self.now _ _ log (took c.fill.new.judge.log) kept c.in_ok-more.more same facts valid text handed
