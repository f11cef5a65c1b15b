use Rattle.als_scan.proofs.ScanLaws.{scan_facts, scan_new, refuses_header, bare_header}
use Rattle.als_scan.proofs.scan.Scan.new.Goals as goal

pub invariant_of-result : goal.invariant_of-result
invariant_of-result g c =
    scan_new c.args.pages c.args.mark _ (g.D.BlockDisk.block_count c.args.disk) (g.D.BlockDisk.slot c.args.disk) _ c.in-Ok.judge (g.met.D.BlockDisk.gives_candidates c.args.disk) (g.met.D.BlockDisk.holds_blocks c.args.disk)
    c.requires.settled c.requires.few c.requires.low c.requires.high c.in-Ok.ensures.ok c.in-Ok.ensures.header c.begin.ensures.same c.begin.ensures.count

pub returns-in-Ok-clause-facts : goal.returns-in-Ok-clause-facts
returns-in-Ok-clause-facts g c = scan_facts _ _ _ _ _ _ _ (invariant_of-result g c)

pub returns-in-Err-clause-err : goal.returns-in-Err-clause-err
returns-in-Err-clause-err g c =
    refuses_header c.args.pages c.args.mark _ _ (g.D.BlockDisk.slot c.args.disk) c.in-Err.fault (g.met.D.BlockDisk.gives_candidates c.args.disk) (g.met.D.BlockDisk.holds_blocks c.args.disk)
    c.requires.settled c.requires.low c.in-Err.ensures.err

pub returns-in-Err-clause-bare : goal.returns-in-Err-clause-bare
returns-in-Err-clause-bare g c log valid low high e = bare_header c.args.pages _ _ log _ c.in-Err.fault low high e (returns-in-Err-clause-err g c)
