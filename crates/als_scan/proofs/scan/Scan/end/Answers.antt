use Rattle.als_scan.proofs.ScanLaws.{facts_seen}
use Rattle.als_scan.proofs.scan.Scan.end.Goals as goal

pub returns-clause-facts : goal.returns-clause-facts
returns-clause-facts g c = facts_seen _ _ _ _ _ _ _ c.args.self.now c.self.view_is c.self.invariant
