use Rattle.als_scan.proofs.ScanLaws.{slot_seen}
use Rattle.als_scan.proofs.scan.Scan.into_disk.Goals as goal

pub returns-clause-same : goal.returns-clause-same
returns-clause-same g c k lt = slot_seen _ _ _ _ _ k _ (g.D.BlockDisk.slot c.self.inside.disk) c.args.self c.self.view_is lt
