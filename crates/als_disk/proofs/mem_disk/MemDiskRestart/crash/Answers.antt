use Rattle.als_disk.specs.Store.{slot_of, slot_of-gives_candidates}
use Rattle.als_disk.proofs.Full.{HoldsBlocks-candidate, KeepsCandidate-picked}
use Rattle.als_disk.proofs.Maps.{ContainsKey-empty}
use Rattle.als_disk.proofs.mem_disk.MemDiskRestart.crash.Goals as goal

pub invariant_of-disk : goal.invariant_of-disk
invariant_of-disk c = record {
  room = λ k has. absurd (ContainsKey-empty c.settle_by-used.new.unsynced c.settle_by-used.ensures.empty k has);
  in_range = λ k has. absurd (ContainsKey-empty c.settle_by-used.new.unsynced c.settle_by-used.ensures.empty k has);
  contents = HoldsBlocks-candidate _ (slot_of c.settle_by-used.new.synced c.settle_by-used.new.unsynced) c.args.self.contents
      (KeepsCandidate-picked _ _ c.args.picks.now (slot_of-gives_candidates c.args.self.synced c.args.self.unsynced) c.settle_by-used.ensures.picked);
}

pub returns-clause-candidate : goal.returns-clause-candidate
returns-clause-candidate c = KeepsCandidate-picked _ _ c.args.picks.now (slot_of-gives_candidates c.args.self.synced c.args.self.unsynced) c.settle_by-used.ensures.picked
