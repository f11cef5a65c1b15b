use Rattle.als_disk.specs.Store.{slot_of, slot_of-gives_candidates, only_newest-readable}
use Rattle.als_disk.proofs.Full.{HoldsBlocks-candidate, KeepsCandidate-readable}
use Rattle.als_disk.proofs.Maps.{ContainsKey-empty}
use Rattle.als_disk.proofs.mem_disk.MemDiskBlockDisk.sync.Goals as goal

pub invariant_of-self : goal.invariant_of-self
invariant_of-self c = record {
  room = λ k has. absurd (ContainsKey-empty c.settle.new.unsynced c.settle.ensures.empty k has);
  in_range = λ k has. absurd (ContainsKey-empty c.settle.new.unsynced c.settle.ensures.empty k has);
  contents = HoldsBlocks-candidate _ (slot_of c.settle.new.synced c.settle.new.unsynced) c.args.self.now.contents
      (KeepsCandidate-readable _ _ (slot_of-gives_candidates c.args.self.now.synced c.args.self.now.unsynced) c.settle.ensures.readable);
}

pub returns-clause-newest : goal.returns-clause-newest
returns-clause-newest c = λ k. only_newest-readable c.args.self.now.synced c.args.self.now.unsynced k _ (c.settle.ensures.readable k)
