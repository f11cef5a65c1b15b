use Rattle.als_disk.specs.Store.{slot_of}
use Rattle.als_disk.proofs.Full.{HoldsBlocks-same, HoldsBlocks-written}
use Rattle.als_disk.proofs.mem_disk.MemDiskBlockDisk.write.Goals as goal

pub invariant_of-self : goal.invariant_of-self
invariant_of-self c = record {
  room = c.in-Ok.ensures.room;
  in_range = c.in-Ok.ensures.in_range c.args.self.now.blocks c.requires c.args.self.now.in_range;
  contents = HoldsBlocks-written _ (slot_of c.put.new.synced c.put.new.unsynced) c.args.self.now.contents c.args.i c.args.block.now
      (record { len = c.told-block; bytes = c.fits-block }) c.in-Ok.ensures.ok c.in-Ok.ensures.others;
}

pub invariant_of-self-in-Err : goal.invariant_of-self-in-Err
invariant_of-self-in-Err c = record {
  room = c.in-Err.ensures.room;
  in_range = c.in-Err.ensures.in_range c.args.self.now.blocks c.requires c.args.self.now.in_range;
  contents = HoldsBlocks-same _ (slot_of c.put.new.synced c.put.new.unsynced) c.args.self.now.contents c.in-Err.ensures.err;
}
