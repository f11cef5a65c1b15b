use Rattle.std.proofs.Common.{sym, subst, ◌∙◌}
use Rattle.als_store.specs.Stopped.{AreStopped, devices_of}
use Rattle.als_engine.specs.Serving.{Serving}
use Rattle.als_world.specs.Standing.{Standing, IsLeftBy}
use Rattle.als_world.proofs.StepLaws.{all-up, all-down}
use Rattle.als_world.proofs.world.World.into_disks.Goals as goal

pub returns-in-Up : goal.returns-in-Up
returns-in-Up g c = record {
  left = all-up g.D.BlockDisk.slot g.D.BlockDisk.block_count c.args.self
      (λ (s : Standing). IsLeftBy g.D.BlockDisk.slot g.D.BlockDisk.block_count c.args.self.config s c.into_disks.result) c.in-Up.standby
      (sym c.into_parts-slots.ensures.place ∙ c.in-Up.is)
      (λ slots warm. subst (λ (e : Serving). AreStopped e.machine.held (devices_of g.D.BlockDisk.slot g.D.BlockDisk.block_count c.into_disks.result)) c.into_engine.ensures
      c.into_disks.ensures.stopped);
}

pub returns-in-Down : goal.returns-in-Down
returns-in-Down g c = record {
  left = all-down g.D.BlockDisk.slot g.D.BlockDisk.block_count c.args.self
      (λ (s : Standing). IsLeftBy g.D.BlockDisk.slot g.D.BlockDisk.block_count c.args.self.config s c.in-Down.disks) c.in-Down.disks
      (sym c.into_parts-slots.ensures.place ∙ c.in-Down.is) (λ n workers held. held);
}
