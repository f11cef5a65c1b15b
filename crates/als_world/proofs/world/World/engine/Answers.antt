use Rattle.als_world.proofs.AskLaws.{engine-in, engine-down}
use Rattle.als_world.proofs.world.World.engine.Goals as goal

pub returns-in-Up : goal.returns-in-Up
returns-in-Up g c = record {
  engine = engine-in g.D.BlockDisk.slot g.D.BlockDisk.block_count c.args.self.now c.engine.result c.in-Up.standby c.in-Up.is c.engine.ensures;
}

pub returns-in-Down : goal.returns-in-Down
returns-in-Down g c = record { engine = engine-down g.D.BlockDisk.slot g.D.BlockDisk.block_count c.args.self.now c.in-Down.field-0 c.in-Down.is }
