use Rattle.als_world.proofs.StepLaws.{shows-up}
use Rattle.als_world.proofs.world.World.new.Goals as goal

pub returns-in-Ok-clause-shows : goal.returns-in-Ok-clause-shows
returns-in-Ok-clause-shows g c = λ made warm.
    rw (c.up.ensures, c.new-in-Ok.ensures, ← c.in-Ok.ensures) (shows-up g.D.BlockDisk.slot g.D.BlockDisk.block_count c.args.config c.in-Ok.slots c.args.engine made warm)
