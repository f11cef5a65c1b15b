use Rattle.als_engine.specs.declared.fault.Fault.TheVariants as fault
use Rattle.std.proofs.Common.{Err}
use Rattle.als_world.specs.Standing.{Standing}
use Rattle.als_world.specs.Asking.{TellsRecord}
use Rattle.als_world.proofs.AskLaws.{stays-read, tells-up, tells-down, told-record, told-record-down}
use Rattle.als_world.proofs.world.World.record_at.Goals as goal

pub returns-in-Up-clause-tells : goal.returns-in-Up-clause-tells
returns-in-Up-clause-tells g c =
    let old = c.in-Up.standby in
    let new = c.record_at.new.self in
    tells-up g.D.BlockDisk.slot g.D.BlockDisk.block_count c.args.self.now (λ (a : Standing). λ (b : Standing). TellsRecord a c.args.lsn c.record_at.result b) old new c.in-Up.is
    (stays-read old.machine c.args.lsn c.record_at.result new.machine c.record_at.ensures.reads) (told-record old.machine c.args.self.now.slots c.args.lsn c.record_at.result new.machine c.record_at.ensures.reads)

pub returns-in-Down-clause-tells : goal.returns-in-Down-clause-tells
returns-in-Down-clause-tells g c =
    tells-down g.D.BlockDisk.slot g.D.BlockDisk.block_count c.args.self.now (λ (a : Standing). λ (b : Standing). TellsRecord a c.args.lsn (Err fault.Stopped) b) c.in-Down.field-0 c.in-Down.is
    (told-record-down c.args.lsn)
