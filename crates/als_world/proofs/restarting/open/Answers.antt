use Rattle.std.proofs.Common.{ℕ, ◌≤◌, sym, subst}
use Rattle.als_engine.specs.Readers.{AreReaders}
use Rattle.als_world.proofs.StepLaws.{opens-up, opens-down}
use Rattle.als_world.proofs.restarting.open.Goals as goal

pub new-requires-clause-readers : goal.new-requires-clause-readers
new-requires-clause-readers g c =
    subst (λ (n : ℕ). AreReaders c.in-Ok.engine.book n c.in-Ok.readers.items) (sym c.in-Ok.ensures.ok.made.pages) c.in-Ok.ensures.readers.0

pub new-requires-clause-some : goal.new-requires-clause-some
new-requires-clause-some g c = subst (λ (n : ℕ). 1 ≤ n) (sym c.in-Ok.ensures.readers.1) c.in-Ok.ensures.fits.numbers.some_readers

pub returns-in-Ok-clause-opens : goal.returns-in-Ok-clause-opens
returns-in-Ok-clause-opens g c = λ n workers holds empty.
    rw (c.up.ensures, c.new.ensures)
    (opens-up g.D.BlockDisk.slot g.D.BlockDisk.block_count c.args.config c.args.slots n workers c.in-Ok.engine c.status.result.end c.status.ensures.end (c.in-Ok.ensures.warm n holds) empty)

pub returns-in-Err-clause-opens : goal.returns-in-Err-clause-opens
returns-in-Err-clause-opens g c = λ n workers holds empty.
    rw c.down.ensures (opens-down g.D.BlockDisk.slot g.D.BlockDisk.block_count c.args.config c.args.slots n workers c.in-Err.refused.disks c.in-Err.refused.fault (c.in-Err.ensures.bare n holds) empty)
