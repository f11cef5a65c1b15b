use Rattle.std.proofs.Common.{ℕ, ◌≤◌, ap, sym, subst}
use Rattle.als_engine.specs.Machine.{Machine}
use Rattle.als_engine.specs.Readers.{AreReaders}
use Rattle.als_world.proofs.StepLaws.{shows-formatted}
use Rattle.als_world.proofs.world.World.format.Goals as goal

pub new-requires-in-Ok-format-clause-readers : goal.new-requires-in-Ok-format-clause-readers
new-requires-in-Ok-format-clause-readers g c =
    let made = c.in-Ok-format.ensures in
    subst (λ (n : ℕ). AreReaders c.in-Ok-format.engine.book n c.in-Ok-format.readers.items) (sym (ap (λ (m : Machine). m.held.pages) made.ok)) made.readers.0

pub new-requires-in-Ok-format-clause-some : goal.new-requires-in-Ok-format-clause-some
new-requires-in-Ok-format-clause-some g c = subst (λ (n : ℕ). 1 ≤ n) (sym c.in-Ok-format.ensures.readers.1) c.in-Ok-format.ensures.fits.numbers.some_readers

pub returns-in-Ok-format-clause-shows : goal.returns-in-Ok-format-clause-shows
returns-in-Ok-format-clause-shows g c =
    let made = c.in-Ok-format.ensures in
    let engine = c.in-Ok-format.engine in (
      engine.machine,
      made.ok,
      rw (c.up.ensures, c.new-in-Ok-format.ensures, ← c.in-Ok.ensures) (shows-formatted g.D.BlockDisk.slot g.D.BlockDisk.block_count c.args.config c.in-Ok.slots engine _ _ _ _ _ made.fits.numbers made.ok made.warm),
    )
