-- The number that a count stands for.
use Rattle.std.specs.Prelude.{ℕ, ◌+◌}
use Rattle.als_disk.specs.declared.count.Count.{Count}
use Rattle.als_disk.specs.declared.count.Count.TheVariants.{Zero, More'}

-- how often it was stepped
abbrev pub number : Count → ℕ
number Zero = 0
number (More' mark before) = number before + 1
