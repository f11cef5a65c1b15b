use Rattle.std.specs.Prelude.{ℕ}
use Rattle.als_sim.specs.declared.ending.Ending.{Ending}
use Rattle.als_sim.specs.declared.ending.Ending.TheVariants.{Ran, WorldRefused}

-- the exit status of a script: 0 where its lines were run, 3 where its world was refused
abbrev pub status_of : Ending → ℕ
status_of (Ran left) = 0
status_of WorldRefused = 3
