use Rattle.als_world.proofs.CrashLaws.{at_once, later, still}
use Rattle.als_world.proofs.laws.a_restart_is_a_crash_on_the_wire.Goals as goal

pub returns : goal.returns
returns c = record { at_once = at_once; later = later; still = still }
