use Rattle.als_world.proofs.KeepLaws.{stays}
use Rattle.als_world.proofs.leasing.lend.Goals as goal

-- the slot refused the step before the engine was asked
pub returns-then-not-is_free-clause-keeps : goal.returns-then-not-is_free-clause-keeps
returns-then-not-is_free-clause-keeps g c = stays c.args.engine.now.machine
