use Rattle.std.proofs.Common.{arith}
use Rattle.als_workers.specs.Pairs.{pairs_in}
use Rattle.als_workers.proofs.Moves.{learns}
use Rattle.als_workers.proofs.queue.HandOff.settle.Goals as goal

pub learn_as-requires-clause-rule : goal.learn_as-requires-clause-rule
learn_as-requires-clause-rule c = learns _ _ c.requires.parts

pub returns-clause-whole : goal.returns-clause-whole
returns-clause-whole c = let (jobs, fact) = c.learn_as.ensures.rule in (pairs_in jobs, fact.0)

pub returns-clause-stops : goal.returns-clause-stops
returns-clause-stops c = let (jobs, fact) = c.learn_as.ensures.rule in omega (arith, fact.1)
