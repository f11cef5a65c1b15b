use Rattle.als_tests_devices.proofs.ckpt.crashed.Goals as goal

pub returns-clause-settled : goal.returns-clause-settled
returns-clause-settled g c = let keeps = c.crash.ensures.candidate 0 in (keeps.content, keeps.left)

pub returns-clause-blocks : goal.returns-clause-blocks
returns-clause-blocks g c k = let keeps = c.crash.ensures.candidate k in (keeps.content, keeps.left)
