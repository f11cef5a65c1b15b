use Rattle.als_tests_devices.proofs.ckpt.again.stopped.Goals as goal

pub returns-clause-settled : goal.returns-clause-settled
returns-clause-settled g c = let keeps = c.crash.ensures.candidate 0 in (keeps.content, keeps.left)
