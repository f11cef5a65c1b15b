use Rattle.als_tests_devices.proofs.ckpt.reading.device.Goals as goal

pub returns-clause-settled : goal.returns-clause-settled
returns-clause-settled c k = (_, c.sync.ensures.newest k)
