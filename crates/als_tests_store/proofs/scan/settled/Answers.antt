use Rattle.als_tests_store.proofs.scan.settled.Goals as goal

pub returns-in-Ok : goal.returns-in-Ok
returns-in-Ok g c k = ((c.in-Ok.ensures.ok k).content, (c.in-Ok.ensures.ok k).left)
