use Rattle.als_store.proofs.store.crashing.crash_one.Goals as goal

pub returns-clause-settled : goal.returns-clause-settled
returns-clause-settled g c =
    λ k. ((c.crash.ensures.candidate k).content, (c.crash.ensures.candidate k).left)
