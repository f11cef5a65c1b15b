use Rattle.als_log.proofs.blocks.lay_out.Goals as goal

pub returns-clause-settled : goal.returns-clause-settled
returns-clause-settled g c k = ((c.in_ok-sync.ensures.ok k).content, (c.in_ok-sync.ensures.ok k).left)
