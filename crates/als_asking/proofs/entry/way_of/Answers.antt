use Rattle.als_asking.proofs.entry.way_of.Goals as goal

pub returns : goal.returns
returns c = cc
