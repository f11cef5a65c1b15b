use Rattle.als_rewind.proofs.keeping.check_same.Given as goal

abbrev pub decreases-loop-left : goal.decreases-loop-left
decreases-loop-left g l = l.left
