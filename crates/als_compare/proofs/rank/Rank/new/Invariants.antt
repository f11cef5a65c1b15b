use Rattle.std.proofs.Common.{◌≡◌, drop}
use Rattle.als_compare.specs.Ranks.{last_below}
use Rattle.als_compare.proofs.rank.Rank.new.Given as goal

abbrev pub invariant-loop-seal : goal.invariant-loop-seal
invariant-loop-seal l = last_below l.last (drop l.seal-index l.seal-items) l.end ≡ last_below 0 l.seal-items l.end
