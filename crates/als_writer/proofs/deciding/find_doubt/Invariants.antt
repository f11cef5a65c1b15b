use Rattle.std.proofs.Common.{◌≡◌, false, take}
use Rattle.std.specs.List.{list_any}
use Rattle.als_writer.specs.Deciding.{doubts_it}
use Rattle.als_writer.proofs.deciding.find_doubt.Given as goal

abbrev pub invariant-loop-row : goal.invariant-loop-row
invariant-loop-row l = list_any (doubts_it l.trans) (take l.row-index l.rows) ≡ false
