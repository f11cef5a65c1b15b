use Rattle.std.proofs.Common.{◌≡◌, take, ◌&&◌, true}
use Rattle.als_report.specs.Reading.{has_all}
use Rattle.als_view.specs.Views.{pages_of}
use Rattle.als_report.proofs.reading_many.has_all.Given as goal

-- the keys so far
abbrev pub invariant-loop-i : goal.invariant-loop-i
invariant-loop-i l = l.has ≡ has_all (pages_of l.reader) (take l.i l.keys)
