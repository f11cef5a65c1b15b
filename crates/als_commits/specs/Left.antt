-- Writes that are read one after another.
use Rattle.std.specs.Prelude.{List}
use Rattle.als_record.specs.Commits.{Write}
use Rattle.als_commits.specs.declared.writes_left.WritesLeft.{WritesLeft}
use Rattle.als_commits.specs.Packing.{writes_packed}

-- the writes that are left to be read
abbrev pub writes_left : WritesLeft → List Write
writes_left w = writes_packed w.heads.now w.values.now
