-- What a commit writes, where its copies share it.
use Rattle.std.specs.Prelude.{List, [], Option, Some, None}
use Rattle.als_record.specs.Commits.{Write}

-- the writes that are kept, if any are
abbrev pub writes_kept : Option (List Write) → List Write
writes_kept None = []
writes_kept (Some writes) = writes
