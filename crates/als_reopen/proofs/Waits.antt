-- The commits of a log that is being read wait for the readers.
use Rattle.std.proofs.Common.{◌≡◌, List, [], sym, ap}
use Rattle.als_record.specs.declared.record.Record.{Record}
use Rattle.als_record.specs.Commits.{commits_of}

-- a log without a record has no commits
pub none_wait : (log : List Record) → log ≡ [] → [] ≡ commits_of log
unfolding commits_of
none_wait log e = sym (ap commits_of e)
