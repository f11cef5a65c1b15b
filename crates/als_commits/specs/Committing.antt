-- The commit that a record makes, out of the updates that survive of its transaction.
use Rattle.std.specs.Prelude.{List, filter_map}
use Rattle.als_record.specs.declared.trans_id.TransId.{TransId}
use Rattle.als_record.specs.declared.lsn.Lsn.{Lsn}
use Rattle.als_record.specs.declared.record.Record.{Record}
use Rattle.als_record.specs.Commits.{Commit, Write, write_of}

-- what updates write, in order
abbrev pub writes_in : List Record → List Write
writes_in updates = filter_map (λ u. write_of u.body) updates

-- the commit of a transaction by a record at an LSN, where these updates of it survive
abbrev pub commit_with : TransId → Lsn → List Record → Commit
commit_with trans lsn survivors = record { trans = trans; lsn = lsn; writes = writes_in survivors }
