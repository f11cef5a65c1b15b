-- The record of an update that is kept in fields of its own.
use Rattle.als_record.specs.declared.lsn.Lsn.{Lsn}
use Rattle.als_record.specs.declared.trans_id.TransId.{TransId}
use Rattle.als_record.specs.declared.key.Key.{Key}
use Rattle.als_record.specs.declared.record.Record.{Record}
use Rattle.als_record.specs.declared.record.Body.TheVariants.{Update}
use Rattle.als_record.specs.Spelling.{Image}

-- the update of a key, by this transaction and at this place, from one image to another
abbrev pub update_of : Lsn → Lsn → TransId → Key → Image → Image → Record
update_of lsn prev trans key before after = record {
  lsn = lsn;
  prev = prev;
  trans = trans;
  body = Update key before after;
}
