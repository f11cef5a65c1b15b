-- A transaction that is planned: what is known of the engine, and the piece that is to be fed.
use Rattle.std.specs.Prelude.{◌≡◌, ℕ, ◌+◌, ◌*◌, ◌<◌, ◌≤◌, ◌^◌, true, List, [], ◌++◌, length, None}
use Rattle.als_record.specs.LogText.{spellings, end_of}
use Rattle.als_record.specs.Transactions.{greatest_trans}
use Rattle.als_record.specs.Validity.{IsValidLog}
use Rattle.als_record.specs.Commits.{Write}
use Rattle.als_record.specs.Tail.{tail_of, reserve_of}
use Rattle.als_writing.specs.Writing.{updates, room_for, is_new, MayWrite}
use Rattle.als_writing.specs.declared.place.Place.{Place}
use Rattle.als_writing.specs.Placing.{IsPlaceOf}
use Rattle.als_engine.specs.Machine.{Machine}
use Rattle.als_engine.specs.Refusals.{feed_refusal}
use Rattle.als_writer.specs.declared.closing.Closing.{Closing}
use Rattle.als_writer.specs.declared.planning.Plan.{Plan}
use Rattle.als_writer.specs.declared.transaction.Transaction.{Transaction}
use Rattle.als_writer.specs.Closing.{records_for, extra_of}

-- no part of a record waits, and nothing is owed to the log
pub record IsTidy (m : Machine) : Type 0 where
  pub partial : m.partial ≡ []
  pub owed : tail_of m.held.log ≡ []

-- a new transaction may begin here, and there is room for it with its reserve and so many bytes besides
pub record IsStart (m : Machine) (extra : ℕ) (ws : List Write) (place : Place) : Type 0 where
  pub valid : IsValidLog m.held.pages m.held.log
  pub number : place.trans.0 ≡ greatest_trans m.held.log + 1
  pub width : place.trans.0 < 2 ^ 32
  pub new : is_new m.held.log place.trans.0 ≡ true
  pub behind : IsPlaceOf place m.held.log
  pub fits : end_of m.held.log + reserve_of m.held.log + room_for m.held.log place.trans.0 ws + extra ≤ 512 * m.held.blocks

-- the engine takes records, the transaction may be written, there is room for it, and the piece is it, closed so
pub record IsPlan (m : Machine) (closing : Closing) (t : Transaction) (plan : Plan) : Type 0 where
  pub takes : feed_refusal m ≡ None
  pub tidy : IsTidy m
  pub some : 0 < length t.sets.items
  pub valid : IsValidLog m.held.pages m.held.log
  pub number : plan.trans.0 ≡ greatest_trans m.held.log + 1
  pub may : MayWrite m.held.pages m.held.log plan.trans.0 t.sets.items
  pub fits : end_of m.held.log + reserve_of m.held.log + room_for m.held.log plan.trans.0 t.sets.items + extra_of closing ≤ 512 * m.held.blocks
  pub short : end_of (m.held.log ++ records_for closing m.held.log plan.trans.0 t.sets.items) ≤ 2 ^ 64
  pub spelled : plan.piece.items ≡ spellings (records_for closing m.held.log plan.trans.0 t.sets.items)
  pub lsn : plan.lsn.0 ≡ end_of (m.held.log ++ updates m.held.log plan.trans.0 t.sets.items)
  pub end : plan.end.0 ≡ end_of (m.held.log ++ records_for closing m.held.log plan.trans.0 t.sets.items)
