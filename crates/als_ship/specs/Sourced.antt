-- What a shipper sends.
use Rattle.std.specs.Prelude.{◌≡◌, ℕ, List, ◌++◌}
use Rattle.als_record.specs.declared.record.Record.{Record}
use Rattle.als_record.specs.LogText.{log_text, end_of}
use Rattle.als_log.specs.Local.{whole_end}
use Rattle.als_store.specs.Stored.{acknowledged}
use Rattle.als_store.specs.Takeover.{history_of}
use Rattle.als_engine.specs.Machine.{Machine}

-- a log text, header and all, and the history of the node whose log it is
pub record Sourced : Type 0 where
  pub text : List ℕ
  pub seals : List ℕ

-- a text is that of a log up to its last record that ends at or below a limit
pub record SpellsTo (pages : ℕ) (log : List Record) (limit : ℕ) (text : List ℕ) : Type 0 where
  pub front : List Record
  pub rest : List Record
  pub parts : log ≡ front ++ rest
  pub ends : end_of front ≡ whole_end log limit
  pub spelled : text ≡ log_text pages front

-- It is what a node has acknowledged of its log, with its history.
pub record IsAcknowledged (m : Machine) (s : Sourced) : Type 0 where
  pub log : SpellsTo m.held.pages m.held.log (acknowledged m.held) s.text
  pub seals : s.seals ≡ history_of m.held
