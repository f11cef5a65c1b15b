-- What a shipper has sent, also where the session ends early.
use Rattle.std.proofs.Common.{◌≡◌, ℕ, List, [], length, Option, None, inl, inr}
use Rattle.als_record.specs.declared.lsn.Lsn.{Lsn}
use Rattle.als_wire.specs.Frames.{data_bytes, epochs_bytes}
use Rattle.als_wire.specs.Sending.{Puts}
use Rattle.als_ship.specs.Wire.{IsMet, Pours, PoursPart, EndsServing, SendsTrue}
use Rattle.als_ship.proofs.Pieces.{puts_all}

-- the own history, and pieces behind it
pub sends_part : (text own : List ℕ) (from pages : ℕ) (first asked old then new : Option (List ℕ)) (kept : Option Lsn) → IsMet text own from pages first asked old then → PoursPart text (length own) from asked then new kept → SendsTrue text own old new
sends_part text own from pages first asked old then new kept met part =
    inr (record { from = from; at = part.at; len = part.len; pieces = part.pieces; are = part.are; then = then; told = met.told; sent = part.sent; whole = part.told; more = part.more })

-- the own history, all pieces and the empty frame
pub sends_all : (text own : List ℕ) (from pages : ℕ) (first asked behind old then new : Option (List ℕ)) (kept : Option Lsn) → IsMet text own from pages first asked old then → Pours text (length own) from asked behind then new kept → SendsTrue text own old new
sends_all text own from pages first asked behind old then new kept met all =
    inr (record {
      from = from;
      at = length text;
      len = 0;
      pieces = all.pieces;
      are = all.are;
      then = then;
      told = met.told;
      sent = all.sent;
      whole = all.told;
      more = puts_all (data_bytes (length own) (length text) []) all.sent new all.closed;
    })

-- a session that ended early
pub ends_part : (text own : List ℕ) (from pages : ℕ) (first asked old then new : Option (List ℕ)) (kept : Option Lsn) → IsMet text own from pages first asked old then → PoursPart text (length own) from asked then new kept → EndsServing text own first old new kept
ends_part text own from pages first asked old then new kept met part = inr (record { from = from; pages = pages; between = asked; then = then; met = met; part = part })

-- one in which nothing was answered
pub ends_none : (text own : List ℕ) (first old new : Option (List ℕ)) (kept : Option Lsn) → kept ≡ None → Puts (epochs_bytes own) old new → EndsServing text own first old new kept
ends_none text own first old new kept none puts = inl (none, puts)
