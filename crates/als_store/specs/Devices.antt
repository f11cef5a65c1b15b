-- What the devices of a store hold, whatever a crash leaves of them.
use Rattle.std.specs.Prelude.{ℕ, ◌*◌, ◌<◌, ◌≤◌, List, ◌∷◌, Contains}
use Rattle.als_record.specs.LogText.{log_text, end_of}
use Rattle.als_record.specs.Validity.{IsValidLog}
use Rattle.als_disk.specs.Slot.{Slot}
use Rattle.als_log.specs.Local.{IsFrontEnd}
use Rattle.als_log.specs.Texts.{AllHaveText}
use Rattle.als_ckpt.specs.declared.control_state.ControlState.{ControlState}
use Rattle.als_ckpt.specs.Control.{Spells, IsControlState}
use Rattle.als_dirty.specs.Rows.{rec_lsn_of}
use Rattle.als_pool.specs.Images.{IsRowSound}
use Rattle.als_store.specs.Stored.{Stored, acknowledged, FrontsFit}

-- the bytes of a control block with a mark that is acknowledged or above, and below which the whole
-- log is synced
pub record IsControlOf (s : Stored) (content : List ℕ) : Type 0 where
  pub state : ControlState
  pub one : Contains (s.control ∷ s.since) state
  pub spelled : Spells s.pages state content
  pub formed : IsControlState (512 * s.blocks) state
  pub above : acknowledged s ≤ state.mark.0
  pub below : state.mark.0 ≤ s.synced
  pub front : IsFrontEnd s.log state.mark.0

-- Every candidate of the log device has the log's text below the synced end, and every candidate
-- control block has a mark from the acknowledged LSN to the synced end. So a crash leaves, whatever
-- it picks, all acknowledged bytes below the mark.
pub record AreKept (s : Stored) (log control : ℕ → Slot) : Type 0 where
  pub text : AllHaveText (λ b. (log b).candidates) (log_text s.pages s.log) s.synced
  pub marks : (content : List ℕ) → Contains (control 0).candidates content → IsControlOf s content
  pub valid : IsValidLog s.pages s.log
  pub room : end_of s.log ≤ 512 * s.blocks
  pub fit : FrontsFit s.blocks (acknowledged s) s.log

-- Whatever a crash leaves in a page's block is an image of the page from below what is
-- acknowledged, which lacks no record of the log below the page's RecLSN, and none where the page
-- has no row.
abbrev pub AreImages : Stored → (ℕ → Slot) → Type 0
AreImages s blocks =
    (page : ℕ) (content : List ℕ) → page < s.pages → Contains (blocks page).candidates content
    → IsRowSound s.log page (acknowledged s) (rec_lsn_of s.pool.dirty page) content
