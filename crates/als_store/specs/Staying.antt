-- Devices that were stopped and were not taken up: they still hold what they held.
use Rattle.std.specs.Prelude.{◌≡◌, ℕ, ◌<◌}
use Rattle.als_disk.specs.Slot.{Slot}
use Rattle.als_reopen.specs.Node.{Node, IsNode}
use Rattle.als_reopen.specs.Outcomes.{AreSettled}

-- The blocks that matter are those of settled devices that hold a node: those of the log, the
-- control block and both regions, and those of the pages.
pub record StaysNode (pages blocks : ℕ) (log control page_slots : ℕ → Slot)
    (n : Node) : Type 0 where
  pub log_was : ℕ → Slot
  pub control_was : ℕ → Slot
  pub pages_were : ℕ → Slot
  pub node : IsNode pages blocks log_was control_was pages_were n
  pub log_settled : AreSettled log_was
  pub control_settled : AreSettled control_was
  pub pages_settled : AreSettled pages_were
  pub log_same : (k : ℕ) → k < blocks → log k ≡ log_was k
  pub control_same : (k : ℕ) → k < 321 → control k ≡ control_was k
  pub pages_same : (k : ℕ) → k < pages → page_slots k ≡ pages_were k
