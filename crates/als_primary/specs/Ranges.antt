-- Which numbers of a primary's command are in range.
use Rattle.std.specs.Prelude.{◌≡◌, ◌≤◌, [], None}
use Rattle.als_primary.specs.declared.serving.Serving.{Serving}

-- Each number is in its range. Whoever waits for followers, or names them, listens for them.
pub record AreInRange (s : Serving) : Type 0 where
  pub connections : (1 ≤ s.connections) × (s.connections ≤ 64)
  pub commit_timeout : (1 ≤ s.commit_timeout) × (s.commit_timeout ≤ 3600)
  pub read_for : (1 ≤ s.read_for) × (s.read_for ≤ 3600)
  pub window : (1 ≤ s.window) × (s.window ≤ 64)
  pub timeout : s.timeout ≤ 3600
  pub sync : s.sync ≤ 8
  pub listens : s.listen ≡ None → (s.sync ≡ 0) × (s.followers.now ≡ [])
