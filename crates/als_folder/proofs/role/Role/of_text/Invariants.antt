use Rattle.std.proofs.Common.{◌+◌, ◌-◌, ◌≡◌, ◌≢◌, ◌≤◌, ◌<◌, ℕ}
use Rattle.als_folder.specs.Roles.{role_text}
use Rattle.als_folder.proofs.role.Role.of_text.Given as goal

abbrev pub invariant-loop-epoch : goal.invariant-loop-epoch
invariant-loop-epoch l = record {
  within : l.epoch ≤ 33;
  none : (e : ℕ) → e < l.epoch → l.text ≢ role_text e;
}

abbrev pub decreases-loop-epoch : goal.decreases-loop-epoch
decreases-loop-epoch l = 32 + 1 - l.epoch
