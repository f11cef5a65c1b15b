-- How long a log's device may become.
use Rattle.std.specs.Prelude.{ℕ, nat_lt, Result, Ok, Err, if◌then◌else◌}
use Rattle.als_lookback.specs.declared.fault.Fault.{Fault}
use Rattle.als_lookback.specs.declared.fault.Fault.TheVariants.{NotLonger, TooLong}

-- Whether a device of so many blocks may get so many: not more than the largest log has, and not fewer than it has. As many are taken: an
-- earlier call may have ended before it synced them.
abbrev pub answer_of : ℕ → ℕ → Result (Unit {0}) Fault
answer_of had blocks = if nat_lt 4194304 blocks then Err TooLong else if nat_lt blocks had then Err (NotLonger had) else Ok tt
