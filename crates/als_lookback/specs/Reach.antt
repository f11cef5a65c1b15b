-- How much of a source a look reads.
use Rattle.std.specs.Prelude.{ℕ, min}
use Rattle.als_lookback.specs.declared.until.Until.{Until}
use Rattle.als_lookback.specs.declared.until.Until.TheVariants.{End, At}

-- how many of so many bytes are read, up to where it looks
unfoldable pub reach_of : Until → ℕ → ℕ
reach_of End end = end
reach_of (At lsn) end = min lsn.0 end
