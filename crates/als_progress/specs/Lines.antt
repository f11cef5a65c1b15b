-- What a line says of a work, and when one is due.
use Rattle.std.specs.Prelude.{◌≡◌, ◌≤◌, ◌-◌, ◌*◌, ◌/◌, ◌^◌, ℕ, min, max, Option, Some, IfSome}
use Rattle.als_progress.specs.declared.meter.Line.{Line}
use Rattle.als_progress.specs.declared.meter.Stretch.{Stretch}

-- how many hundredths of a whole are done, at most all
unfoldable pub percent_of : ℕ → ℕ → ℕ
percent_of done whole = min 100 (done * 100 / max 1 whole)

-- how many bytes a second are so many in so many milliseconds, at most what a number holds
unfoldable pub rate_of : ℕ → ℕ → ℕ
rate_of bytes millis = min (2 ^ 64 - 1) (bytes * 1000 / max 1 millis)

-- the line that is due at a time: a second after the last one, or after the first work began
abbrev pub IsDue : Option Stretch → ℕ → ℕ → ℕ → Line → Type 0
IsDue stretch done whole now line = (s : Stretch) × (stretch ≡ Some s) × (1000 ≤ now - s.said)
    × (line.percent ≡ percent_of done whole) × (line.rate ≡ rate_of (done - s.from) (now - s.begun))

-- it was said at a time
abbrev pub WasSaid : Option Stretch → ℕ → Type 0
WasSaid stretch now = IfSome stretch (λ s. s.said ≡ now)
