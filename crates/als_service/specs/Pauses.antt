-- How long is waited before a primary is asked again.
use Rattle.std.specs.Prelude.{ℕ, ◌*◌, nat_lt, if◌then◌else◌}

-- the pause after one of so many milliseconds: none, 0.1 s, then twice as long each time, up to 5 s
abbrev pub next_pause : ℕ → ℕ
next_pause millis = if nat_lt millis 100 then 100 else (if nat_lt millis 2500 then millis * 2 else 5000)

-- the same after a refusal: 5 s, then twice as long each time, up to 60 s
abbrev pub next_refusal : ℕ → ℕ
next_refusal millis = if nat_lt millis 5000 then 5000 else (if nat_lt millis 30000 then millis * 2 else 60000)
