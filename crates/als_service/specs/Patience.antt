-- How long an answer may take, by how many tries before were over.
use Rattle.std.specs.Prelude.{ℕ, ◌*◌, nat_lt, if◌then◌else◌}

-- how many times as long the next try may take: twice as many times as the last one, up to 16
abbrev pub next_factor : ℕ → ℕ
next_factor factor = if nat_lt factor 16 then factor * 2 else factor
