use Rattle.std.specs.Prelude.{ℕ, ◌≡◌, ◌⊎◌}
use Rattle.als_program.specs.declared.failure.Failure.{Failure}
use Rattle.als_program.specs.declared.failure.Failure.TheVariants.{Usage, BadLine, BytesOnTerminal, TextOnTerminal, Memory, TooLong, Unreadable, Stream, Refused}

-- the exit status of a failure: 2 for what the caller wrote, 3 for a refusal
abbrev pub status_of : Failure → ℕ
status_of (Usage _) = 2
status_of (BadLine _) = 2
status_of BytesOnTerminal = 2
status_of TextOnTerminal = 2
status_of Memory = 3
status_of TooLong = 3
status_of Unreadable = 3
status_of Stream = 3
status_of (Refused _) = 3

-- the exit statuses of the program: done, a fault of what the caller wrote, a refusal
abbrev pub IsStatus : ℕ → Type 0
IsStatus n = (n ≡ 0) ⊎ (n ≡ 2) ⊎ (n ≡ 3)
