-- What a command prints.
use Rattle.std.specs.Prelude.{ℕ, List, [], ◌∷◌, ◌++◌, Option, codes}
use Rattle.std.specs.Fmt.{decimal}
use Rattle.std.specs.Io.KnownBytes.{Appends}
use Rattle.als_record.specs.declared.header.LogHeader.{LogHeader}
use Rattle.als_record.specs.declared.lsn.Lsn.{Lsn}
use Rattle.als_ship.specs.Wire.{Ships}
use Rattle.als_shipper.specs.Visits.{Visit, ShipsLast, ShipsTo}

-- the line of a session: how many log bytes it sent
abbrev pub sent_line : ℕ → List ℕ
sent_line n = codes "sent=" ++ decimal n ++ 10 ∷ []

-- a session has told the history and sent all of the text from where the follower goes on, and the line that was printed tells how many bytes that were
abbrev pub Tells : List ℕ → List ℕ → LogHeader → (asked behind old new printed after : Option (List ℕ)) → Type 0
Tells text seals header asked behind old new printed after = (n : ℕ) × (kept : Option Lsn) × Ships text seals header asked behind old new n kept × Appends printed after (sent_line n)

-- the next who came was sent all of the text from where it goes on, and the line that was printed tells how many bytes that were
abbrev pub TellsLast : List ℕ → List ℕ → LogHeader → List Visit → List Visit → (printed after : Option (List ℕ)) → Type 0
TellsLast text seals header old new printed after = (n : ℕ) × (kept : Option Lsn) × ShipsLast text seals header old new n kept × Appends printed after (sent_line n)

-- the same of the last who came, where those before it were passed over
abbrev pub TellsTo : List ℕ → List ℕ → LogHeader → List Visit → List Visit → (printed after : Option (List ℕ)) → Type 0
TellsTo text seals header old new printed after = (n : ℕ) × (kept : Option Lsn) × ShipsTo text seals header old new n kept × Appends printed after (sent_line n)
