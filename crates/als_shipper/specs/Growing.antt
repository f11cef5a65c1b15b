-- What those who came were sent of a log that may grow.
use Rattle.std.specs.Prelude.{◌≡◌, ◌⊎◌, ℕ, List, [], ◌∷◌, Option}
use Rattle.std.specs.Io.KnownBytes.{Appends}
use Rattle.als_wire.specs.Frames.{epochs_bytes}
use Rattle.als_wire.specs.Sending.{Puts}
use Rattle.als_sending.specs.Reads.{Read}
use Rattle.als_sending.specs.Sent.{SendsTrue}
use Rattle.als_sending.specs.Session.{Hears, KeepsWindow, Sends}
use Rattle.als_shipper.specs.Lines.{sent_line}
use Rattle.als_shipper.specs.Visits.{Visit}

-- One came at most, who was sent true frames of the text and the own history.
abbrev pub GetsTrue : List ℕ → List ℕ → List Visit → List Visit → Type 0
GetsTrue text own old new = (new ≡ old) ⊎ ((last : Visit) × (new ≡ last ∷ old) × SendsTrue text own last.told last.after)

-- One came at most. What it acknowledged are the answers that were read of it, and no more frames are without one than the window has room for.
abbrev pub GetsWithin : ℕ → ℕ → ℕ → List ℕ → List Visit → List Visit → Type 0
GetsWithin window pages end own old new =
    (new ≡ old)
    ⊎ ((last : Visit) × (new ≡ last ∷ old) × (heard : List ℕ) × Hears pages end own [] heard last.asked last.told × KeepsWindow window own [] heard last.told last.after)

-- One came, who was sent nothing but the own history or a front of it.
abbrev pub GetsNothing : List ℕ → List Visit → List Visit → Type 0
GetsNothing own old new = (last : Visit) × (new ≡ last ∷ old) × Puts (epochs_bytes own) last.told last.after

-- One came, who was sent all from where it goes on to the end that the log told last, and answered each frame: n log bytes were new to it.
abbrev pub GetsSome : ℕ → ℕ → List ℕ → List Read → List Read → List Visit → List Visit → ℕ → Type 0
GetsSome pages end own reads reads_now old new n =
    (last : Visit) × (new ≡ last ∷ old) × (heard : List ℕ) × Sends pages end own reads reads_now [] heard last.asked last.behind last.told last.after n

-- The same, and the line that was printed tells how many log bytes that were.
abbrev pub GetsAll : ℕ → ℕ → List ℕ → List Read → List Read → List Visit → List Visit → (printed after : Option (List ℕ)) → Type 0
GetsAll pages end own reads reads_now old new printed after =
    (n : ℕ) × GetsSome pages end own reads reads_now old new n × Appends printed after (sent_line n)
