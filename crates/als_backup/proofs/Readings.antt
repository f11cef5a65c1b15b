-- A text that is read, piece by piece.
use Rattle.std.proofs.Common.{◌≡◌, ℕ, List, [], ◌++◌, Option, sym, ap, ◌∙◌, append_assoc, append-nil}
use Rattle.std.specs.Io.KnownBytes.{Consumes, Appends}
use Rattle.std.proofs.KnownBytes.{Consumes-nil, Consumes-trans, Appends-nil, Appends-trans}

-- bytes were added to what was there, and read
abbrev pub Adds : List ℕ → List ℕ → Option (List ℕ) → Option (List ℕ) → Type 0
Adds old new before behind = (more : List ℕ) × (new ≡ old ++ more) × Consumes before behind more

pub adds_none : (old : List ℕ) (before : Option (List ℕ)) → Adds old old before before
adds_none old before = ([], sym (append-nil old), Consumes-nil before)

pub adds_more : (a b c piece : List ℕ) (before between behind : Option (List ℕ)) → Adds a b before between → c ≡ b ++ piece → Consumes between behind piece → Adds a c before behind
adds_more a b c piece before between behind (more, e, read) f one =
    (more ++ piece, f ∙ ap (λ (xs : List ℕ). xs ++ piece) e ∙ append_assoc a more piece, Consumes-trans before between behind more piece read one)

-- and written
abbrev pub Pours : List ℕ → List ℕ → Option (List ℕ) → Option (List ℕ) → Option (List ℕ) → Option (List ℕ) → Type 0
Pours old new before behind out more_out = (more : List ℕ) × (new ≡ old ++ more) × Consumes before behind more × Appends out more_out more

pub pours_none : (old : List ℕ) (before out : Option (List ℕ)) → Pours old old before before out out
pours_none old before out = ([], sym (append-nil old), Consumes-nil before, Appends-nil out)

pub pours_more : (a b c piece : List ℕ) (before between behind out mid_out more_out : Option (List ℕ)) → Pours a b before between out mid_out → c ≡ b ++ piece → Consumes between behind piece → Appends mid_out more_out piece
    → Pours a c before behind out more_out
pours_more a b c piece before between behind out mid_out more_out (more, e, read, written) f one last = (
  more ++ piece,
  f ∙ ap (λ (xs : List ℕ). xs ++ piece) e ∙ append_assoc a more piece,
  Consumes-trans before between behind more piece read one,
  Appends-trans out mid_out more_out more piece written last,
)
