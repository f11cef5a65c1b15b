-- Sessions of a node's log.
use Rattle.std.proofs.Common.{ℕ, List, Option, refl, inl, inr}
use Rattle.std.proofs.KnownBytes.{Keeps-refl}
use Rattle.als_wire.specs.Frames.{epochs_bytes}
use Rattle.als_wire.proofs.Putting.{puts_nothing}
use Rattle.als_sending.specs.Session.{IsUnbegun}
use Rattle.als_followers.specs.Serving.{IsOfSession}

-- nothing was read or sent
pub session_none : (window pages : ℕ) (own : List ℕ) (asked : Option (List ℕ)) (heard : List ℕ) (begun old : Option (List ℕ)) → IsOfSession window pages own asked heard heard begun begun old old
session_none window pages own asked heard begun old =
    let unbegun : IsUnbegun own begun begun heard heard old old = record { none = refl; kept = Keeps-refl begun; told = puts_nothing (epochs_bytes own) old } in
    inr (0, record { came = asked; known = inr refl; hears = inl refl; keeps = inl (puts_nothing (epochs_bytes own) old); begins = inl unbegun })
