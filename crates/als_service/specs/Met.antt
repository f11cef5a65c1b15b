-- The sessions that a history stands for.
use Rattle.std.specs.Prelude.{ℕ, List, [], Option}
use Rattle.als_service.specs.declared.met.Met.{Met}
use Rattle.als_service.specs.declared.met.Met.TheVariants.{Nobody, Began', Ended', Refused'}
use Rattle.als_service.specs.Sessions.{Session, begins, ends, refuses}

-- by what was written to a stream
abbrev pub sessions_of : {S : Type 0} → (S → Option (List ℕ)) → Met S → List Session
sessions_of contents Nobody = []
sessions_of contents (Began' mark before writer) = begins (contents writer.value) (sessions_of contents before)
sessions_of contents (Ended' mark before writer end) = ends (contents writer.value) end.value (sessions_of contents before)
sessions_of contents (Refused' mark before fault) = refuses fault.value (sessions_of contents before)
