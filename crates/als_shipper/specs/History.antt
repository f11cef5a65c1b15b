-- The visits that a history stands for.
use Rattle.std.specs.Prelude.{ℕ, List, [], Option}
use Rattle.als_shipper.specs.declared.history.History.{History}
use Rattle.als_shipper.specs.declared.history.History.TheVariants.{Nobody, Came', Went'}
use Rattle.als_shipper.specs.Visits.{Visit, comes, goes}

-- by what a stream gives to read, and what was written to it
abbrev pub visits_of : {S : Type 0} → (S → Option (List ℕ)) → (S → Option (List ℕ)) → History S → List Visit
visits_of remaining contents Nobody = []
visits_of remaining contents (Came' mark before reader writer) = comes (remaining reader.value) (contents writer.value) (visits_of remaining contents before)
visits_of remaining contents (Went' mark before reader writer) = goes (remaining reader.value) (contents writer.value) (visits_of remaining contents before)
