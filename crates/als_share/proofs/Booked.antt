-- Books that were the tally are it after an event.
use Rattle.std.proofs.Common.{◌≡◌, ℕ, List, sym, ap, ◌∙◌}
use Rattle.std.specs.Prelude.{Result}
use Rattle.als_engine.specs.declared.event.Event.{Event}
use Rattle.als_engine.specs.declared.event.Event.TheVariants as event
use Rattle.als_engine.specs.declared.fed.Fed.{Fed}
use Rattle.als_engine.specs.declared.fed.FeedFault.{FeedFault}
use Rattle.als_engine.specs.Tally.{place_of, raised, counted_ok, taken_of, TellsOk, TellsTaken}

pub booked : {A B : Type 0} → (made : Event) (answer : Result A B) (books tally books' tally' : List ℕ) → books ≡ tally
    → TellsOk made answer books books' → TellsOk made answer tally tally' → books' ≡ tally'
booked made answer books tally books' tally' same noted told = noted ∙ ap (counted_ok (place_of made) answer) same ∙ sym told

pub booked_taken : (answer : Result Fed FeedFault) (books tally books' tally' : List ℕ) → books ≡ tally
    → TellsTaken answer books books' → TellsTaken answer tally tally' → books' ≡ tally'
booked_taken answer books tally books' tally' same noted told = noted ∙ ap (raised (place_of event.Feed) (taken_of answer)) same ∙ sym told
