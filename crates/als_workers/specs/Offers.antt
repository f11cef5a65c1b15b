-- What a worker offered to `give`.
use Rattle.std.specs.Prelude.{List, [], ◌∷◌, ◌++◌}
use Rattle.als_lease.specs.Lease.{Leased, turn_of, is_finished}
use Rattle.als_workers.specs.declared.offer.Offer.{Offer}
use Rattle.als_workers.specs.declared.via.Via.{Via}
use Rattle.als_workers.specs.declared.ghost_offers.Offered.{Offered}
use Rattle.als_workers.specs.declared.ghost_offers.Offered.TheVariants.{Nothing, Then'}

-- the events to which leases were offered
abbrev pub events_of : {E O : Type 0} → Via E O → E
events_of via = via.events

-- the record of what was offered
abbrev pub record_of : {E O : Type 0} → Via E O → O
record_of via = via.offers

-- what is recorded of a lease
abbrev pub offer_of : Leased → Offer
offer_of l = record { number = l.number; turn = turn_of l; finished = is_finished l }

-- the offers of a record that contracts alone see
abbrev pub offers_in : Offered → List Offer
offers_in Nothing = []
offers_in (Then' mark before offer) = offers_in before ++ offer ∷ []
