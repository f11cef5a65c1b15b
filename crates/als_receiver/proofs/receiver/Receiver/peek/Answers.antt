use Rattle.std.proofs.Common.{◌≡◌, Ok, None, rules, subst}
use Rattle.als_record.specs.Shown.{shown_found}
use Rattle.als_receiver.specs.Reception.{Reception, Looks}
use Rattle.als_receiver.proofs.ReadingLaws.{looks_found}
use Rattle.als_receiver.proofs.receiver.Receiver.peek.Goals as goal

pub returns-in-Ok-clause-shows : goal.returns-in-Ok-clause-shows
returns-in-Ok-clause-shows c =
    let read = rw c.as_slice.ensures at c.in-Ok.ensures.exact in
    let found = rw c.as_slice.ensures at c.in-Ok.ensures.found in
    let unrefused : c.self.inside.refusal ≡ None = search rules in
    subst (λ (s : Reception). Looks s (Ok (shown_found c.in-Ok.found))) c.self.view_is (looks_found _ c.in-Ok.found unrefused read found)
