use Rattle.std.proofs.Common.{◌≡◌, ◌*◌, ℕ, List, length, replicate, get_or, ap, ◌∙◌}
use Rattle.std.proofs.lemmas.List.{length-replicate, get_or-replicate}
use Rattle.als_writer.proofs.LastBounds.{AreBounds-new}
use Rattle.als_writer.proofs.changes.Changes.new.Goals as goal

pub returns : goal.returns
returns c log v e =
    let n : ℕ = c.args.pages * 15 in
    let last : ℕ = c.args.last.0 in
    let is : c.in_ok-bounds.bounds.items ≡ replicate n last = c.in_ok-bounds.ensures.items_if_clones_equal (λ y q. q) in
    AreBounds-new c.in_ok-bounds.bounds.items c.args.pages last log v e (ap length is ∙ length-replicate n last)
    (λ i d lt. ap (λ (xs : List ℕ). get_or xs i d) is ∙ get_or-replicate n i last d lt)
