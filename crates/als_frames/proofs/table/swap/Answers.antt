use Rattle.std.proofs.Common.{ℕ, nat_eq, List, sym, ap, subst, ◌∙◌}
use Rattle.std.specs.Map.{lookup}
use Rattle.als_frames.specs.Frames.{Framed}
use Rattle.als_frames.specs.Zones.{Swaps}
use Rattle.als_frames.proofs.TableLists.{swaps_places}
use Rattle.als_frames.proofs.table.swap.Goals as goal

pub returns-clause-swaps : goal.returns-clause-swaps
returns-clause-swaps c =
    let old = c.args.frames.now.entries in
    let entries = c.swap_indices.ensures.entries in
    subst (λ (es : List (ℕ × Framed)). Swaps old es c.args.a c.args.b) (sym entries)
    (swaps_places old c.args.a c.args.b c.requires.first c.requires.second
    (λ page. ap (lookup (nat_eq page)) (sym entries) ∙ c.swap_indices.ensures.reordered.2 page))
