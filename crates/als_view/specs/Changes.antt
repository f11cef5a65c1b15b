-- What a change does to what both copies have.
use Rattle.std.specs.Prelude.{true, List, [], ◌∷◌, ◌++◌}
use Rattle.als_record.specs.Commits.{Commit}
use Rattle.als_view.specs.declared.state.State.{State}
use Rattle.als_view.specs.declared.state.Marked.{Marked}
use Rattle.als_view.specs.declared.change.Change.{Change}
use Rattle.als_view.specs.declared.change.Change.TheVariants.{Add, Mark}

abbrev pub changed : State → Change → State
changed s (Add c) = record { pages = s.pages; listed = true; list = s.list ++ c ∷ []; seen = s.seen }
changed s (Mark t) = record { pages = s.pages; listed = true; list = s.list; seen = t }

-- the commits among these changes
abbrev pub added : List Change → List Commit
added [] = []
added (Add c ∷ cs) = c ∷ added cs
added (Mark t ∷ cs) = added cs

-- more commits are in an open list, which is what the history of k is
abbrev pub marked_by : State → List Commit → Marked → State
marked_by s commits k = record { pages = s.pages; listed = true; list = s.list ++ commits; seen = k.seen }
