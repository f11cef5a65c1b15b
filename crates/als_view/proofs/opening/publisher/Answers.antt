use Rattle.std.proofs.Common.{◌≡◌, [], refl, ap, sym, ◌∙◌, fold, subst}
use Rattle.als_view.specs.Changes.{changed}
use Rattle.als_view.specs.Entries.{AreCommits}
use Rattle.als_view.proofs.Fronts.{prefix_self}
use Rattle.als_view.proofs.Reading.{none_are_commits}
use Rattle.als_view.proofs.Turns.{admits, turns_by, state_of}
use Rattle.als_view.proofs.opening.publisher.Goals as goal

pub new-requires-3-clause-rule : goal.new-requires-3-clause-rule
new-requires-3-clause-rule g c =
    let x = c.in_ok-first.first in
    let log : x.seen.log ≡ [] = ap (λ t. t.log) c.in_ok-first.ensures.3 ∙ c.open-seen.ensures.1 in
    let list : x.list.items ≡ [] = c.in_ok-first.ensures.2 in
    admits x [] ((log ∙ sym list, subst AreCommits (sym list) none_are_commits), λ seat k at. absurd (cc at))

pub publish_as-writer-requires : goal.publish_as-writer-requires
publish_as-writer-requires g c next is =
    let x = c.in_ok-writer.writer.desk.shown.value in
    let made = c.in_ok-writer.ensures in
    let log : x.seen.log ≡ [] = ap (λ s. s.seen.log) made.0 ∙ (ap (λ t. t.log) c.in_ok-first.ensures.3 ∙ c.open-seen.ensures.1) in
    let list : x.list.items ≡ [] = ap (λ s. s.list.items) made.0 ∙ c.in_ok-first.ensures.2 in
    turns_by _ _ x next (state_of x) (is ∙ ap (fold changed (state_of x)) made.1) (log ∙ sym list) (subst AreCommits (sym list) none_are_commits) refl refl (prefix_self x.seen.log)
