use Rattle.std.proofs.Common.{refl, inl, inr, ⊎_elim, ◌∙◌, arith}
use Rattle.als_seats.proofs.Outcomes.{one-not_begun, refuses-none, refuses-one, refuses-all}
use Rattle.als_seats.proofs.slots.Slots.refuse_from.Goals as goal

pub loop-at-init : goal.loop-at-init
loop-at-init g c = (refuses-none c.args.put c.args.self.now.outcomes.items, omega arith, inl (omega arith), omega arith, refl)

pub loop-at-preserved : goal.loop-at-preserved
loop-at-preserved g c =
    let i = c.loop-at.invariant in
    let le = i.1 in
    let left = i.3 in
    let told = c.set_outcome.ensures in
    let less = told.left in
    let at = c.loop-at.at in
    let mid = c.loop-at.self.outcomes.items in
    let new = c.set_outcome.new.self.outcomes.items in (
      refuses-one c.args.put at c.args.self.now.outcomes.items mid new le i.0 (one-not_begun mid new at told.told told.past),
      omega arith,
      inr (omega arith),
      omega arith,
      told.same ∙ i.4,
    )

pub returns-clause-refused : goal.returns-clause-refused
returns-clause-refused g c =
    let i = c.loop-at.invariant in
    refuses-all c.args.put c.loop-at.at c.args.self.now.outcomes.items c.loop-at.self.outcomes.items (omega arith) i.0

pub returns-clause-left : goal.returns-clause-left
returns-clause-left g c =
    let i = c.loop-at.invariant in
    let le = i.1 in
    let left = i.3 in
    ⊎_elim (λ none. omega arith) (λ within. omega arith) i.2

pub returns-clause-same : goal.returns-clause-same
returns-clause-same g c = let i = c.loop-at.invariant in i.4
