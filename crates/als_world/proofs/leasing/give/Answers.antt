use Rattle.std.proofs.Common.{◌≡◌, Err, Option, Some, is_some, List, ◌∙◌, sym, ap, subst}
use Rattle.als_lease.specs.Lease.{Leased}
use Rattle.als_engine.specs.declared.not_given.NotGiven.{NotGiven}
use Rattle.als_engine.specs.Leases.{Gives}
use Rattle.als_world.specs.Slots.{lease_at, without_lease, with_lease}
use Rattle.als_world.specs.declared.step.WorldStep.TheVariants as step
use Rattle.als_world.proofs.SlotLaws.{put_back, given_back, acts_by_slot}
use Rattle.als_world.proofs.KeepLaws.{stays}
use Rattle.als_world.proofs.leasing.give.Goals as goal

-- the lease that the engine refused is in its slot again
pub returns-in-Err-clause-gives : goal.returns-in-Err-clause-gives
returns-in-Err-clause-gives g c =
    let slots = c.args.slots.now in
    let lease = c.in-Some.lease in
    let refused = c.in-Err.refused in
    let old = c.args.engine.now.machine in
    let new = c.give.new.self.machine in
    let full : lease_at slots c.args.from ≡ Some lease = sym c.take.ensures.lease ∙ c.in-Some.is in
    let gives : Gives old lease (Err refused) new = c.in-Err.ensures.gives in
    let back = given_back old lease refused new gives in
    let same : c.into_lease.result ≡ lease = c.into_lease.ensures ∙ ap (λ (r : NotGiven). r.lease) back in
    let stays : c.put.new.self ≡ slots =
    c.put.ensures ∙ ap (λ (l : Leased). with_lease c.take.new.self c.args.from l) same
    ∙ ap (λ (s : List (Option Leased)). with_lease s c.args.from lease) c.take.ensures.emptied ∙ put_back slots c.args.from lease full in
    acts_by_slot slots (step.Give c.args.from) _ _ _ (ap (λ (l : Option Leased). is_some l) full)
    (lease, full, subst (λ (r : NotGiven). Gives old lease (Err r) new) back gives, stays)

-- the slot refused the step before the engine was asked
pub returns-in_default-clause-keeps : goal.returns-in_default-clause-keeps
returns-in_default-clause-keeps g c = stays c.args.engine.now.machine
