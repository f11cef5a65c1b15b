use Rattle.std.proofs.Common.{◌≡◌, ◌≤◌, [], ◌∷◌, ◌++◌, Some, None, refl, sym, ◌∙◌, ap, arith}
use Rattle.crossbeam_channel.specs.Claims.{view}
use Rattle.als_lease.specs.Lease.{Leased}
use Rattle.als_workers.specs.declared.ended.Ended.TheVariants.{Gate, Back}
use Rattle.als_workers.specs.Offers.{record_of, offer_of}
use Rattle.als_workers.specs.declared.job.Job.{Job}
use Rattle.als_workers.specs.declared.job.Job.TheVariants.{Work, Stop}
use Rattle.als_workers.proofs.Workings.{gave, put_again, stays, came_back}
use Rattle.als_workers.proofs.worker.work_on.Goals as goal

abbrev lease_or : Leased → Job → Leased
lease_or l (Work x) = x
lease_or l Stop = l

pub returns-then-not-pass-clause-worked : goal.returns-then-not-pass-clause-worked
returns-then-not-pass-clause-worked g c u taken =
    let l = c.args.lease in
    let same : l.done ≤ l.done = omega arith in
    gave u (view c.args.pass.now) (view c.args.pass.now) l l (g.O.OfferRecord.offers (record_of c.args.via.now)) (g.O.OfferRecord.offers (record_of c.give.new.self)) (Some Gate) [] (offer_of l ∷ [])
    taken (stays _ _ refl) refl same c.give.ensures.offers refl tt (omega arith)

pub returns-then-not-pass-2-clause-worked : goal.returns-then-not-pass-2-clause-worked
returns-then-not-pass-2-clause-worked g c u taken =
    let l = c.redo_turn.new.lease in
    gave u (view c.args.pass.now) (view c.args.pass.now) c.args.lease l (g.O.OfferRecord.offers (record_of c.args.via.now)) (g.O.OfferRecord.offers (record_of c.give-then-not-pass-2.new.self)) (Some Gate) [] (offer_of l ∷ [])
    taken (stays _ _ refl) c.redo_turn.ensures.number c.redo_turn.ensures.further c.give-then-not-pass-2.ensures.offers refl tt (omega arith)

pub returns-in-Err-Work-clause-worked : goal.returns-in-Err-Work-clause-worked
returns-in-Err-Work-clause-worked g c u taken =
    let l = c.redo_turn.new.lease in
    let back : Work c.in-Err-Work.lease ≡ Work l = sym c.in-Err-Work.field-0-is ∙ c.in-Err-Work.ensures.back.0 in
    let same : c.in-Err-Work.lease ≡ l = ap (lease_or l) back in
    gave u (view c.args.pass.now) (view c.put.new.pass) c.args.lease l (g.O.OfferRecord.offers (record_of c.args.via.now)) (g.O.OfferRecord.offers (record_of c.give-in-Err-Work.new.self)) (Some Back) [] (offer_of l ∷ [])
    taken (came_back _ _ c.in-Err-Work.ensures.back.1) c.redo_turn.ensures.number c.redo_turn.ensures.further
    (c.give-in-Err-Work.ensures.offers ∙ ap (λ x. g.O.OfferRecord.offers (record_of c.args.via.now) ++ offer_of x ∷ []) same) refl tt (omega arith)

pub returns-then-not-pass-3-clause-worked : goal.returns-then-not-pass-3-clause-worked
returns-then-not-pass-3-clause-worked g c u taken =
    let l = c.redo_turn.new.lease in
    gave u (view c.args.pass.now) (view c.args.pass.now) c.args.lease l (g.O.OfferRecord.offers (record_of c.args.via.now)) (g.O.OfferRecord.offers (record_of c.give-then-not-pass-3.new.self)) (Some Gate) [] (offer_of l ∷ [])
    taken (stays _ _ refl) c.redo_turn.ensures.number c.redo_turn.ensures.further c.give-then-not-pass-3.ensures.offers refl tt (omega arith)

pub returns-clause-worked : goal.returns-clause-worked
returns-clause-worked g c u taken =
    let l = c.redo_turn.new.lease in
    gave u (view c.args.pass.now) (view c.args.pass.now) c.args.lease l (g.O.OfferRecord.offers (record_of c.args.via.now)) (g.O.OfferRecord.offers (record_of c.give-2.new.self)) None (offer_of l ∷ []) []
    taken (stays _ _ refl) c.redo_turn.ensures.number c.redo_turn.ensures.further c.give-2.ensures.offers refl (sym c.finished.ensures ∙ c.if-not-finished.false, tt) refl

pub returns-in-Ok-clause-worked : goal.returns-in-Ok-clause-worked
returns-in-Ok-clause-worked g c u taken =
    let l = c.redo_turn.new.lease in
    put_again u (view c.args.pass.now) (view c.put.new.pass) c.args.lease l (g.O.OfferRecord.offers (record_of c.args.via.now)) (g.O.OfferRecord.offers (record_of c.args.via.now))
    taken c.in-Ok.ensures.put c.redo_turn.ensures.number (c.redo_turn.ensures.turn (sym c.finished.ensures ∙ c.if-not-finished.true)) refl
