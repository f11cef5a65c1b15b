use Rattle.std.proofs.Common.{refl, ◌∙◌}
use Rattle.als_lead.specs.Confirming.{IsConfirmedOf, IsCarriedOut, IsExcusedOf}
use Rattle.als_lead.proofs.Rounds.{leads_none, leads_both, fresh_on}
use Rattle.als_lead.proofs.Confirms.{told_none, told_confirmed_both, told_works_both, shown_refl, shown_both}
use Rattle.als_lead.proofs.Excuses.{told_excused_both}
use Rattle.als_lead.proofs.Owing.{owes_on}
use Rattle.als_lead.proofs.leading.lead.Goals as goal

pub loop-init : goal.loop-init
loop-init g c = record {
  leads = leads_none g.E.Events.alone (g.E.Events.machine c.args.engine.now) (g.C.Clients.taken c.args.clients.now) (g.C.Clients.told c.args.clients.now);
  confirmed = λ a. told_none (IsConfirmedOf (g.U.Upkeep.confirmed c.args.upkeep.now) (g.E.Events.machine c.args.engine.now)) (g.C.Clients.told c.args.clients.now) (g.C.Clients.told c.args.clients.now) refl;
  works = told_none (IsCarriedOut (g.U.Upkeep.missed c.args.upkeep.now)) (g.C.Clients.told c.args.clients.now) (g.C.Clients.told c.args.clients.now) refl;
  known = λ a. told_none (IsExcusedOf (g.U.Upkeep.missed c.args.upkeep.now) g.E.Events.machine (g.E.Events.machine c.args.engine.now)) (g.C.Clients.told c.args.clients.now) (g.C.Clients.told c.args.clients.now) refl;
  shown = λ a. shown_refl (g.U.Upkeep.confirmed c.args.upkeep.now) (g.E.Events.machine c.args.engine.now);
  fresh = c.requires.fresh;
  owed = c.requires.owed;
  empty = c.in_ok-queue.ensures.items;
  bounds = c.in_ok-changes.ensures.bounds;
  book = refl;
}

pub loop-preserved : goal.loop-preserved
loop-preserved g c = record {
  leads = leads_both g.E.Events.alone (g.E.Events.machine c.args.engine.now) (g.E.Events.machine c.loop.engine) (g.E.Events.machine c.round.new.engine)
      (g.C.Clients.taken c.args.clients.now) (g.C.Clients.taken c.loop.clients) (g.C.Clients.taken c.round.new.clients)
      (g.C.Clients.told c.args.clients.now) (g.C.Clients.told c.loop.clients) (g.C.Clients.told c.round.new.clients) c.loop.invariant.leads c.round.ensures.leads;
  confirmed = λ a. told_confirmed_both (g.U.Upkeep.confirmed c.loop.upkeep) (g.U.Upkeep.confirmed c.round.new.upkeep) (g.E.Events.machine c.loop.engine) (g.E.Events.machine c.round.new.engine)
      (g.C.Clients.told c.args.clients.now) (g.C.Clients.told c.loop.clients) (g.C.Clients.told c.round.new.clients)
      (c.round.ensures.leads.grows a) c.round.ensures.keeps (c.loop.invariant.confirmed a) (c.round.ensures.confirmed a);
  works = told_works_both (g.U.Upkeep.missed c.loop.upkeep) (g.U.Upkeep.missed c.round.new.upkeep)
      (g.C.Clients.told c.args.clients.now) (g.C.Clients.told c.loop.clients) (g.C.Clients.told c.round.new.clients)
      c.round.ensures.misses c.loop.invariant.works c.in_ok-goes_on.ensures.works;
  known = λ a. told_excused_both (g.U.Upkeep.missed c.loop.upkeep) (g.U.Upkeep.missed c.round.new.upkeep) g.E.Events.machine (g.E.Events.machine c.loop.engine) (g.E.Events.machine c.round.new.engine)
      (g.C.Clients.told c.args.clients.now) (g.C.Clients.told c.loop.clients) (g.C.Clients.told c.round.new.clients)
      (c.round.ensures.leads.grows a) c.round.ensures.misses (c.loop.invariant.known a) (c.in_ok-goes_on.ensures.known a);
  shown = λ a. shown_both (g.U.Upkeep.confirmed c.loop.upkeep) (g.U.Upkeep.confirmed c.round.new.upkeep) (g.E.Events.machine c.args.engine.now) (g.E.Events.machine c.loop.engine) (g.E.Events.machine c.round.new.engine)
      (c.round.ensures.leads.commits a).added (c.round.ensures.leads.commits a).commits c.round.ensures.keeps (c.loop.invariant.shown a) (c.round.ensures.shown a);
  fresh = fresh_on g.E.Events.alone (g.E.Events.machine c.loop.engine) (g.E.Events.machine c.round.new.engine) (g.C.Clients.taken c.loop.clients) (g.C.Clients.taken c.round.new.clients)
      (g.C.Clients.told c.loop.clients) (g.C.Clients.told c.round.new.clients) c.loop.invariant.fresh c.round.ensures.leads;
  owed = owes_on g.E.Events.alone g.E.Events.machine g.U.Upkeep.confirmed g.U.Upkeep.missed g.U.Upkeep.alike g.U.Upkeep.failed c.loop.engine c.round.new.engine c.loop.upkeep c.round.new.upkeep
      g.C.Clients.may_tell c.loop.invariant.owed c.round.ensures.leads.grows c.round.ensures.keeps c.round.ensures.misses c.round.ensures.alike;
  empty = c.round.ensures.emptied;
  bounds = c.round.ensures.bounds;
  book = c.round.ensures.book ∙ c.loop.invariant.book;
}

pub returns-in_err-changes-clause-leads : goal.returns-in_err-changes-clause-leads
returns-in_err-changes-clause-leads g c = leads_none g.E.Events.alone (g.E.Events.machine c.args.engine.now) (g.C.Clients.taken c.args.clients.now) (g.C.Clients.told c.args.clients.now)

pub returns-in_err-changes-clause-confirmed : goal.returns-in_err-changes-clause-confirmed
returns-in_err-changes-clause-confirmed g c a = told_none (IsConfirmedOf (g.U.Upkeep.confirmed c.args.upkeep.now) (g.E.Events.machine c.args.engine.now)) (g.C.Clients.told c.args.clients.now) (g.C.Clients.told c.args.clients.now) refl

pub returns-in_err-changes-clause-shown : goal.returns-in_err-changes-clause-shown
returns-in_err-changes-clause-shown g c a = shown_refl (g.U.Upkeep.confirmed c.args.upkeep.now) (g.E.Events.machine c.args.engine.now)

pub returns-in_err-queue-clause-leads : goal.returns-in_err-queue-clause-leads
returns-in_err-queue-clause-leads g c = leads_none g.E.Events.alone (g.E.Events.machine c.args.engine.now) (g.C.Clients.taken c.args.clients.now) (g.C.Clients.told c.args.clients.now)

pub returns-in_err-queue-clause-confirmed : goal.returns-in_err-queue-clause-confirmed
returns-in_err-queue-clause-confirmed g c a = told_none (IsConfirmedOf (g.U.Upkeep.confirmed c.args.upkeep.now) (g.E.Events.machine c.args.engine.now)) (g.C.Clients.told c.args.clients.now) (g.C.Clients.told c.args.clients.now) refl

pub returns-in_err-queue-clause-shown : goal.returns-in_err-queue-clause-shown
returns-in_err-queue-clause-shown g c a = shown_refl (g.U.Upkeep.confirmed c.args.upkeep.now) (g.E.Events.machine c.args.engine.now)

pub returns-in_err-goes_on-clause-leads : goal.returns-in_err-goes_on-clause-leads
returns-in_err-goes_on-clause-leads g c =
    leads_both g.E.Events.alone (g.E.Events.machine c.args.engine.now) (g.E.Events.machine c.loop.engine) (g.E.Events.machine c.round.new.engine)
    (g.C.Clients.taken c.args.clients.now) (g.C.Clients.taken c.loop.clients) (g.C.Clients.taken c.round.new.clients)
    (g.C.Clients.told c.args.clients.now) (g.C.Clients.told c.loop.clients) (g.C.Clients.told c.round.new.clients) c.loop.invariant.leads c.round.ensures.leads

pub returns-in_err-goes_on-clause-confirmed : goal.returns-in_err-goes_on-clause-confirmed
returns-in_err-goes_on-clause-confirmed g c a =
    told_confirmed_both (g.U.Upkeep.confirmed c.loop.upkeep) (g.U.Upkeep.confirmed c.round.new.upkeep) (g.E.Events.machine c.loop.engine) (g.E.Events.machine c.round.new.engine)
    (g.C.Clients.told c.args.clients.now) (g.C.Clients.told c.loop.clients) (g.C.Clients.told c.round.new.clients)
    (c.round.ensures.leads.grows a) c.round.ensures.keeps (c.loop.invariant.confirmed a) (c.round.ensures.confirmed a)

pub returns-in_err-goes_on-clause-shown : goal.returns-in_err-goes_on-clause-shown
returns-in_err-goes_on-clause-shown g c a =
    shown_both (g.U.Upkeep.confirmed c.loop.upkeep) (g.U.Upkeep.confirmed c.round.new.upkeep) (g.E.Events.machine c.args.engine.now) (g.E.Events.machine c.loop.engine) (g.E.Events.machine c.round.new.engine)
    (c.round.ensures.leads.commits a).added (c.round.ensures.leads.commits a).commits c.round.ensures.keeps (c.loop.invariant.shown a) (c.round.ensures.shown a)

pub returns-then-not-goes_on-clause-leads : goal.returns-then-not-goes_on-clause-leads
returns-then-not-goes_on-clause-leads g c =
    leads_both g.E.Events.alone (g.E.Events.machine c.args.engine.now) (g.E.Events.machine c.loop.engine) (g.E.Events.machine c.round.new.engine)
    (g.C.Clients.taken c.args.clients.now) (g.C.Clients.taken c.loop.clients) (g.C.Clients.taken c.round.new.clients)
    (g.C.Clients.told c.args.clients.now) (g.C.Clients.told c.loop.clients) (g.C.Clients.told c.round.new.clients) c.loop.invariant.leads c.round.ensures.leads

pub returns-then-not-goes_on-clause-confirmed : goal.returns-then-not-goes_on-clause-confirmed
returns-then-not-goes_on-clause-confirmed g c a =
    told_confirmed_both (g.U.Upkeep.confirmed c.loop.upkeep) (g.U.Upkeep.confirmed c.round.new.upkeep) (g.E.Events.machine c.loop.engine) (g.E.Events.machine c.round.new.engine)
    (g.C.Clients.told c.args.clients.now) (g.C.Clients.told c.loop.clients) (g.C.Clients.told c.round.new.clients)
    (c.round.ensures.leads.grows a) c.round.ensures.keeps (c.loop.invariant.confirmed a) (c.round.ensures.confirmed a)

pub returns-then-not-goes_on-clause-shown : goal.returns-then-not-goes_on-clause-shown
returns-then-not-goes_on-clause-shown g c a =
    shown_both (g.U.Upkeep.confirmed c.loop.upkeep) (g.U.Upkeep.confirmed c.round.new.upkeep) (g.E.Events.machine c.args.engine.now) (g.E.Events.machine c.loop.engine) (g.E.Events.machine c.round.new.engine)
    (c.round.ensures.leads.commits a).added (c.round.ensures.leads.commits a).commits c.round.ensures.keeps (c.loop.invariant.shown a) (c.round.ensures.shown a)

pub returns-then-not-goes_on-clause-works : goal.returns-then-not-goes_on-clause-works
returns-then-not-goes_on-clause-works g c =
    told_works_both (g.U.Upkeep.missed c.loop.upkeep) (g.U.Upkeep.missed c.round.new.upkeep)
    (g.C.Clients.told c.args.clients.now) (g.C.Clients.told c.loop.clients) (g.C.Clients.told c.round.new.clients)
    c.round.ensures.misses c.loop.invariant.works c.in_ok-goes_on.ensures.works

pub returns-then-not-goes_on-clause-known : goal.returns-then-not-goes_on-clause-known
returns-then-not-goes_on-clause-known g c a =
    told_excused_both (g.U.Upkeep.missed c.loop.upkeep) (g.U.Upkeep.missed c.round.new.upkeep) g.E.Events.machine (g.E.Events.machine c.loop.engine) (g.E.Events.machine c.round.new.engine)
    (g.C.Clients.told c.args.clients.now) (g.C.Clients.told c.loop.clients) (g.C.Clients.told c.round.new.clients)
    (c.round.ensures.leads.grows a) c.round.ensures.misses (c.loop.invariant.known a) (c.in_ok-goes_on.ensures.known a)
