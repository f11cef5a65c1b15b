use Rattle.std.proofs.Common.{rules, ℕ, List, refl, sym, ap, ◌∙◌}
use Rattle.als_engine.specs.Machine.{Machine}
use Rattle.als_lead.specs.declared.told.Told.{Told}
use Rattle.als_lead.specs.Leading.{Leads, AllTold}
use Rattle.als_lead.specs.Confirming.{IsShown, IsConfirmedOf, IsCarriedOut, IsExcusedOf}
use Rattle.als_lead.proofs.Rounds.{leads_same, leads_waited, leads_both, leads_rest}
use Rattle.als_lead.proofs.Confirms.{on_ok_any, told_from, told_confirmed_on, told_works_on, shown_both, shown_stays}
use Rattle.als_lead.proofs.Excuses.{told_excused_on}
use Rattle.als_lead.specs.Answers.{asked_of}
use Rattle.als_lead.proofs.Going.{same_bounds}
use Rattle.als_lead.proofs.Owing.{owes_on}
use Rattle.als_lead.proofs.leading.round.Goals as goal

pub serve-requires : goal.serve-requires
serve-requires g c = record {
  whole = search rules;
  bounded = λ a. same_bounds (g.E.Events.machine c.args.engine.now) (g.E.Events.machine c.confirm_earlier.new.engine) c.args.changes.now (c.confirm_earlier.ensures.grows a) (c.confirm_earlier.ensures.same a) (c.requires.bounded a);
  empty = c.requires.empty;
  fresh = c.wait.ensures.taken ∙ c.requires.fresh ∙ ap (λ (l : List Told). asked_of l) (sym c.wait.ensures.told);
  owed = owes_on g.E.Events.alone g.E.Events.machine g.U.Upkeep.confirmed g.U.Upkeep.missed g.U.Upkeep.alike g.U.Upkeep.failed c.args.engine.now c.confirm_earlier.new.engine c.args.upkeep.now c.confirm_earlier.new.upkeep
      g.C.Clients.may_tell c.requires.owed c.confirm_earlier.ensures.grows c.confirm_earlier.ensures.keeps c.confirm_earlier.ensures.misses c.confirm_earlier.ensures.alike;
}

pub returns-in_err-serve-in-Asks-clause-leads : goal.returns-in_err-serve-in-Asks-clause-leads
returns-in_err-serve-in-Asks-clause-leads g c =
    let alone = g.E.Events.alone in
    let old : Machine = g.E.Events.machine c.args.engine.now in
    let earlier : Machine = g.E.Events.machine c.confirm_earlier.new.engine in
    let served : Machine = g.E.Events.machine c.serve.new.engine in
    let taken = g.C.Clients.taken c.args.clients.now in
    let taken_now = g.C.Clients.taken c.serve.new.clients in
    let told : List Told = g.C.Clients.told c.args.clients.now in
    let told_now : List Told = g.C.Clients.told c.serve.new.clients in
    let waited : Leads alone earlier served taken taken_now told told_now =
    leads_waited alone earlier served taken (g.C.Clients.taken c.wait.new.self) taken_now told (g.C.Clients.told c.wait.new.self) told_now
    c.wait.ensures.taken c.wait.ensures.told c.serve.ensures.leads in
    leads_both alone old earlier served taken taken taken_now told told told_now
    (leads_same alone old earlier taken taken told told c.confirm_earlier.ensures.grows c.confirm_earlier.ensures.same refl refl) waited

pub returns-in_err-serve-in-Asks-clause-shown : goal.returns-in_err-serve-in-Asks-clause-shown
returns-in_err-serve-in-Asks-clause-shown g c a =
    shown_both (g.U.Upkeep.confirmed c.confirm_earlier.new.upkeep) (g.U.Upkeep.confirmed c.serve.new.upkeep)
    (g.E.Events.machine c.args.engine.now) (g.E.Events.machine c.confirm_earlier.new.engine) (g.E.Events.machine c.serve.new.engine)
    (c.serve.ensures.leads.commits a).added (c.serve.ensures.leads.commits a).commits c.serve.ensures.keeps (c.confirm_earlier.ensures.shown a) (c.serve.ensures.shown a)

pub returns-in_ok-serve-in-Asks-clause-leads : goal.returns-in_ok-serve-in-Asks-clause-leads
returns-in_ok-serve-in-Asks-clause-leads g c =
    let alone = g.E.Events.alone in
    let old : Machine = g.E.Events.machine c.args.engine.now in
    let earlier : Machine = g.E.Events.machine c.confirm_earlier.new.engine in
    let served : Machine = g.E.Events.machine c.serve.new.engine in
    let new : Machine = g.E.Events.machine c.rest-in-Asks.new.engine in
    let taken = g.C.Clients.taken c.args.clients.now in
    let taken_now = g.C.Clients.taken c.serve.new.clients in
    let told : List Told = g.C.Clients.told c.args.clients.now in
    let told_now : List Told = g.C.Clients.told c.serve.new.clients in
    let waited : Leads alone earlier served taken taken_now told told_now =
    leads_waited alone earlier served taken (g.C.Clients.taken c.wait.new.self) taken_now told (g.C.Clients.told c.wait.new.self) told_now
    c.wait.ensures.taken c.wait.ensures.told c.serve.ensures.leads in
    leads_rest alone old served new taken taken_now told told_now
    (leads_both alone old earlier served taken taken taken_now told told told_now
    (leads_same alone old earlier taken taken told told c.confirm_earlier.ensures.grows c.confirm_earlier.ensures.same refl refl) waited)
    c.rest-in-Asks.ensures.stays

pub returns-in_ok-serve-in-Asks-clause-confirmed : goal.returns-in_ok-serve-in-Asks-clause-confirmed
returns-in_ok-serve-in-Asks-clause-confirmed g c a =
    let served : Machine = g.E.Events.machine c.serve.new.engine in
    let new : Machine = g.E.Events.machine c.rest-in-Asks.new.engine in
    let confirmed : ℕ → Type 0 = g.U.Upkeep.confirmed c.serve.new.upkeep in
    let confirmed_now : ℕ → Type 0 = g.U.Upkeep.confirmed c.rest-in-Asks.new.upkeep in
    let told : List Told = g.C.Clients.told c.args.clients.now in
    let told_now : List Told = g.C.Clients.told c.serve.new.clients in
    told_confirmed_on confirmed confirmed_now served new told told_now (c.rest-in-Asks.ensures.stays a).grows c.rest-in-Asks.ensures.keeps
    (told_from (IsConfirmedOf confirmed served) told (g.C.Clients.told c.wait.new.self) told_now c.wait.ensures.told (c.serve.ensures.confirmed a))

pub returns-in_ok-serve-in-Asks-clause-works : goal.returns-in_ok-serve-in-Asks-clause-works
returns-in_ok-serve-in-Asks-clause-works g c =
    let missed : ℕ → Type 0 = g.U.Upkeep.missed c.serve.new.upkeep in
    let missed_now : ℕ → Type 0 = g.U.Upkeep.missed c.rest-in-Asks.new.upkeep in
    let told : List Told = g.C.Clients.told c.args.clients.now in
    let told_now : List Told = g.C.Clients.told c.serve.new.clients in
    on_ok_any (AllTold (IsCarriedOut missed_now) told told_now) c.rest-in-Asks.result
    (told_works_on missed missed_now told told_now c.rest-in-Asks.ensures.misses
    (told_from (IsCarriedOut missed) told (g.C.Clients.told c.wait.new.self) told_now c.wait.ensures.told c.in_ok-serve-in-Asks.ensures.works))

pub returns-in_ok-serve-in-Asks-clause-known : goal.returns-in_ok-serve-in-Asks-clause-known
returns-in_ok-serve-in-Asks-clause-known g c =
    let alone = g.E.Events.alone in
    let served : Machine = g.E.Events.machine c.serve.new.engine in
    let new : Machine = g.E.Events.machine c.rest-in-Asks.new.engine in
    let missed : ℕ → Type 0 = g.U.Upkeep.missed c.serve.new.upkeep in
    let missed_now : ℕ → Type 0 = g.U.Upkeep.missed c.rest-in-Asks.new.upkeep in
    let told : List Told = g.C.Clients.told c.args.clients.now in
    let told_now : List Told = g.C.Clients.told c.serve.new.clients in
    on_ok_any (alone → AllTold (IsExcusedOf missed_now g.E.Events.machine new) told told_now) c.rest-in-Asks.result
    (λ a. told_excused_on missed missed_now g.E.Events.machine served new told told_now (c.rest-in-Asks.ensures.stays a).grows c.rest-in-Asks.ensures.misses
    (told_from (IsExcusedOf missed g.E.Events.machine served) told (g.C.Clients.told c.wait.new.self) told_now c.wait.ensures.told (c.in_ok-serve-in-Asks.ensures.known a)))

pub returns-in_ok-serve-in-Asks-clause-shown : goal.returns-in_ok-serve-in-Asks-clause-shown
returns-in_ok-serve-in-Asks-clause-shown g c a =
    let old : Machine = g.E.Events.machine c.args.engine.now in
    let served : Machine = g.E.Events.machine c.serve.new.engine in
    let new : Machine = g.E.Events.machine c.rest-in-Asks.new.engine in
    let confirmed : ℕ → Type 0 = g.U.Upkeep.confirmed c.serve.new.upkeep in
    let shown : IsShown confirmed old served =
    shown_both (g.U.Upkeep.confirmed c.confirm_earlier.new.upkeep) confirmed old (g.E.Events.machine c.confirm_earlier.new.engine) served
    (c.serve.ensures.leads.commits a).added (c.serve.ensures.leads.commits a).commits c.serve.ensures.keeps (c.confirm_earlier.ensures.shown a) (c.serve.ensures.shown a) in
    shown_stays confirmed (g.U.Upkeep.confirmed c.rest-in-Asks.new.upkeep) old served new c.rest-in-Asks.ensures.keeps shown (c.rest-in-Asks.ensures.stays a)
