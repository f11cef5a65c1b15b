use Rattle.std.proofs.Common.{◌≡◌, ℕ, List, [], ◌++◌, ap, subst, ◌∙◌}
use Rattle.als_engine.specs.Machine.{Machine}
use Rattle.als_lead.specs.declared.told.Told.{Told}
use Rattle.als_lead.specs.Going.{Grows}
use Rattle.als_lead.specs.Groups.{Fills, DoesAll, all_after}
use Rattle.als_lead.specs.Leading.{AllTold}
use Rattle.als_lead.specs.Confirming.{GoesOn, IsTriedOf, IsBegunOf, IsCarriedOut, IsExcusedOf}
use Rattle.als_lead.proofs.Going.{same_bounds, stays_bounds}
use Rattle.als_lead.proofs.Rounds.{does_forced, held_shown, leads_group, group_once, group_grows, waits_in_group}
use Rattle.als_lead.proofs.Confirms.{both_ok, ok_then, holds_by, misses_by, stable_by, grows_in, same_in, stable_in, shown_in, shown_from, confirmed_group, works_group}
use Rattle.als_lead.proofs.Excuses.{excused_group}
use Rattle.als_lead.proofs.Going.{grows_trans}
use Rattle.als_lead.proofs.Owing.{showable, fails_by, owed_all, tried_all}
use Rattle.als_lead.proofs.serving.serve.Goals as goal

pub show-shown-requires : goal.show-shown-requires
show-shown-requires g c = record {
  confirmed = showable g.E.Events.alone (g.U.Upkeep.confirmed c.confirmed-forced.new.upkeep) (g.U.Upkeep.missed c.confirmed-forced.new.upkeep) (g.E.Events.machine c.make_durable-durable.new.engine)
      c.make_durable-durable.result c.confirmed-forced.result c.confirmed-forced.ensures.by c.make_durable-durable.ensures.exact;
}

pub tell_all-told-requires : goal.tell_all-told-requires
tell_all-told-requires g c =
    let alone = g.E.Events.alone in
    let old : Machine = g.E.Events.machine c.args.engine.now in
    let filled : Machine = g.E.Events.machine c.fill-filled.new.engine in
    let tidied : Machine = g.E.Events.machine c.tidy_owed.new.engine in
    let forced : Machine = g.E.Events.machine c.make_durable-durable.new.engine in
    let new : Machine = g.E.Events.machine c.show-shown.new.engine in
    let durable = c.make_durable-durable.result in
    let result = c.confirmed-forced.result in
    let taken = g.C.Clients.taken c.args.clients.now in
    let taken_mid = g.C.Clients.taken c.fill-filled.new.clients in
    let queued : List Told = c.fill-filled.new.queue.items in
    let confirmed : ℕ → Type 0 = g.U.Upkeep.confirmed c.confirmed-forced.new.upkeep in
    let missed : ℕ → Type 0 = g.U.Upkeep.missed c.confirmed-forced.new.upkeep in
    let confirmed_now : ℕ → Type 0 = g.U.Upkeep.confirmed c.show-shown.new.upkeep in
    let missed_now : ℕ → Type 0 = g.U.Upkeep.missed c.show-shown.new.upkeep in
    let fills : Fills alone old filled taken taken_mid [] queued =
    subst (λ (q : List Told). Fills alone old filled taken taken_mid q queued) c.requires.empty c.fill-filled.ensures.fills in
    let does : alone → DoesAll old queued forced =
    does_forced alone old filled tidied forced taken taken_mid queued fills c.tidy_owed.ensures.tidies c.make_durable-durable.ensures.stays in
    let grows : alone → Grows forced new = λ a. grows_in result forced new (c.show-shown.ensures.publishes a) in
    let same : alone → new.held.log ≡ forced.held.log = λ a. same_in result forced new (c.show-shown.ensures.publishes a) in
    record {
      owed =
          owed_all alone g.E.Events.machine g.U.Upkeep.confirmed g.U.Upkeep.missed g.U.Upkeep.alike g.U.Upkeep.failed c.args.engine.now c.args.upkeep.now g.C.Clients.may_tell
          c.show-shown.new.engine c.show-shown.new.upkeep result c.requires.owed
          (λ n h. c.show-shown.ensures.keeps n (c.confirmed-forced.ensures.keeps n h))
          (λ n h. c.show-shown.ensures.misses n (c.confirmed-forced.ensures.misses n h))
          (λ other h. c.show-shown.ensures.alike other (c.confirmed-forced.ensures.alike other h))
          (λ a. grows_trans old forced new (does a).grows (grows a))
          (λ a. stable_in result forced new (grows a) (same a) (stable_by alone confirmed missed forced durable result c.confirmed-forced.ensures.by c.make_durable-durable.ensures.stable a))
          (holds_by confirmed confirmed_now missed durable result c.confirmed-forced.ensures.by c.show-shown.ensures.keeps)
          (misses_by confirmed missed missed_now durable result c.confirmed-forced.ensures.by c.show-shown.ensures.misses)
          (λ a. fails_by alone g.E.Events.machine g.U.Upkeep.failed old tidied c.confirmed-forced.new.upkeep durable result c.confirmed-forced.ensures.failed c.make_durable-durable.ensures.refused
          (λ b. grows_trans old filled tidied (group_grows alone old filled taken taken_mid queued fills b) (c.tidy_owed.ensures.tidies b).grows) a)
          queued
          (tried_all queued (subst (λ (q : List Told). AllTold IsTriedOf q queued) c.requires.empty c.fill-filled.ensures.tried))
          (λ a. held_shown forced new queued (grows a) (same a) (does a).held);
      waiting = waits_in_group taken taken_mid (g.C.Clients.told c.args.clients.now) (g.C.Clients.told c.fill-filled.new.clients) queued c.requires.fresh
          (group_once alone old filled taken taken_mid queued fills) c.fill-filled.ensures.told;
    }

pub returns-clause-leads : goal.returns-clause-leads
returns-clause-leads g c =
    let alone = g.E.Events.alone in
    let old : Machine = g.E.Events.machine c.args.engine.now in
    let filled : Machine = g.E.Events.machine c.fill-filled.new.engine in
    let tidied : Machine = g.E.Events.machine c.tidy_owed.new.engine in
    let forced : Machine = g.E.Events.machine c.make_durable-durable.new.engine in
    let new : Machine = g.E.Events.machine c.show-shown.new.engine in
    let durable = c.make_durable-durable.result in
    let result = c.confirmed-forced.result in
    let taken = g.C.Clients.taken c.args.clients.now in
    let taken_mid = g.C.Clients.taken c.fill-filled.new.clients in
    let queued : List Told = c.fill-filled.new.queue.items in
    let fills : Fills alone old filled taken taken_mid [] queued =
    subst (λ (q : List Told). Fills alone old filled taken taken_mid q queued) c.requires.empty c.fill-filled.ensures.fills in
    let grows : alone → Grows forced new = λ a. grows_in result forced new (c.show-shown.ensures.publishes a) in
    let same : alone → new.held.log ≡ forced.held.log = λ a. same_in result forced new (c.show-shown.ensures.publishes a) in
    leads_group alone old forced new result taken taken_mid (g.C.Clients.taken c.end_group-ended.new.self)
    (g.C.Clients.told c.args.clients.now) (g.C.Clients.told c.end_group-ended.new.self) queued
    (group_once alone old filled taken taken_mid queued fills)
    (does_forced alone old filled tidied forced taken taken_mid queued fills c.tidy_owed.ensures.tidies c.make_durable-durable.ensures.stays)
    grows same
    (λ a. stable_in result forced new (grows a) (same a)
    (stable_by alone (g.U.Upkeep.confirmed c.confirmed-forced.new.upkeep) (g.U.Upkeep.missed c.confirmed-forced.new.upkeep) forced durable result c.confirmed-forced.ensures.by c.make_durable-durable.ensures.stable a))
    (c.end_group-ended.ensures.taken ∙ c.tell_all-told.ensures.taken)
    (c.end_group-ended.ensures.told ∙ c.tell_all-told.ensures.told ∙ ap (λ (q : List Told). q ++ all_after result queued) c.fill-filled.ensures.told)

pub returns-clause-confirmed : goal.returns-clause-confirmed
returns-clause-confirmed g c a =
    let alone = g.E.Events.alone in
    let old : Machine = g.E.Events.machine c.args.engine.now in
    let filled : Machine = g.E.Events.machine c.fill-filled.new.engine in
    let tidied : Machine = g.E.Events.machine c.tidy_owed.new.engine in
    let forced : Machine = g.E.Events.machine c.make_durable-durable.new.engine in
    let new : Machine = g.E.Events.machine c.show-shown.new.engine in
    let durable = c.make_durable-durable.result in
    let result = c.confirmed-forced.result in
    let taken = g.C.Clients.taken c.args.clients.now in
    let taken_mid = g.C.Clients.taken c.fill-filled.new.clients in
    let queued : List Told = c.fill-filled.new.queue.items in
    let confirmed : ℕ → Type 0 = g.U.Upkeep.confirmed c.confirmed-forced.new.upkeep in
    let missed : ℕ → Type 0 = g.U.Upkeep.missed c.confirmed-forced.new.upkeep in
    let confirmed_now : ℕ → Type 0 = g.U.Upkeep.confirmed c.show-shown.new.upkeep in
    let fills : Fills alone old filled taken taken_mid [] queued =
    subst (λ (q : List Told). Fills alone old filled taken taken_mid q queued) c.requires.empty c.fill-filled.ensures.fills in
    let grows : Grows forced new = grows_in result forced new (c.show-shown.ensures.publishes a) in
    let same : new.held.log ≡ forced.held.log = same_in result forced new (c.show-shown.ensures.publishes a) in
    let does : DoesAll old queued forced =
    does_forced alone old filled tidied forced taken taken_mid queued fills c.tidy_owed.ensures.tidies c.make_durable-durable.ensures.stays a in
    confirmed_group confirmed_now new result (g.C.Clients.told c.args.clients.now) (g.C.Clients.told c.end_group-ended.new.self) queued
    (stable_in result forced new grows same (stable_by alone confirmed missed forced durable result c.confirmed-forced.ensures.by c.make_durable-durable.ensures.stable a))
    (holds_by confirmed confirmed_now missed durable result c.confirmed-forced.ensures.by c.show-shown.ensures.keeps)
    (held_shown forced new queued grows same does.held)
    (c.end_group-ended.ensures.told ∙ c.tell_all-told.ensures.told ∙ ap (λ (q : List Told). q ++ all_after result queued) c.fill-filled.ensures.told)

pub returns-clause-works : goal.returns-clause-works
returns-clause-works g c =
    let durable = c.make_durable-durable.result in
    let result = c.confirmed-forced.result in
    let queued : List Told = c.fill-filled.new.queue.items in
    let told : List Told = g.C.Clients.told c.args.clients.now in
    let told_now : List Told = g.C.Clients.told c.end_group-ended.new.self in
    let missed_now : ℕ → Type 0 = g.U.Upkeep.missed c.show-shown.new.upkeep in
    both_ok (AllTold (IsCarriedOut missed_now) told told_now) c.first-3.result c.first.result c.fill-filled.result c.show-shown.result
    c.first-3.ensures.earlier c.first.ensures.earlier c.first.ensures.later
    (λ filled shown. works_group missed_now result told told_now queued
    (ok_then (GoesOn result) c.show-shown.result shown c.show-shown.ensures.goes_on)
    (misses_by (g.U.Upkeep.confirmed c.confirmed-forced.new.upkeep) (g.U.Upkeep.missed c.confirmed-forced.new.upkeep) missed_now durable result c.confirmed-forced.ensures.by c.show-shown.ensures.misses)
    (subst (λ (q : List Told). AllTold IsBegunOf q queued) c.requires.empty
    (ok_then (AllTold IsBegunOf c.args.queue.now.items queued) c.fill-filled.result filled c.fill-filled.ensures.begun))
    (c.end_group-ended.ensures.told ∙ c.tell_all-told.ensures.told ∙ ap (λ (q : List Told). q ++ all_after result queued) c.fill-filled.ensures.told))

pub returns-clause-known : goal.returns-clause-known
returns-clause-known g c =
    let alone = g.E.Events.alone in
    let old : Machine = g.E.Events.machine c.args.engine.now in
    let filled : Machine = g.E.Events.machine c.fill-filled.new.engine in
    let tidied : Machine = g.E.Events.machine c.tidy_owed.new.engine in
    let forced : Machine = g.E.Events.machine c.make_durable-durable.new.engine in
    let new : Machine = g.E.Events.machine c.show-shown.new.engine in
    let durable = c.make_durable-durable.result in
    let result = c.confirmed-forced.result in
    let taken = g.C.Clients.taken c.args.clients.now in
    let taken_mid = g.C.Clients.taken c.fill-filled.new.clients in
    let queued : List Told = c.fill-filled.new.queue.items in
    let told : List Told = g.C.Clients.told c.args.clients.now in
    let told_now : List Told = g.C.Clients.told c.end_group-ended.new.self in
    let confirmed : ℕ → Type 0 = g.U.Upkeep.confirmed c.confirmed-forced.new.upkeep in
    let missed : ℕ → Type 0 = g.U.Upkeep.missed c.confirmed-forced.new.upkeep in
    let missed_now : ℕ → Type 0 = g.U.Upkeep.missed c.show-shown.new.upkeep in
    let fills : Fills alone old filled taken taken_mid [] queued =
    subst (λ (q : List Told). Fills alone old filled taken taken_mid q queued) c.requires.empty c.fill-filled.ensures.fills in
    both_ok (alone → AllTold (IsExcusedOf missed_now g.E.Events.machine new) told told_now) c.first-3.result c.first.result c.fill-filled.result c.show-shown.result
    c.first-3.ensures.earlier c.first.ensures.earlier c.first.ensures.later
    (λ filled_ok shown_ok a.
    let grows : Grows forced new = grows_in result forced new (c.show-shown.ensures.publishes a) in
    let same : new.held.log ≡ forced.held.log = same_in result forced new (c.show-shown.ensures.publishes a) in
    let does : DoesAll old queued forced =
    does_forced alone old filled tidied forced taken taken_mid queued fills c.tidy_owed.ensures.tidies c.make_durable-durable.ensures.stays a in
    excused_group missed_now g.E.Events.machine c.show-shown.new.engine result told told_now queued
    (ok_then (GoesOn result) c.show-shown.result shown_ok c.show-shown.ensures.goes_on)
    (misses_by confirmed missed missed_now durable result c.confirmed-forced.ensures.by c.show-shown.ensures.misses)
    (stable_in result forced new grows same (stable_by alone confirmed missed forced durable result c.confirmed-forced.ensures.by c.make_durable-durable.ensures.stable a))
    (subst (λ (q : List Told). AllTold IsBegunOf q queued) c.requires.empty
    (ok_then (AllTold IsBegunOf c.args.queue.now.items queued) c.fill-filled.result filled_ok c.fill-filled.ensures.begun))
    (held_shown forced new queued grows same does.held)
    (c.end_group-ended.ensures.told ∙ c.tell_all-told.ensures.told ∙ ap (λ (q : List Told). q ++ all_after result queued) c.fill-filled.ensures.told))

pub returns-clause-shown : goal.returns-clause-shown
returns-clause-shown g c a =
    let alone = g.E.Events.alone in
    let old : Machine = g.E.Events.machine c.args.engine.now in
    let filled : Machine = g.E.Events.machine c.fill-filled.new.engine in
    let tidied : Machine = g.E.Events.machine c.tidy_owed.new.engine in
    let forced : Machine = g.E.Events.machine c.make_durable-durable.new.engine in
    let new : Machine = g.E.Events.machine c.show-shown.new.engine in
    let durable = c.make_durable-durable.result in
    let result = c.confirmed-forced.result in
    let taken = g.C.Clients.taken c.args.clients.now in
    let taken_mid = g.C.Clients.taken c.fill-filled.new.clients in
    let queued : List Told = c.fill-filled.new.queue.items in
    let confirmed : ℕ → Type 0 = g.U.Upkeep.confirmed c.confirmed-forced.new.upkeep in
    let missed : ℕ → Type 0 = g.U.Upkeep.missed c.confirmed-forced.new.upkeep in
    let confirmed_now : ℕ → Type 0 = g.U.Upkeep.confirmed c.show-shown.new.upkeep in
    let fills : Fills alone old filled taken taken_mid [] queued =
    subst (λ (q : List Told). Fills alone old filled taken taken_mid q queued) c.requires.empty c.fill-filled.ensures.fills in
    let does : DoesAll old queued forced =
    does_forced alone old filled tidied forced taken taken_mid queued fills c.tidy_owed.ensures.tidies c.make_durable-durable.ensures.stays a in
    shown_from confirmed_now old forced new does.published
    (shown_in alone confirmed confirmed_now missed forced new durable result c.confirmed-forced.ensures.by c.show-shown.ensures.keeps c.make_durable-durable.ensures.exact (c.show-shown.ensures.publishes a) a)

pub returns-clause-bounds : goal.returns-clause-bounds
returns-clause-bounds g c a =
    let tidied : Machine = g.E.Events.machine c.tidy_owed.new.engine in
    let forced : Machine = g.E.Events.machine c.make_durable-durable.new.engine in
    let new : Machine = g.E.Events.machine c.show-shown.new.engine in
    let result = c.confirmed-forced.result in
    same_bounds forced new c.fill-filled.new.changes (grows_in result forced new (c.show-shown.ensures.publishes a)) (same_in result forced new (c.show-shown.ensures.publishes a))
    (stays_bounds tidied forced c.fill-filled.new.changes (c.make_durable-durable.ensures.stays a)
    (c.tidy_owed.ensures.bounds a (c.fill-filled.ensures.bounds a)))
