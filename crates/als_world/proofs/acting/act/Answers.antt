use Rattle.std.proofs.Common.{sym, subst}
use Rattle.als_world.specs.declared.step.WorldStep.{WorldStep}
use Rattle.als_world.specs.declared.step.WorldReply.TheVariants as reply
use Rattle.als_world.specs.Runs.{Acts}
use Rattle.als_world.proofs.ActLaws.{acts_event, acts_read, acts_lend, acts_redo, acts_hand, acts_give, acts_drop}
use Rattle.als_world.proofs.KeepLaws.{stays}
use Rattle.als_world.proofs.acting.act.Goals as goal

pub returns-in-Event-clause-acts : goal.returns-in-Event-clause-acts
returns-in-Event-clause-acts g c =
    let old = c.args.engine.now.machine in
    let slots = c.args.slots.now in
    subst (λ (s : WorldStep). Acts old slots s (reply.Event c.step.result) c.step.new.self.machine c.args.slots.now) (sym c.in-Event.is) (acts_event old slots c.in-Event.event c.step.result c.step.new.self.machine c.step.ensures.steps)

pub returns-in-Read-clause-acts : goal.returns-in-Read-clause-acts
returns-in-Read-clause-acts g c =
    let old = c.args.engine.now.machine in
    let slots = c.args.slots.now in
    subst (λ (s : WorldStep). Acts old slots s c.read.result c.args.engine.now.machine c.args.slots.now) (sym c.in-Read.is) (acts_read old slots c.in-Read.key c.read.result c.read.ensures.answers)

pub returns-in-Lend-clause-acts : goal.returns-in-Lend-clause-acts
returns-in-Lend-clause-acts g c =
    let old = c.args.engine.now.machine in
    let slots = c.args.slots.now in
    subst (λ (s : WorldStep). Acts old slots s c.lend.result c.lend.new.engine.machine c.lend.new.slots) (sym c.in-Lend.is) (acts_lend old slots c.in-Lend.page c.in-Lend.to c.lend.result c.lend.new.engine.machine c.lend.new.slots c.lend.ensures.lends)

pub returns-in-Redo-clause-acts : goal.returns-in-Redo-clause-acts
returns-in-Redo-clause-acts g c =
    let old = c.args.engine.now.machine in
    let slots = c.args.slots.now in
    subst (λ (s : WorldStep). Acts old slots s c.redo.result c.args.engine.now.machine c.redo.new.slots) (sym c.in-Redo.is) (acts_redo old slots c.in-Redo.at c.redo.result c.redo.new.slots c.redo.ensures)

pub returns-in-Hand-clause-acts : goal.returns-in-Hand-clause-acts
returns-in-Hand-clause-acts g c =
    let old = c.args.engine.now.machine in
    let slots = c.args.slots.now in
    subst (λ (s : WorldStep). Acts old slots s c.hand.result c.args.engine.now.machine c.hand.new.slots) (sym c.in-Hand.is) (acts_hand old slots c.in-Hand.from c.in-Hand.to c.hand.result c.hand.new.slots c.hand.ensures)

pub returns-in-Give-clause-acts : goal.returns-in-Give-clause-acts
returns-in-Give-clause-acts g c =
    let old = c.args.engine.now.machine in
    let slots = c.args.slots.now in
    subst (λ (s : WorldStep). Acts old slots s c.give.result c.give.new.engine.machine c.give.new.slots) (sym c.in-Give.is) (acts_give old slots c.in-Give.from c.give.result c.give.new.engine.machine c.give.new.slots c.give.ensures.gives)

pub returns-in-Drop-clause-acts : goal.returns-in-Drop-clause-acts
returns-in-Drop-clause-acts g c =
    let old = c.args.engine.now.machine in
    let slots = c.args.slots.now in
    subst (λ (s : WorldStep). Acts old slots s c.discard.result c.args.engine.now.machine c.discard.new.slots) (sym c.in-Drop.is) (acts_drop old slots c.in-Drop.from c.discard.result c.discard.new.slots c.discard.ensures)

-- ---- nothing was done to the engine

pub returns-in-Read-clause-keeps : goal.returns-in-Read-clause-keeps
returns-in-Read-clause-keeps g c = stays c.args.engine.now.machine

pub returns-in-Redo-clause-keeps : goal.returns-in-Redo-clause-keeps
returns-in-Redo-clause-keeps g c = stays c.args.engine.now.machine

pub returns-in-Hand-clause-keeps : goal.returns-in-Hand-clause-keeps
returns-in-Hand-clause-keeps g c = stays c.args.engine.now.machine

pub returns-in-Drop-clause-keeps : goal.returns-in-Drop-clause-keeps
returns-in-Drop-clause-keeps g c = stays c.args.engine.now.machine
