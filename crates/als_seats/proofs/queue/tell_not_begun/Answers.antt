use Rattle.std.proofs.Common.{rules, ◌≡◌, ◌++◌, ◌-◌, length, List, [], ◌∷◌, true, false, refl, sym, ap, ◌∙◌, subst, append_assoc, append-nil, arith}
use Rattle.std.specs.List.{filter}
use Rattle.std.proofs.lemmas.Bool.{eq-eqb, ne_eqb}
use Rattle.als_seats.specs.declared.ask.Ask.{Ask}
use Rattle.als_seats.specs.Asks.{is_of}
use Rattle.als_seats.specs.Outcomes.{TakesBack}
use Rattle.als_seats.proofs.Outcomes.{one-not_begun, takes-none, takes-one, takes-other, left-one, left-other}
use Rattle.als_seats.proofs.queue.tell_not_begun.Goals as goal

pub loop-ask-init : goal.loop-ask-init
loop-ask-init g c = ([], (search rules), takes-none {T = g.row.T.Denot} c.args.seat c.args.slots.now.outcomes.items, omega arith, refl)

pub loop-ask-preserved-then-ask-seat : goal.loop-ask-preserved-then-ask-seat
loop-ask-preserved-then-ask-seat g c =
    let i = c.loop-ask.invariant in
    let ask = c.in-Some.ask.now in
    let told = c.set_outcome.ensures in
    let new = c.set_outcome.new.self in
    let is : is_of {T = g.row.T.Denot} c.args.seat ask ≡ true = eq-eqb ask.place.seat c.args.seat c.if-ask-seat.true in (
      i.0 ++ ask ∷ [],
      append_assoc i.0 (ask ∷ []) (c.next.new.self.head.now ++ c.next.new.self.wrapped.now)
          ∙ ap (λ (zs : List (Ask g.row.T.Denot)). i.0 ++ zs) (sym c.in-Some.ensures.steps)
          ∙ i.1,
      takes-one c.args.seat i.0 ask c.args.slots.now.outcomes.items c.loop-ask.slots.outcomes.items new.outcomes.items c.if-ask-seat.true i.2
          (one-not_begun c.loop-ask.slots.outcomes.items new.outcomes.items ask.place.at told.told told.past),
      left-one c.args.seat i.0 ask c.args.slots.now.left c.loop-ask.slots.left new.left is i.3 told.left,
      told.same ∙ i.4,
    )

pub loop-ask-preserved : goal.loop-ask-preserved
loop-ask-preserved g c =
    let i = c.loop-ask.invariant in
    let ask = c.in-Some.ask.now in
    let not : is_of {T = g.row.T.Denot} c.args.seat ask ≡ false = ne_eqb ask.place.seat c.args.seat c.if-ask-seat.false in (
      i.0 ++ ask ∷ [],
      append_assoc i.0 (ask ∷ []) (c.next.new.self.head.now ++ c.next.new.self.wrapped.now)
          ∙ ap (λ (zs : List (Ask g.row.T.Denot)). i.0 ++ zs) (sym c.in-Some.ensures.steps)
          ∙ i.1,
      takes-other c.args.seat i.0 ask c.args.slots.now.outcomes.items c.loop-ask.slots.outcomes.items c.if-ask-seat.false i.2,
      left-other c.args.seat i.0 ask c.args.slots.now.left c.loop-ask.slots.left not i.3,
      i.4,
    )

-- all questions were gone through
all_done : {T : Type 0} → (done rest all : List (Ask T)) → done ++ rest ≡ all → length rest ≡ 0 → done ≡ all
all_done done [] all e none = sym (append-nil done) ∙ e
all_done done (x ∷ xs) all e none = absurd (omega arith)

pub returns-clause-told : goal.returns-clause-told
returns-clause-told g c =
    let i = c.loop-ask.invariant in
    let all = all_done i.0 (c.loop-ask.ask-iterator.head.now ++ c.loop-ask.ask-iterator.wrapped.now) c.args.waiting.now.items i.1 c.in-None.ensures.steps.0 in
    subst (λ (asks : List (Ask g.row.T.Denot)). TakesBack c.args.seat asks c.args.slots.now.outcomes.items c.loop-ask.slots.outcomes.items) all i.2

pub returns-clause-left : goal.returns-clause-left
returns-clause-left g c =
    let i = c.loop-ask.invariant in
    let all = all_done i.0 (c.loop-ask.ask-iterator.head.now ++ c.loop-ask.ask-iterator.wrapped.now) c.args.waiting.now.items i.1 c.in-None.ensures.steps.0 in
    subst (λ (asks : List (Ask g.row.T.Denot)). c.loop-ask.slots.left ≡ c.args.slots.now.left - length (filter (is_of {T = g.row.T.Denot} c.args.seat) asks)) all i.3

pub returns-clause-over : goal.returns-clause-over
returns-clause-over g c = let i = c.loop-ask.invariant in i.4
