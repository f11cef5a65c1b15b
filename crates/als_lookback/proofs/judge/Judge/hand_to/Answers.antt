use Rattle.std.proofs.Common.{◌≡◌, ◌+◌, ◌∙◌, refl, sym, ap, true}
use Rattle.als_lookback.specs.Fronts.{is_within}
use Rattle.als_log.specs.History.{records_in}
use Rattle.als_record.specs.Shown.{shown}
use Rattle.als_lookback.proofs.JudgeLaws.{valid_there, took_judge, takes_there, within_there}
use Rattle.als_lookback.proofs.judge.Judge.hand_to.Goals as goal

pub invariant_of-self : goal.invariant_of-self
invariant_of-self g c =
    let i = c.self.invariant in
    record { valid = i.valid; known = c.pass.ensures.kept c.self.inside.receiver.pages (records_in c.self.inside.history) i.known; judging = c.pass.ensures.judging ∙ i.judging; wanted = i.wanted; unrefused = i.unrefused }

pub invariant_of-self-then-not-ends_within : goal.invariant_of-self-then-not-ends_within
invariant_of-self-then-not-ends_within g c =
    let i = c.self.invariant in
    record { valid = i.valid; known = c.pass.ensures.kept c.self.inside.receiver.pages (records_in c.self.inside.history) i.known; judging = c.pass.ensures.judging ∙ i.judging; wanted = i.wanted; unrefused = i.unrefused }

pub invariant_of-self-in_err-take-in-Ok-Some : goal.invariant_of-self-in_err-take-in-Ok-Some
invariant_of-self-in_err-take-in-Ok-Some g c =
    let i = c.self.invariant in
    record { valid = i.valid; known = c.pass.ensures.kept c.self.inside.receiver.pages (records_in c.self.inside.history) i.known; judging = c.pass.ensures.judging ∙ i.judging; wanted = i.wanted; unrefused = i.unrefused }

pub invariant_of-self-in-Ok-Some : goal.invariant_of-self-in-Ok-Some
invariant_of-self-in-Ok-Some g c =
    let i = c.self.invariant in
    let r = c.self.inside.receiver in
    let log = records_in c.self.inside.history in
    let can = rw c.in-Ok-Some.field-0-is at c.in-Ok-Some.ensures.shows in
    let good = c.in_ok-pass-in-Ok-Some.ensures.good r.pages log i.known i.valid can.out.fits in
    took_judge r c.self.inside.validator log i c.advance.new.self c.admit.new.self (records_in c.push_view.new.self) (shown c.in-Ok-Some.seen) (shown c.in-Ok-Some.seen) c.in-Ok-Some.len can refl c.advance.ensures c.push_view.ensures good
    (c.admit.ensures.kept r.pages log (c.pass.ensures.kept r.pages log i.known) (valid_there r c.self.inside.validator log i (shown c.in-Ok-Some.seen) c.in-Ok-Some.len can good))
    (c.admit.ensures.judging ∙ c.pass.ensures.judging ∙ i.judging)

pub returns-in_ok-take-in-Ok-Some-clause-ok : goal.returns-in_ok-take-in-Ok-Some-clause-ok
returns-in_ok-take-in-Ok-Some-clause-ok g c =
    let i = c.self.invariant in
    let r = c.self.inside.receiver in
    let log = records_in c.self.inside.history in
    let can = rw c.in-Ok-Some.field-0-is at c.in-Ok-Some.ensures.shows in
    let good = c.in_ok-pass-in-Ok-Some.ensures.good r.pages log i.known i.valid can.out.fits in
    let took = c.in_ok-take-in-Ok-Some.ensures.ok r.pages log (c.pass.ensures.kept r.pages log i.known) i.valid can.out.fits (can.out.place ∙ i.wanted) good (c.front-bytes.ensures ∙ can.bytes) in
    let takes = takes_there r c.self.inside.validator log i c.advance.new.self (records_in c.push_view.new.self) (shown c.in-Ok-Some.seen) (shown c.in-Ok-Some.seen) c.in-Ok-Some.len can refl c.advance.ensures c.push_view.ensures good in
    let holds : c.ends_within.result ≡ true = c.if-not-ends_within.false in
    let below : is_within c.args.until (r.wanted + c.in-Ok-Some.len) ≡ true = sym (c.ends_within.ensures ∙ ap (λ n. is_within c.args.until (n + c.in-Ok-Some.len)) c.next_lsn.ensures) ∙ holds in
    let within = within_there r c.self.inside.validator log i c.args.until c.advance.new.self (records_in c.push_view.new.self) (shown c.in-Ok-Some.seen) c.in-Ok-Some.len can c.push_view.ensures below in
    rw (← c.self.view_is) (shown c.in-Ok-Some.seen, takes, within, took)

pub returns-in_ok-take-in-Ok-Some-clause-valid : goal.returns-in_ok-take-in-Ok-Some-clause-valid
returns-in_ok-take-in-Ok-Some-clause-valid g c = (invariant_of-self-in-Ok-Some g c).valid
