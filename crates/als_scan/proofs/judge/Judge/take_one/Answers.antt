use Rattle.std.proofs.Common.{◌∙◌}
use Rattle.std.proofs.lemmas.Result.{err_from_is_err_and}
use Rattle.als_log.specs.History.{records_in}
use Rattle.als_record.specs.Shown.{shown}
use Rattle.als_scan.proofs.JudgeLaws.{refuses_there, refuses_shape, cause_there, valid_there, took_judge, takes_there}
use Rattle.als_scan.proofs.judge.Judge.take_one.Goals as goal

pub invariant_of-self : goal.invariant_of-self
invariant_of-self c =
    let i = c.self.invariant in
    record { valid = i.valid; known = c.in_err-found-in-Ok-Some.ensures.same c.self.inside.receiver.pages (records_in c.self.inside.history) i.known; judging = c.admit.ensures.judging ∙ i.judging; wanted = i.wanted; unrefused = i.unrefused }

pub returns-in_err-found-in-Ok-Some-clause-err : goal.returns-in_err-found-in-Ok-Some-clause-err
returns-in_err-found-in-Ok-Some-clause-err c =
    let p = err_from_is_err_and c.from_residual.result c.from_residual.ensures.1 in
    let i = c.self.invariant in
    let r = c.self.inside.receiver in
    let log = records_in c.self.inside.history in
    let can = rw c.in-Ok-Some.field-0-is at c.in-Ok-Some.ensures.shows in
    rw (p.1, p.2, ← c.self.view_is) (cause_there r c.self.inside.validator log i (shown c.in-Ok-Some.seen) c.in-Ok-Some.len c.in_err-found-in-Ok-Some.field-0.0 can
    (c.in_err-found-in-Ok-Some.ensures.err r.pages log i.known i.valid can.out.fits))

pub invariant_of-self-in-Ok-Some : goal.invariant_of-self-in-Ok-Some
invariant_of-self-in-Ok-Some c =
    let i = c.self.invariant in
    let r = c.self.inside.receiver in
    let log = records_in c.self.inside.history in
    let can = rw c.in-Ok-Some.field-0-is at c.in-Ok-Some.ensures.shows in
    let ok = c.in_ok-found-in-Ok-Some.ensures in
    let good = ok.good r.pages log i.known i.valid can.out.fits in
    took_judge r c.self.inside.validator log i c.advance.new.self c.admit.new.validator (records_in c.push.new.self) c.in_ok-found-in-Ok-Some.found (shown c.in-Ok-Some.seen) c.in-Ok-Some.len can ok.copy c.advance.ensures c.push.ensures good
    (ok.ok r.pages log i.known (valid_there r c.self.inside.validator log i (shown c.in-Ok-Some.seen) c.in-Ok-Some.len can good))
    (c.admit.ensures.judging ∙ i.judging)

pub returns-in_ok-found-in-Ok-Some-clause-ok : goal.returns-in_ok-found-in-Ok-Some-clause-ok
returns-in_ok-found-in-Ok-Some-clause-ok c =
    let i = c.self.invariant in
    let r = c.self.inside.receiver in
    let log = records_in c.self.inside.history in
    let can = rw c.in-Ok-Some.field-0-is at c.in-Ok-Some.ensures.shows in
    let ok = c.in_ok-found-in-Ok-Some.ensures in
    rw (← c.self.view_is) (takes_there r c.self.inside.validator log i c.advance.new.self (records_in c.push.new.self) c.in_ok-found-in-Ok-Some.found (shown c.in-Ok-Some.seen) c.in-Ok-Some.len can ok.copy c.advance.ensures c.push.ensures
    (ok.good r.pages log i.known i.valid can.out.fits))

pub returns-in_ok-found-in-Ok-Some-clause-valid : goal.returns-in_ok-found-in-Ok-Some-clause-valid
returns-in_ok-found-in-Ok-Some-clause-valid c = (invariant_of-self-in-Ok-Some c).valid

pub returns-in-Err-clause-err : goal.returns-in-Err-clause-err
returns-in-Err-clause-err c =
    rw (c.from.ensures, ← c.self.view_is) (refuses_shape _ c.in-Err.refusal.fault c.in-Err.ensures.no_memory (refuses_there c.self.inside.receiver c.self.inside.validator (records_in c.self.inside.history) c.self.invariant c.in-Err.refusal c.in-Err.ensures.shows))
