use Rattle.std.proofs.Common.{◌≡◌, ℕ, ◌<◌, Bool, false, subst}
use Rattle.std.proofs.lemmas.Result.{err_from_is_err_and}
use Rattle.std.specs.Prelude.{IsSomeAnd}
use Rattle.als_record.specs.LogText.{end_of}
use Rattle.als_scan.specs.Scanned.{IsWhole}
use Rattle.als_reopen.specs.declared.fault.Fault.TheVariants.{BadControl}
use Rattle.als_reopen.specs.Refusing.{RefusesScan}
use Rattle.als_reopen.proofs.Refusals.{passed, other_checkpoint, refused_before}
use Rattle.als_reopen.proofs.Steps.{not_passed}
use Rattle.als_reopen.proofs.reading.Reading.step.Goals as goal

pub returns-in_err-check_position-clause-bare : goal.returns-in_err-check_position-clause-bare
returns-in_err-check_position-clause-bare g c whole valid text before f =
    let checkpoint = c.args.checkpoint.now in
    let old = c.args.self.now.scan in
    let new = c.take_one.new.self.scan in
    let met = c.in_ok-self.field-0 in
    let past = c.in_err-check_position.ensures.err.1 in
    let at = subst (λ (e : ℕ). IsSomeAnd checkpoint (λ k. (c.take_one.new.self.met ≡ false) × (k.numbers.position.0 < e))) c.end.ensures.end past in
    let there = subst (λ (b : Bool). IsSomeAnd checkpoint (λ k. (b ≡ false) × (k.numbers.position.0 < end_of new.log))) c.take_one.ensures.met at in
    absurd (not_passed checkpoint met c.in_ok-more.more old.log new.log whole (IsWhole new) c.in_ok-self.ensures.ok c.in_ok-more.ensures.more (c.in_ok-more.ensures.front whole valid text) f there)

pub returns-in_err-check_position-clause-refuses : goal.returns-in_err-check_position-clause-refuses
returns-in_err-check_position-clause-refuses g c =
    let checkpoint = c.args.checkpoint.now in
    let old = c.args.self.now.scan in
    let new = c.take_one.new.self.scan in
    let met = c.in_ok-self.field-0 in
    let at = subst (λ (e : ℕ). IsSomeAnd checkpoint (λ k. (c.take_one.new.self.met ≡ false) × (k.numbers.position.0 < e))) c.end.ensures.end c.in_err-check_position.ensures.err.1 in
    let there = subst (λ (b : Bool). IsSomeAnd checkpoint (λ k. (b ≡ false) × (k.numbers.position.0 < end_of new.log))) c.take_one.ensures.met at in
    let off = passed checkpoint met c.in_ok-more.more old.log new.log (IsWhole new) c.in_ok-self.ensures.ok c.in_ok-more.ensures.more there in
    let stands : RefusesScan BadControl old checkpoint = refused_before BadControl old new checkpoint c.take_one.ensures.scan (other_checkpoint new checkpoint c.in_ok-more.ensures.reading.facts off) in
    let p = err_from_is_err_and c.from_residual-in_err-check_position.result c.from_residual-in_err-check_position.ensures.1 in
    rw (p.1, p.2, c.in_err-check_position.ensures.err.0) stands
