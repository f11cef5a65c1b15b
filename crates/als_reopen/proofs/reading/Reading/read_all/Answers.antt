use Rattle.std.proofs.Common.{ap}
use Rattle.als_scan.specs.Scanned.{Scanned, IsWhole}
use Rattle.als_reopen.proofs.Steps.{steps_down}
use Rattle.als_reopen.proofs.reading.Reading.read_all.Goals as goal

pub returns-in_err-more-clause-images : goal.returns-in_err-more-clause-images
returns-in_err-more-clause-images g c log below h = c.step.ensures.images log below (c.loop-more.invariant.images log below h)

pub loop-more-smaller : goal.loop-more-smaller
loop-more-smaller g c =
    let old = c.loop-more.self.scan in
    let new = c.step.new.self.scan in
    steps_down c.in_ok-more.more c.loop-more.more old new (IsWhole new) _ c.in_ok-more.ensures.more (ap (λ (s : Scanned). s.mark) c.step.ensures.scan) c.in_ok-more.ensures.reading.facts c.loop-more-test.true
