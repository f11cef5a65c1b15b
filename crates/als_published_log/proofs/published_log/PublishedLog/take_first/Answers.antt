use Rattle.als_record.specs.Shown.{shown}
use Rattle.als_published_log.proofs.KeepingLaws.{kept_still, kept_more}
use Rattle.als_published_log.proofs.published_log.PublishedLog.take_first.Goals as goal

pub invariant_of-self : goal.invariant_of-self
invariant_of-self c =
    let s = c.args.self.now in record {
      kept = kept_still s.pages s.end.0 s.validator c.hold.new.validator s.view c.hold.new.view
          (c.in_err-hold.ensures.err s.pages) s.kept;
      judging = c.hold.ensures.judging;
    }

pub invariant_of-self-2 : goal.invariant_of-self-2
invariant_of-self-2 c =
    let s = c.args.self.now in
    let found = rw c.in-Ok-Some.field-0-is at c.in-Ok-Some.ensures.found in record {
      kept = kept_more s.pages s.end.0 c.in-Ok-Some.found.1 c.in-Some.end (shown c.in-Ok-Some.found.0) s.validator
          c.hold.new.validator s.view c.hold.new.view found.1 c.in-Some.ensures.1 found.3 found.4
          c.in_ok-hold.ensures.ok s.kept;
      judging = c.hold.ensures.judging;
    }
