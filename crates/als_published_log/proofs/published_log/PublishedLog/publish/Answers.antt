use Rattle.std.proofs.Common.{arith}
use Rattle.als_published_log.proofs.KeepingLaws.{may_be_published, kept_shown}
use Rattle.als_published_log.proofs.published_log.PublishedLog.publish.Goals as goal

pub publish_ended-requires : goal.publish_ended-requires
publish_ended-requires g c =
    let s = c.args.self.now in may_be_published s.pages s.end.0 s.validator s.view s.kept

pub invariant_of-self : goal.invariant_of-self
invariant_of-self g c =
    let s = c.args.self.now in record {
      kept = kept_shown s.pages s.end.0 s.validator s.view c.publish_ended.new.self
          (λ log h. c.publish_ended.ensures.shows log 18446744073709551615 (omega arith) h) s.kept;
      judging = s.judging;
    }
