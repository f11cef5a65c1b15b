use Rattle.std.proofs.Common.{ap}
use Rattle.als_view.specs.Views.{listed_in}
use Rattle.als_published_log.proofs.KeepingLaws.{kept_nil}
use Rattle.als_published_log.proofs.published_log.PublishedLog.new.Goals as goal

pub invariant_of-log : goal.invariant_of-log
invariant_of-log g c =
    let made = c.in_ok-view.ensures.view in record {
      kept = kept_nil c.args.pages c.in-Ok.validator c.in_ok-view.view c.in-Ok.ensures.ok made.0
          (ap listed_in made.3) made.1;
      judging = c.in-Ok.ensures.judging;
    }
