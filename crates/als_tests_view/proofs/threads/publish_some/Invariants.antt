use Rattle.als_published_log.specs.Keeping.{IsSameView}
use Rattle.als_tests_view.proofs.threads.publish_some.Given as goal

abbrev pub invariant-loop-number : goal.invariant-loop-number
invariant-loop-number g l = IsSameView l.fn.log.view l.log.view
