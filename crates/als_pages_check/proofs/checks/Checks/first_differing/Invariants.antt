use Rattle.als_pages_check.proofs.Walking.{AgreedBefore}
use Rattle.als_pages_check.proofs.checks.Checks.first_differing.Given as goal

abbrev pub invariant-loop-check : goal.invariant-loop-check
invariant-loop-check l = AgreedBefore l.check-items l.check-index l.page
