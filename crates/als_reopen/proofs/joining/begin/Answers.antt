use Rattle.std.proofs.Common.{ap, ◌∙◌}
use Rattle.als_commits.specs.Waiting.{Waiting}
use Rattle.als_scan.specs.Scanned.{Scanned}
use Rattle.als_reopen.proofs.Steps.{begins_met}
use Rattle.als_reopen.proofs.Waits.{none_wait}
use Rattle.als_reopen.proofs.joining.begin.Goals as goal

pub returns-in-Ok-clause-met : goal.returns-in-Ok-clause-met
returns-in-Ok-clause-met g c = begins_met c.args.checkpoint.now c.args.mark.0 c.in-Ok.scan.log (ap (λ (s : Scanned). s.log) c.in-Ok.ensures.ok) c.requires.position

pub returns-in-Ok-clause-waiting : goal.returns-in-Ok-clause-waiting
returns-in-Ok-clause-waiting g c =
    ap (λ (w : Waiting). w.queued) c.new-in-Ok-2.ensures
    ∙ none_wait c.in-Ok.scan.log (ap (λ (s : Scanned). s.log) c.in-Ok.ensures.ok)
