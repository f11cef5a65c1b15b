use Rattle.als_record.proofs.Falling.{Falling-losing}
use Rattle.als_record.proofs.Sweep.{compensations-tail_of, losing-of}
use Rattle.als_laws.proofs.takeover.sweep_falls.Goals as goal

pub returns-clause-undone : goal.returns-clause-undone
returns-clause-undone c log = compensations-tail_of log

pub returns-clause-falls : goal.returns-clause-falls
returns-clause-falls c log v = Falling-losing log v

pub returns-clause-parts : goal.returns-clause-parts
returns-clause-parts c log t = losing-of log t
