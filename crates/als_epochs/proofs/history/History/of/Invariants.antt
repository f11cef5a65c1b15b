use Rattle.std.proofs.Common.{◌≡◌, take, map}
use Rattle.als_record.specs.declared.lsn.Lsn.{Lsn}
use Rattle.als_epochs.proofs.history.History.of.Given as goal

abbrev pub invariant-loop-seal : goal.invariant-loop-seal
invariant-loop-seal l = l.history ≡ map (λ (s : Lsn). s.0) (take l.seal-index l.seals)
