-- What the end of a recovery makes of the small machine.
use Rattle.std.specs.Prelude.{◌≡◌, true, false, length, Result, Ok, Err}
use Rattle.als_record.specs.Commits.{commits_of}
use Rattle.als_engine.specs.declared.fault.Fault.{Fault}
use Rattle.als_engine.specs.declared.fault.Fault.TheVariants.{Memory}
use Rattle.als_engine.specs.declared.step.Step.TheVariants as step
use Rattle.als_engine.specs.Machine.{Machine}
use Rattle.als_engine.specs.Refusals.{Does}

-- it is not recovering any more, and all commits of the held log are published
abbrev pub readied : Machine → Machine
readied m = record m {
  held = record m.held { recovering = false };
  listed = true;
  published = length (commits_of m.held.log);
}

-- or an allocation failed, and nothing changed
abbrev pub BecomesReady : Machine → Result (Unit {0}) Fault → Machine → Type 0
BecomesReady old (Ok done) new = new ≡ readied old
BecomesReady old (Err fault) new = (fault ≡ Memory) × (new ≡ old)

abbrev pub Readies : Machine → Result (Unit {0}) Fault → Machine → Type 0
Readies old result new = Does old step.Ready (BecomesReady old) result new
