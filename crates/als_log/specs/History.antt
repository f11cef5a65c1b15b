-- The records that a history stands for.
use Rattle.std.specs.Prelude.{List, [], ◌∷◌, ◌++◌}
use Rattle.als_record.specs.declared.record.Record.{Record}
use Rattle.als_log.specs.declared.history.History.{History}
use Rattle.als_log.specs.declared.records.Records.{Records}
use Rattle.als_log.specs.declared.records.Records.TheVariants.{Start, Then'}

-- records, oldest first
abbrev pub told_by : Records → List Record
told_by Start = []
told_by (Then' mark before last) = told_by before ++ last.value.value ∷ []

-- those of a history
abbrev pub records_in : History → List Record
records_in h = told_by h.records.value
