use Rattle.std.proofs.Common.{length, ap, ◌∙◌}
use Rattle.als_record.proofs.RecordLaws.{length-spelling}
use Rattle.als_record.specs.Shown.{shown}
use Rattle.als_store.proofs.store.holding.len_of.Goals as goal

pub returns : goal.returns
returns c = ap length c.requires ∙ length-spelling (shown c.args._logged.now)
