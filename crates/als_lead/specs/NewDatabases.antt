-- The sizes of a new primary's database.
use Rattle.std.specs.Prelude.{◌≤◌}
use Rattle.als_lead.specs.declared.laying_out.NewDatabase.{NewDatabase}

-- each is in its range
pub record HasSizes (new : NewDatabase) : Type 0 where
  pub pages : (1 ≤ new.pages) × (new.pages ≤ 4096)
  pub log_blocks : (1 ≤ new.log_blocks) × (new.log_blocks ≤ 4194304)
