use Rattle.std.proofs.Common.{ap, ◌∙◌}
use Rattle.als_analysis.specs.Noted.{Table}
use Rattle.als_record.proofs.TailBound.{reserve_of-exact}
use Rattle.als_analysis.proofs.ReserveSum.{owed-reserve}
use Rattle.als_analysis.proofs.trans_table.TransTable.reserve_bytes.Goals as goal

pub returns : goal.returns
returns c log h short =
    c.self.invariant.counted
    ∙ owed-reserve log c.self.inside.entries.items (ap (λ (t : Table). t.rows) c.self.view_is ∙ h.rows) (ap (λ (t : Table). t.bytes) c.self.view_is ∙ h.bytes)
    ∙ reserve_of-exact log short
