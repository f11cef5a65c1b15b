use Rattle.als_pages_check.proofs.CheckLaws.{AreChecked-added, OnOk-added}
use Rattle.als_pages_check.proofs.checks.Checks.add.Goals as goal

pub returns-clause-checked : goal.returns-clause-checked
returns-clause-checked c = OnOk-added c.put.result (λ added checked. AreChecked-added c.args.self.now.pages.items c.put.new.pages.items c.args.block.now c.args.redone_from added checked) c.put.ensures
