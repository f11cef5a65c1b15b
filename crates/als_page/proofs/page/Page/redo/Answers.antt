use Rattle.std.proofs.Common.{sym, ◌∙◌, ap}
use Rattle.als_record.specs.Pages.{redone}
use Rattle.als_record.proofs.PageLaws.{changes_above-cons}
use Rattle.als_page.proofs.page.Page.redo.Goals as goal

pub returns-clause-history : goal.returns-clause-history
returns-clause-history c log rest follows was next =
    let old = c.args.self.now in
    let change = c.args.change.now in
    ap (λ page. redone page change) was ∙ sym (changes_above-cons log old.id old.lsn.0 change rest follows next).page_then
