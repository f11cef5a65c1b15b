use Rattle.std.proofs.Common.{refl, sym, ◌∙◌}
use Rattle.als_record.specs.Pages.{changes_above}
use Rattle.als_dirty.proofs.ImageSteps.{first_later, nothing_later}
use Rattle.als_dirty.proofs.laws.rec_lsn_covers_each_image.Goals as goal

pub returns-clause-row : goal.returns-clause-row
returns-clause-row c = λ log page synced written lsn e first follows h le is.
    first_later log page synced lsn first (changes_above log page synced) follows le refl (sym h.synced_first.first ∙ is)

pub returns-clause-no_row : goal.returns-clause-no_row
returns-clause-no_row c = λ log page synced written lsn e h le is.
    nothing_later log page synced lsn (changes_above log page synced) le refl (sym h.synced_first.first ∙ is)
