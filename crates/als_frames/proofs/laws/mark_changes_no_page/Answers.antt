use Rattle.als_frames.proofs.Keeping.{keeps_mark}
use Rattle.als_frames.proofs.laws.mark_changes_no_page.Goals as goal

pub returns : goal.returns
returns c log synced below more pages le h = keeps_mark log synced below pages more le h
