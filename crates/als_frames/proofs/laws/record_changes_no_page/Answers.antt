use Rattle.als_frames.proofs.Keeping.{keeps_record}
use Rattle.als_frames.proofs.laws.record_changes_no_page.Goals as goal

pub returns : goal.returns
returns c = keeps_record
