use Rattle.als_dirty.proofs.TableSteps.{other_kept}
use Rattle.als_dirty.proofs.laws.other_records_pass.Goals as goal

pub returns : goal.returns
returns c = other_kept
