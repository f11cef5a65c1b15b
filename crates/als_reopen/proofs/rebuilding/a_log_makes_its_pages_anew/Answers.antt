use Rattle.als_reopen.proofs.Rebuilt.{IsNode-laid_out}
use Rattle.als_reopen.proofs.rebuilding.a_log_makes_its_pages_anew.Goals as goal

pub returns : goal.returns
returns c pages blocks log old new images n h taken says all = IsNode-laid_out pages blocks log old new n h images taken says all
