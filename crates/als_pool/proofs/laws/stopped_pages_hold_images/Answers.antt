use Rattle.als_pool.proofs.Stopping.{stopped}
use Rattle.als_pool.proofs.laws.stopped_pages_hold_images.Goals as goal

pub returns : goal.returns
returns c log front rest below more position rows pool left h is le le' reached listed covers picks = stopped log front rest below more position rows pool left h is le le' reached listed covers picks
