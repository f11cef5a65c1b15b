use Rattle.als_sending.proofs.Frames.{pieces_cover}
use Rattle.als_sending.proofs.laws.sent_pieces_cover.Goals as goal

pub returns : goal.returns
returns c = pieces_cover
