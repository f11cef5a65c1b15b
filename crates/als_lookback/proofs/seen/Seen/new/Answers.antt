use Rattle.als_lookback.proofs.SeenLaws.{seen_none}
use Rattle.als_lookback.proofs.seen.Seen.new.Goals as goal

pub returns : goal.returns
returns c = seen_none c.in_ok-unwritten.field-0.items c.args.pages c.in_ok-unwritten.ensures
