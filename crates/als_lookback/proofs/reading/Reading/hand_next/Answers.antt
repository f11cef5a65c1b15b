use Rattle.std.proofs.Common.{subst, sym}
use Rattle.als_lookback.specs.Readings.{Reads}
use Rattle.als_lookback.proofs.StepLaws.{hand_text}
use Rattle.als_lookback.proofs.reading.Reading.hand_next.Goals as goal

pub returns-clause-text : goal.returns-clause-text
returns-clause-text g c text reads =
    let was = subst (Reads text) (sym c.self.view_is) reads in
    hand_text _ _ _ _ text (g.R.Read.remaining c.self.inside.reader) c.self.inside.pages c.self.inside.judge c.hand_to.new.self c.in_ok-more.more c.self.invariant.2 c.in_ok-more.ensures.ok was
