use Rattle.std.proofs.Common.{ap, ◌∙◌}
use Rattle.als_view.specs.Images.{written}
use Rattle.als_lookback.specs.Seen.{Seen}
use Rattle.als_lookback.proofs.SeenLaws.{put_one, put_count}
use Rattle.als_lookback.proofs.seen.Seen.put.Goals as goal

pub invariant_of-self : goal.invariant_of-self
invariant_of-self c = put_count c.self.inside.images.items c.write_one.new.images.items c.args.write.now c.write_one.ensures ∙ c.self.invariant

pub returns : goal.returns
returns c pages commits h = put_one c.args.self.now (record { pages = c.self.inside.pages; images = c.write_one.new.images.items; commits = c.self.inside.commits; last = c.self.inside.last.0 }) pages commits c.args.write.now
    (ap (λ (s : Seen). s.pages) c.self.view_is) (c.write_one.ensures ∙ ap (λ (s : Seen). written s.images c.args.write.now) c.self.view_is) h
