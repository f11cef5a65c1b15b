use Rattle.std.proofs.Common.{List, [], ◌∷◌, length, ap, ◌∙◌}
use Rattle.als_record.specs.Spelling.{Image}
use Rattle.als_view.proofs.Folding.{length-written_by}
use Rattle.als_lookback.proofs.seen.Seen.add.Goals as goal

pub invariant_of-self : goal.invariant_of-self
invariant_of-self c =
    ap (λ (xs : List Image). length xs) c.write_commit.ensures ∙ length-written_by (c.args.commit.now ∷ []) c.self.inside.images.items ∙ c.self.invariant
