use Rattle.std.specs.Prelude.{[], ◌∷◌, codes, map}
use Rattle.json.specs.Token.{begin_array, end_array, key}
use Rattle.als_report.specs.Texts.{image_token}
use Rattle.als_report.proofs.TextLaws.{four}
use Rattle.als_report.proofs.many.write_images.Goals as goal

pub returns-clause-tokens : goal.returns-clause-tokens
returns-clause-tokens c =
    four _ _ _ _ _ (key (codes "values") ∷ []) (begin_array ∷ []) (map image_token c.args.images.now) (end_array ∷ [])
    c.in_ok-key.ensures.ok c.in_ok-begin_array.ensures.ok c.in_ok-write_each.ensures.tokens c.in_ok-end_array.ensures.ok
