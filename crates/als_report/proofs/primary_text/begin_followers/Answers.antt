use Rattle.std.specs.Prelude.{[], ◌∷◌, codes}
use Rattle.json.specs.Token.{begin_array, key}
use Rattle.als_report.proofs.TextLaws.{two}
use Rattle.als_report.proofs.primary_text.begin_followers.Goals as goal

pub returns-clause-tokens : goal.returns-clause-tokens
returns-clause-tokens c =
    two _ _ _ (key (codes "followers") ∷ []) (begin_array ∷ []) c.in_ok-key.ensures.ok c.in_ok-begin_array.ensures.ok
