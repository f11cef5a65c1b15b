use Rattle.std.specs.Prelude.{[], ◌∷◌, codes, decimal}
use Rattle.json.specs.Token.{key, number, boolean}
use Rattle.als_report.proofs.TextLaws.{four}
use Rattle.als_report.proofs.primary_text.write_session.Goals as goal

pub returns-clause-tokens : goal.returns-clause-tokens
returns-clause-tokens c =
    let f = c.args.follower.now in
    four _ _ _ _ _ (key (codes "connected") ∷ []) (number (decimal f.age) ∷ []) (key (codes "counts") ∷ []) (boolean f.counts ∷ [])
    c.in_ok-key.ensures.ok c.in_ok-u64.ensures.ok c.in_ok-key-2.ensures.ok c.in_ok-boolean.ensures.ok
