use Rattle.std.specs.Prelude.{[], ◌∷◌, codes, decimal}
use Rattle.std.specs.Net.Text.{ip_text}
use Rattle.std.proofs.Common.{◌∙◌}
use Rattle.json.specs.Token.{key, string, number}
use Rattle.als_report.proofs.TextLaws.{four, string_is}
use Rattle.als_report.proofs.primary_text.write_place.Goals as goal

pub returns-clause-tokens : goal.returns-clause-tokens
returns-clause-tokens c =
    let f = c.args.follower.now in
    four _ _ _ _ _ (key (codes "address") ∷ []) (string (ip_text f.peer) ∷ []) (key (codes "acknowledged") ∷ []) (number (decimal f.acknowledged.0) ∷ [])
    c.in_ok-key.ensures.ok (string_is _ _ _ (ip_text f.peer) c.in_ok-string.ensures.ok (c.as_str.ensures.value ∙ c.in_ok-peer.ensures))
    c.in_ok-key-2.ensures.ok c.in_ok-u64.ensures.ok
