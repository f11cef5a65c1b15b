use Rattle.std.specs.Prelude.{[], ◌∷◌}
use Rattle.json.specs.Token.{begin_object, end_object, key, boolean}
use Rattle.als_report.proofs.TextLaws.{four}
use Rattle.als_report.proofs.report_text.write_flag.Goals as goal

pub returns-clause-tokens : goal.returns-clause-tokens
returns-clause-tokens c =
    four _ _ _ _ _ (begin_object ∷ []) (key c.args.name.now ∷ []) (boolean c.args.flag ∷ []) (end_object ∷ [])
    c.in_ok-begin_object.ensures.ok c.in_ok-key.ensures.ok c.in_ok-boolean.ensures.ok c.in_ok-end_object.ensures.ok
