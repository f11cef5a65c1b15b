use Rattle.std.specs.Prelude.{[], ◌∷◌, codes}
use Rattle.json.specs.Token.{key, boolean}
use Rattle.als_report.specs.Health.{is_new}
use Rattle.als_report.proofs.TextLaws.{two, flag_is}
use Rattle.als_report.proofs.primary_text.write_new.Goals as goal

pub returns-clause-tokens : goal.returns-clause-tokens
returns-clause-tokens c =
    let r = c.args.report.now in
    two _ _ _ (key (codes "new") ∷ []) (boolean (is_new r) ∷ []) c.in_ok-key.ensures.ok
    (flag_is _ _ _ (is_new r) c.in_ok-boolean.ensures.ok c.is_new.ensures)
