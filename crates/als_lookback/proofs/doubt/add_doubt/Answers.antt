use Rattle.std.proofs.Common.{◌≡◌, true, Bool, cond, List, [], ◌∷◌, ◌++◌, sym, ap, ◌∙◌}
use Rattle.als_record.specs.Table.{is_prepared}
use Rattle.als_lookback.specs.Doubts.{Doubt, doubt_in}
use Rattle.als_lookback.proofs.doubt.add_doubt.Goals as goal

pub returns : goal.returns
returns c pages log known unended =
    let yes : is_prepared c.args.row.state ≡ true = sym c.is_doubt.ensures ∙ c.if-not-is_doubt.false in
    let ds : List Doubt = c.args.doubts.now.items in
    c.in_ok-push.ensures.items
    ∙ ap (λ (d : Doubt). ds ++ d ∷ []) (c.in_ok-doubt.ensures pages log known unended)
    ∙ ap (λ (b : Bool). ds ++ cond b (doubt_in log c.args.row.trans.0 ∷ []) []) (sym yes)
