use Rattle.std.proofs.Common.{rules, ◌≡◌, true, subst}
use Rattle.als_lead.proofs.confirming.confirm_earlier.Goals as goal

pub publish-requires : goal.publish-requires
publish-requires g c =
    let yes : c.in_ok-has_confirmed.field-0 ≡ true = search rules in
    record {
      confirmed = λ a. subst (g.U.Upkeep.confirmed c.has_confirmed.new.self) (c.in_ok-lsn.ensures.exact a) (c.in_ok-has_confirmed.ensures.confirms yes);
    }
