use Rattle.std.proofs.Common.{rules}
use Rattle.std.proofs.lemmas.Fn.{filter_same}
use Rattle.als_seats.specs.Asks.{is_of_other}
use Rattle.als_seats.proofs.queue.drop_asks.Goals as goal

pub returns : goal.returns
returns g c = filter_same _ (is_of_other {T = g.row.T.Denot} c.args.seat) _ (λ x b f' k. search rules) _ _ c.retain.ensures.filtered
