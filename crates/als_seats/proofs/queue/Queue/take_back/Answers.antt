use Rattle.std.proofs.Common.{length, ap, arith, refl}
use Rattle.std.proofs.lemmas.List.Filters.{length-filter_both}
use Rattle.als_seats.specs.Asks.{is_of, is_of_other}
use Rattle.als_seats.proofs.queue.Queue.take_back.Goals as goal

pub returns-clause-left : goal.returns-clause-left
returns-clause-left g c =
    let old = c.args.self.now.waiting.items in
    let both = length-filter_both (is_of {T = g.row.T.Denot} c.args.seat) (is_of_other {T = g.row.T.Denot} c.args.seat) (λ x. refl) old in
    let left = c.tell_not_begun.ensures.left in
    let kept = ap (λ xs. length xs) c.drop_asks.ensures in
    omega arith
