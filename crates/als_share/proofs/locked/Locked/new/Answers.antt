use Rattle.std.proofs.Common.{sym}
use Rattle.als_share.proofs.Reached.{from-none}
use Rattle.als_share.proofs.Following.{follows-none}
use Rattle.als_share.proofs.Floors.{starts_low}
use Rattle.als_share.proofs.locked.Locked.new.Goals as goal

pub invariant_of-result : goal.invariant_of-result
invariant_of-result g c = (
  c.requires.books,
  (λ alone. record {
    reached = from-none g.L.Ledgers.start _ c.requires.start;
    follows = λ none. follows-none g.L.Ledgers.start _ c.requires.start;
  }),
  sym c.requires.book,
  (λ alone. starts_low _ (g.E.Events.machine c.args.engine) c.requires.floor),
  c.requires.takes_over,
  (λ clean. c.requires.start),
  (λ none. c.requires.none),
)
