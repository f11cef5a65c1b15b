use Rattle.std.proofs.Common.{◌≡◌, ℕ, List, length, sym, subst}
use Rattle.als_ship.specs.Wire.{bytes_at}
use Rattle.als_ship.proofs.Fronts.{holds_same}
use Rattle.als_backup.proofs.filling.feed.Goals as goal

pub returns-in-Ok : goal.returns-in-Ok
returns-in-Ok g c = record {
  keeps = λ a texts seals epochs holds h.
      let there = subst (λ (xs : List ℕ). bytes_at (texts c.args.epoch) c.args.at (length xs) ≡ xs) (sym c.in_ok-bytes.ensures) holds in
      let fed = c.in_ok-frame.ensures.front a texts seals epochs there h in
      let forced = holds_same texts seals (g.E.Events.machine c.frame.new.events) (g.E.Events.machine c.force.new.events) (c.in_ok-force.ensures.same a) fed in
      holds_same texts seals (g.E.Events.machine c.force.new.events) (g.E.Events.machine c.keep_up.new.events) (c.in-Ok.ensures.same a) forced;
}
