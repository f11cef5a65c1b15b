use Rattle.std.proofs.Common.{◌≡◌, ◌≤◌, ◌-◌, length}
use Rattle.als_ship.proofs.Pieces.{Answered}
use Rattle.als_ship.proofs.shipper.Shipper.pour.Given as goal

abbrev pub invariant-loop-at : goal.invariant-loop-at
invariant-loop-at g l = record {
  text : g.S.Source.text l.source ≡ g.S.Source.text l.fn.source;
  seals : g.S.Source.seals l.source ≡ g.S.Source.seals l.fn.source;
  epoch : l.epoch ≡ length (g.S.Source.seals l.fn.source);
  room : length l.room ≡ 65536;
  low : l.from ≤ l.at;
  high : l.at ≤ l.end;
  begun : l.self.begun ≡ l.fn.self.begun;
  sent : Answered (g.S.Source.text l.fn.source) l.epoch l.from l.at (g.W.Write.contents l.fn.writer) (g.W.Write.contents l.writer) (g.R.Read.remaining l.fn.reader) (g.R.Read.remaining l.reader) l.self.acknowledged;
}

abbrev pub decreases-loop-at : goal.decreases-loop-at
decreases-loop-at g l = l.end - l.at
