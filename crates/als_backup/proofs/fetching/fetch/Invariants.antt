use Rattle.std.proofs.Common.{◌≡◌, ◌≤◌}
use Rattle.als_ship.specs.Vouching.{AnswersAll}
use Rattle.als_lookback.specs.Judged.{position_of}
use Rattle.als_backup.specs.Texts.{TakesFrames}
use Rattle.als_backup.proofs.fetching.fetch.Given as goal

abbrev pub invariant-loop : goal.invariant-loop
invariant-loop g l = record {
  taken : TakesFrames l.epoch l.fn.text l.text (g.R.Read.remaining l.fn.reader) (g.R.Read.remaining l.reader) (g.O.Write.contents l.fn.output) (g.O.Write.contents l.output);
  answers : AnswersAll 16 (g.W.Write.contents l.fn.writer) (g.W.Write.contents l.writer);
  within : position_of l.text ≤ l.end;
  pages : l.text.pages ≡ l.fn.text.pages;
}
