use Rattle.std.proofs.Common.{◌≡◌, All, length}
use Rattle.als_view.specs.Views.{all_by, published_by, IsSameView, IsNewReader}
use Rattle.als_view.proofs.opening.fill.Given as goal

abbrev pub invariant-loop : goal.invariant-loop
invariant-loop l = record {
  same : IsSameView l.fn.publisher l.publisher;
  all : all_by l.publisher ≡ all_by l.fn.publisher;
  published : published_by l.publisher ≡ published_by l.fn.publisher;
  readers : All (IsNewReader l.fn.publisher) l.all.items;
  count : length l.all.items ≡ l.counter;
}
