use Rattle.std.proofs.Common.{◌≡◌}
use Rattle.als_view.specs.Moving.{MovesFirst}
use Rattle.als_view.specs.Views.{all_by, published_by, IsSameView}
use Rattle.als_view.proofs.publisher.Publisher.take_first.Given as goal

abbrev pub invariant-loop : goal.invariant-loop
invariant-loop l = record {
  moved : MovesFirst l.counter l.counter (all_by l.initial.self) l.initial.waiting.queued (all_by l.self) l.waiting.queued;
  same : IsSameView l.initial.self l.self;
  published : published_by l.self ≡ published_by l.initial.self;
}
