use Rattle.std.proofs.Common.{◌≡◌}
use Rattle.als_shipper.specs.Visits.{PassesOver}
use Rattle.als_shipper.proofs.shipping.serve_next.Given as goal

abbrev pub invariant-loop : goal.invariant-loop
invariant-loop g l = record {
  over : PassesOver (g.V.Visitors.met l.fn.visitors) (g.V.Visitors.met l.visitors);
  quiet : g.O.Write.contents l.output ≡ g.O.Write.contents l.fn.output;
  same : g.S.Source.text l.source ≡ g.S.Source.text l.fn.source;
  kept : g.S.Source.seals l.source ≡ g.S.Source.seals l.fn.source;
}
