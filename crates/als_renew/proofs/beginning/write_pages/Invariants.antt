use Rattle.std.proofs.Common.{◌≡◌, ℕ, ◌+◌, ◌*◌, ◌≤◌, List}
use Rattle.als_record.specs.declared.record.Record.{Record as AnyRecord}
use Rattle.als_lookback.specs.Seen.{IsSeenOf}
use Rattle.als_renew.specs.Renewed.{WritesPages}
use Rattle.als_renew.proofs.beginning.write_pages.Given as goal

abbrev pub invariant-loop-page : goal.invariant-loop-page
invariant-loop-page g l = record {
  room : l.end.0 ≤ 16 + 1046 * l.page;
  so_far : (held : List AnyRecord) → IsSeenOf l.seen l.seen.pages held → WritesPages l.seen.pages l.page held (g.W.Write.contents l.fn.writer) (g.W.Write.contents l.writer) l.greatest.0 l.end.0;
}
