use Rattle.std.proofs.Common.{◌≡◌, ℕ, ◌+◌, List, length}
use Rattle.std.specs.List.{AllByRecursion}
use Rattle.als_commits.specs.Left.{writes_left}
use Rattle.als_record.specs.declared.record.Record.{Record as AnyRecord}
use Rattle.als_record.specs.Spelling.{IsKey}
use Rattle.als_writing.specs.Placing.{IsPlaceOf}
use Rattle.als_renew.specs.Carried.{HasNow}
use Rattle.als_renew.proofs.Doubting.{SpelledSoFar}
use Rattle.als_renew.proofs.doubt.spell_writes.Given as goal

abbrev pub invariant-loop : goal.invariant-loop
invariant-loop l = record {
  counted : length (writes_left l.left) + l.counter ≡ length l.writes;
  trans : l.place.trans ≡ l.fn.place.trans;
  so_far : (pages : ℕ) (log : List AnyRecord) → IsPlaceOf l.fn.place log → AllByRecursion (λ w. IsKey pages w.key) l.writes → HasNow l.fn.now pages log
      → SpelledSoFar pages log l.fn.place.trans.0 l.writes (writes_left l.left) l.piece.items l.place l.now;
}
