use Rattle.std.proofs.Common.{◌≡◌, ◌+◌, ◌*◌, ◌≤◌, ◌<◌, ℕ, List, None, length, map}
use Rattle.std.specs.List.{AllByRecursion}
use Rattle.als_record.specs.declared.record.Record.{Record as AnyRecord}
use Rattle.als_record.specs.Spelling.{IsImage}
use Rattle.als_record.specs.Images.{image_now}
use Rattle.als_writing.specs.Writing.{Writes}
use Rattle.als_lookback.specs.Seen.{IsSeenOf}
use Rattle.als_writing.specs.Placing.{IsPlaceOf, SoFar}
use Rattle.als_renew.specs.Pages.{key_at, page_writes, value_in}
use Rattle.als_renew.proofs.page.spell_values.Given as goal

abbrev pub invariant-loop-slot : goal.invariant-loop-slot
invariant-loop-slot l = record {
  so_far : (held log : List AnyRecord) → IsSeenOf l.fn.seen l.fn.seen.pages held → IsPlaceOf l.fn.place log → ((slot : ℕ) → slot < 15 → image_now log (key_at l.fn.page slot) ≡ None)
      → SoFar log l.fn.place.trans.0 (map Writes (page_writes (value_in held) l.fn.page l.slot)) l.piece.items l.place;
  counted : (held : List AnyRecord) → IsSeenOf l.fn.seen l.fn.seen.pages held → l.count ≡ length (page_writes (value_in held) l.fn.page l.slot);
  few : l.count ≤ l.slot;
  images : (held : List AnyRecord) → IsSeenOf l.fn.seen l.fn.seen.pages held → AllByRecursion (λ w. IsImage w.after) (page_writes (value_in held) l.fn.page l.slot);
  trans : l.place.trans ≡ l.fn.place.trans;
  end : l.place.end.0 ≤ l.fn.place.end.0 + 66 * l.slot;
}
