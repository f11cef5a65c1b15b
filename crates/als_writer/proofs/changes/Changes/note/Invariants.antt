use Rattle.std.proofs.Common.{◌≡◌, ℕ, ◌*◌, ◌<◌, ◌≤◌, cond, length, take, get_or}
use Rattle.std.specs.List.{list_any, AllByRecursion}
use Rattle.als_record.specs.declared.key.Key.{Key}
use Rattle.als_record.specs.Spelling.{IsKey}
use Rattle.als_record.specs.Images.{same_key}
use Rattle.als_writer.specs.Changes.{place_of}
use Rattle.als_writer.proofs.changes.Changes.note.Given as goal

abbrev pub invariant-loop-set : goal.invariant-loop-set
invariant-loop-set l = record {
  count : length l.self-inside.bounds.items ≡ length l.fn.self;
  each : (pages : ℕ) → length l.fn.self ≡ pages * 15 → AllByRecursion (λ w. IsKey pages w.key) l.sets → (k : Key) (d : ℕ) → k.page < pages → k.slot ≤ 14 → get_or l.self-inside.bounds.items (place_of k) d ≡ cond (list_any (λ w. same_key w.key k) (take l.set-index l.sets)) l.lsn.0 (get_or l.fn.self (place_of k) d);
}
