use Rattle.std.proofs.Common.{◌≡◌, ◌*◌, take, length}
use Rattle.std.specs.List.{flat_map, AllByRecursion}
use Rattle.als_record.specs.Spelling.{IsImage}
use Rattle.als_page.specs.Block.{slot_bytes}
use Rattle.als_page.proofs.block.read_slots.Given as goal

-- the images so far have the bytes so far as their slots
abbrev pub invariant-loop-i : goal.invariant-loop-i
invariant-loop-i l = record {
  len : length l.images ≡ 15;
  found : take (32 * l.i) l.bytes ≡ flat_map slot_bytes (take l.i l.images);
  fits : AllByRecursion IsImage (take l.i l.images);
}
