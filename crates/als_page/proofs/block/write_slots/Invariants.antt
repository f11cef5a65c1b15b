use Rattle.std.proofs.Common.{◌≡◌, ◌*◌, take}
use Rattle.std.specs.List.{flat_map, AllByRecursion}
use Rattle.als_record.specs.Spelling.{IsImage}
use Rattle.als_page.specs.Block.{slot_bytes}
use Rattle.als_page.proofs.block.write_slots.Given as goal

-- the slots so far stand in front
abbrev pub invariant-loop-i : goal.invariant-loop-i
invariant-loop-i l = record {
  written : take (32 * l.i) l.into ≡ flat_map slot_bytes (take l.i l.images);
  fits : AllByRecursion IsImage (take l.i l.images);
}
