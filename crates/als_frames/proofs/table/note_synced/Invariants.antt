use Rattle.std.proofs.Common.{◌≡◌, ◌≤◌, ℕ, nat_eq}
use Rattle.std.specs.Option.{option_map}
use Rattle.indexmap.specs.IndexMap.{index_map_len, spare, get}
use Rattle.als_frames.specs.Outcomes.{synced_frame}
use Rattle.als_frames.specs.Zones.{AreZoned}
use Rattle.als_frames.proofs.table.note_synced.Given as goal

abbrev pub invariant-loop-zones : goal.invariant-loop-zones
invariant-loop-zones l = record {
  frames : (page : ℕ) → option_map synced_frame (get nat_eq l.frames page) ≡ option_map synced_frame (get nat_eq l.initial.frames page);
  len : index_map_len l.frames ≡ index_map_len l.initial.frames;
  room : spare l.initial.frames ≤ spare l.frames;
  zoned : AreZoned l.zones l.frames.entries;
}

abbrev pub decreases-loop-zones : goal.decreases-loop-zones
decreases-loop-zones l = l.zones.written
