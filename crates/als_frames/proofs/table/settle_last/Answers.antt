use Rattle.std.proofs.Common.{◌≡◌, ◌+◌, ◌-◌, arith, ap, ◌∙◌}
use Rattle.std.specs.Option.{option_map}
use Rattle.als_frames.specs.Outcomes.{synced_frame}
use Rattle.als_frames.proofs.ZoneSteps.{frame_at, synced_one, is_free_there, not_free_there, sync_stays, sync_moves}
use Rattle.als_frames.proofs.table.settle_last.Goals as goal

pub swap-requires-clause-second : goal.swap-requires-clause-second
swap-requires-clause-second c =
    let z = c.args.zones.now in
    let zoned = c.requires.zoned in
    let (page, f, here) = frame_at c.args.frames.now.entries (z.written - 1) (omega (arith, zoned.order, zoned.within, c.requires.some)) in
    let sets = c.note_synced_at.ensures.sets page f here in
    omega (arith, zoned.order, zoned.within, c.requires.some, sets.len)

pub returns-then-is_free_at-clause-frames : goal.returns-then-is_free_at-clause-frames
returns-then-is_free_at-clause-frames c =
    let z = c.args.zones.now in
    let zoned = c.requires.zoned in
    let old = c.args.frames.now.entries in
    let (page, f, here) = frame_at old (z.written - 1) (omega (arith, zoned.order, zoned.within, c.requires.some)) in
    let sets = c.note_synced_at.ensures.sets page f here in
    λ q. ap (option_map synced_frame) (c.swap.ensures.swaps.lookups q) ∙ synced_one old c.note_synced_at.new.frames.entries (z.written - 1) page f here sets q

pub returns-then-is_free_at-clause-len : goal.returns-then-is_free_at-clause-len
returns-then-is_free_at-clause-len c =
    let z = c.args.zones.now in
    let zoned = c.requires.zoned in
    let (page, f, here) = frame_at c.args.frames.now.entries (z.written - 1) (omega (arith, zoned.order, zoned.within, c.requires.some)) in
    let sets = c.note_synced_at.ensures.sets page f here in
    c.swap.ensures.swaps.len ∙ sets.len

pub returns-then-is_free_at-clause-zoned : goal.returns-then-is_free_at-clause-zoned
returns-then-is_free_at-clause-zoned c =
    let z = c.args.zones.now in
    let zoned = c.requires.zoned in
    let old = c.args.frames.now.entries in
    let mid = c.note_synced_at.new.frames.entries in
    let i = z.written - 1 in
    let last : i + 1 ≡ z.written = omega (arith, c.requires.some) in
    let first : z.dirty - 1 + 1 ≡ z.dirty = omega (arith, c.requires.some, zoned.order) in
    let (page, f, here) = frame_at old i (omega (arith, zoned.order, zoned.within, c.requires.some)) in
    let sets = c.note_synced_at.ensures.sets page f here in
    sync_moves z old mid i page f zoned here c.swap.new.frames.entries (z.dirty - 1) last first sets c.swap.ensures.swaps
    (is_free_there mid i page (synced_frame f) sets.here (c.is_free_at.ensures.0 c.if-is_free_at.true))

pub returns-else-is_free_at-clause-frames : goal.returns-else-is_free_at-clause-frames
returns-else-is_free_at-clause-frames c =
    let z = c.args.zones.now in
    let zoned = c.requires.zoned in
    let old = c.args.frames.now.entries in
    let (page, f, here) = frame_at old (z.written - 1) (omega (arith, zoned.order, zoned.within, c.requires.some)) in
    synced_one old c.note_synced_at.new.frames.entries (z.written - 1) page f here (c.note_synced_at.ensures.sets page f here)

pub returns-else-is_free_at-clause-len : goal.returns-else-is_free_at-clause-len
returns-else-is_free_at-clause-len c =
    let z = c.args.zones.now in
    let zoned = c.requires.zoned in
    let (page, f, here) = frame_at c.args.frames.now.entries (z.written - 1) (omega (arith, zoned.order, zoned.within, c.requires.some)) in
    let sets = c.note_synced_at.ensures.sets page f here in
    sets.len

pub returns-else-is_free_at-clause-zoned : goal.returns-else-is_free_at-clause-zoned
returns-else-is_free_at-clause-zoned c =
    let z = c.args.zones.now in
    let zoned = c.requires.zoned in
    let old = c.args.frames.now.entries in
    let mid = c.note_synced_at.new.frames.entries in
    let i = z.written - 1 in
    let last : i + 1 ≡ z.written = omega (arith, c.requires.some) in
    let (page, f, here) = frame_at old i (omega (arith, zoned.order, zoned.within, c.requires.some)) in
    let sets = c.note_synced_at.ensures.sets page f here in
    sync_stays z old mid i page f zoned here last sets
    (not_free_there mid i page (synced_frame f) c.is_free_at.result sets.here sets.puts.frame c.is_free_at.ensures.1 c.if-is_free_at.false)
