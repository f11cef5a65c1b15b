use Rattle.std.proofs.Common.{arith, ◌∙◌}
use Rattle.std.proofs.lemmas.Option.{slice_get_within}
use Rattle.als_frames.specs.Table.{written_frame}
use Rattle.als_frames.proofs.ZoneLaws.{puts_swapped}
use Rattle.als_frames.proofs.ZoneSteps.{puts_for, write_stays, write_moves}
use Rattle.als_frames.proofs.table.note_written.Goals as goal
use Rattle.als_frames.proofs.table.note_written.Goals.{else-first-i-via-then-first-i+else-i-zones, else-first-i-via-else-first-i}

pub swap-requires-clause-first : goal.swap-requires-clause-first
swap-requires-clause-first c =
    let (f, at) = c.in-Some.ensures.some in
    let sets = c.note_written_at.ensures.sets c.args.page f at.here in
    omega (arith, slice_get_within c.args.frames.now.entries c.in-Some.i (c.args.page, f) at.here, sets.len)

pub swap-requires-clause-second : goal.swap-requires-clause-second
swap-requires-clause-second c =
    let (f, at) = c.in-Some.ensures.some in
    let sets = c.note_written_at.ensures.sets c.args.page f at.here in
    omega (arith, c.if-first-i.true, slice_get_within c.args.frames.now.entries c.in-Some.i (c.args.page, f) at.here, sets.len)

pub returns-then-i-zones-clause-puts : goal.returns-then-i-zones-clause-puts
returns-then-i-zones-clause-puts c =
    let (f, at) = c.in-Some.ensures.some in
    let old = c.args.frames.now.entries in
    let new = c.swap.new.frames.entries in
    let sets = c.note_written_at.ensures.sets c.args.page f at.here in
    puts_for old new c.args.page f written_frame at.found
    (puts_swapped old c.note_written_at.new.frames.entries new c.in-Some.i c.args.zones.now.written c.args.page (written_frame f) sets c.swap.ensures.swaps)

pub returns-then-i-zones-clause-len : goal.returns-then-i-zones-clause-len
returns-then-i-zones-clause-len c =
    let (f, at) = c.in-Some.ensures.some in
    let sets = c.note_written_at.ensures.sets c.args.page f at.here in
    c.swap.ensures.swaps.len ∙ sets.len

pub returns-then-i-zones-clause-zoned : goal.returns-then-i-zones-clause-zoned
returns-then-i-zones-clause-zoned c =
    let (f, at) = c.in-Some.ensures.some in
    let sets = c.note_written_at.ensures.sets c.args.page f at.here in
    write_moves c.args.zones.now c.args.frames.now.entries c.note_written_at.new.frames.entries c.in-Some.i c.args.page f c.requires.zoned at.here
    c.swap.new.frames.entries sets c.swap.ensures.swaps c.if-first-i.true c.if-i-zones.true

pub returns-else-first-i-clause-puts : goal.returns-else-first-i-clause-puts
returns-else-first-i-clause-puts c =
    let (f, at) = c.in-Some.ensures.some in
    let sets = c.note_written_at.ensures.sets c.args.page f at.here in
    puts_for c.args.frames.now.entries c.note_written_at.new.frames.entries c.args.page f written_frame at.found sets.puts

pub returns-else-first-i-clause-len : goal.returns-else-first-i-clause-len
returns-else-first-i-clause-len c =
    let (f, at) = c.in-Some.ensures.some in
    let sets = c.note_written_at.ensures.sets c.args.page f at.here in
    sets.len

pub returns-else-first-i-clause-zoned : goal.returns-else-first-i-clause-zoned
returns-else-first-i-clause-zoned c =
    let (f, at) = c.in-Some.ensures.some in
    let sets = c.note_written_at.ensures.sets c.args.page f at.here in
    let stays = write_stays c.args.zones.now c.args.frames.now.entries c.note_written_at.new.frames.entries c.in-Some.i c.args.page f c.requires.zoned at.here sets in
    elim c.else-first-i.branch [
      | else-first-i-via-then-first-i+else-i-zones w ↦ stays (λ le. w.if-i-zones.false)
      | else-first-i-via-else-first-i w ↦ stays (λ le. absurd (omega (arith, le, w.if-first-i.false)))
    ]
