use Rattle.std.proofs.Common.{◌∙◌, arith}
use Rattle.std.proofs.lemmas.Option.{slice_get_within}
use Rattle.als_frames.specs.Leases.{lent_frame}
use Rattle.als_frames.proofs.ZoneLaws.{puts_swapped}
use Rattle.als_frames.proofs.ZoneSteps.{puts_for, lend_stays, lend_moves}
use Rattle.als_frames.proofs.table.lend.Goals as goal

pub swap-requires-clause-first : goal.swap-requires-clause-first
swap-requires-clause-first c =
    let (f, at) = c.in-Some.ensures.some in
    let sets = c.lend_at.ensures.sets c.args.page f at.here in
    omega (arith, slice_get_within c.args.frames.now.entries c.in-Some.i (c.args.page, f) at.here, sets.len)

pub swap-requires-clause-second : goal.swap-requires-clause-second
swap-requires-clause-second c =
    let (f, at) = c.in-Some.ensures.some in
    let sets = c.lend_at.ensures.sets c.args.page f at.here in
    omega (arith, c.if-first-i.true, slice_get_within c.args.frames.now.entries c.in-Some.i (c.args.page, f) at.here, sets.len)

pub returns-then-first-i-clause-puts : goal.returns-then-first-i-clause-puts
returns-then-first-i-clause-puts c =
    let (f, at) = c.in-Some.ensures.some in
    let old = c.args.frames.now.entries in
    let new = c.swap.new.frames.entries in
    let sets = c.lend_at.ensures.sets c.args.page f at.here in
    puts_for old new c.args.page f (lent_frame c.args.lent) at.found
    (puts_swapped old c.lend_at.new.frames.entries new c.in-Some.i c.args.zones.now.dirty c.args.page (lent_frame c.args.lent f) sets c.swap.ensures.swaps)

pub returns-then-first-i-clause-len : goal.returns-then-first-i-clause-len
returns-then-first-i-clause-len c =
    let (f, at) = c.in-Some.ensures.some in
    let sets = c.lend_at.ensures.sets c.args.page f at.here in
    c.swap.ensures.swaps.len ∙ sets.len

pub returns-then-first-i-clause-zoned : goal.returns-then-first-i-clause-zoned
returns-then-first-i-clause-zoned c =
    let (f, at) = c.in-Some.ensures.some in
    let sets = c.lend_at.ensures.sets c.args.page f at.here in
    lend_moves c.args.zones.now c.args.frames.now.entries c.lend_at.new.frames.entries c.in-Some.i c.args.page f c.requires.zoned at.here
    c.swap.new.frames.entries c.args.lent sets c.swap.ensures.swaps c.if-first-i.true

pub returns-else-first-i-clause-puts : goal.returns-else-first-i-clause-puts
returns-else-first-i-clause-puts c =
    let (f, at) = c.in-Some.ensures.some in
    let sets = c.lend_at.ensures.sets c.args.page f at.here in
    puts_for c.args.frames.now.entries c.lend_at.new.frames.entries c.args.page f (lent_frame c.args.lent) at.found sets.puts

pub returns-else-first-i-clause-len : goal.returns-else-first-i-clause-len
returns-else-first-i-clause-len c =
    let (f, at) = c.in-Some.ensures.some in
    let sets = c.lend_at.ensures.sets c.args.page f at.here in
    sets.len

pub returns-else-first-i-clause-zoned : goal.returns-else-first-i-clause-zoned
returns-else-first-i-clause-zoned c =
    let (f, at) = c.in-Some.ensures.some in
    let sets = c.lend_at.ensures.sets c.args.page f at.here in
    lend_stays c.args.zones.now c.args.frames.now.entries c.lend_at.new.frames.entries c.in-Some.i c.args.page f c.requires.zoned at.here
    c.args.lent sets c.if-first-i.false
