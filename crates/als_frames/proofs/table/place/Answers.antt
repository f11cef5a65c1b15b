use Rattle.std.proofs.Common.{refl, arith, ◌<◌, ◌≤◌, length}
use Rattle.als_frames.proofs.TableLists.{free_behind, none_behind}
use Rattle.als_frames.proofs.table.place.Goals as goal

pub returns-then-len-zones-clause-err : goal.returns-then-len-zones-clause-err
returns-then-len-zones-clause-err c =
    let es = c.args.frames.now.entries in
    let all : length es ≤ c.args.zones.dirty = omega (arith, c.if-len-zones.true, c.len-len.ensures.len) in
    (refl, omega (arith, c.if-len-most.false, c.len-len.ensures.len), none_behind es c.args.zones c.requires all)

pub returns-then-hand-len-clause-ok : goal.returns-then-hand-len-clause-ok
returns-then-hand-len-clause-ok c =
    let within : c.args.hand < length c.args.frames.now.entries = omega (arith, c.if-hand-len.true, c.len-len.ensures.len) in (
      omega (arith, c.if-len-most.false, c.len-len.ensures.len),
      within,
      free_behind c.args.frames.now c.args.zones c.args.hand c.len-len.ensures.unique c.requires c.if-zones-hand.true within,
    )

pub returns-clause-ok : goal.returns-clause-ok
returns-clause-ok c =
    let within : c.args.zones.dirty < length c.args.frames.now.entries = omega (arith, c.if-len-zones.false, c.len-len.ensures.len) in (
      omega (arith, c.if-len-most.false, c.len-len.ensures.len),
      within,
      free_behind c.args.frames.now c.args.zones c.args.zones.dirty c.len-len.ensures.unique c.requires (omega arith) within,
    )
