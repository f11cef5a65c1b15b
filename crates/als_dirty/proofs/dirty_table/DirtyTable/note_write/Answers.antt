use Rattle.std.proofs.Common.{◌<◌, length, arith}
use Rattle.std.specs.Vec.{vec_capacity}
use Rattle.als_dirty.proofs.ListSteps.{room-more, written-list}
use Rattle.als_dirty.proofs.dirty_table.DirtyTable.note_write.Goals as goal

pub list-requires-clause-room : goal.list-requires-clause-room
list-requires-clause-room c off =
    let s = c.self.inside in
    let inside : c.args.page < length s.pages.items = rw c.self.view_is c.requires in
    let lt : c.args.page < length s.is_listed.items = omega (arith, inside, c.self.invariant.flagged) in
    let room : length s.listed.items < vec_capacity s.listed = room-more s.pages.items s.is_listed.items s.listed.items (vec_capacity s.listed) c.args.page lt off c.self.invariant in
    omega (arith, room)

pub invariant_of-self : goal.invariant_of-self
invariant_of-self c =
    let s = c.self.inside in
    let inside : c.args.page < length s.pages.items = rw c.self.view_is c.requires in
    rw c.list.ensures.capacity
    (written-list s.pages.items s.is_listed.items c.list.new.is_listed.items s.listed.items c.list.new.listed.items (vec_capacity s.listed) c.args.page
    (record { synced = c.index_mut.result.now.synced; written = c.args.next }) inside c.list.ensures.lists c.self.invariant)
