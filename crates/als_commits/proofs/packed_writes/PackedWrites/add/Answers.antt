use Rattle.als_record.specs.Shown.{shown_image}
use Rattle.als_commits.proofs.Packing.{added-sizes, added-writes}
use Rattle.als_commits.proofs.packed_writes.PackedWrites.add.Goals as goal

pub invariant_of-self-2 : goal.invariant_of-self-2
invariant_of-self-2 c =
    let ok = c.in_ok-append.ensures.ok in
    added-sizes c.append.new.heads.items c.self.inside.heads.items c.append.new.values.items c.self.inside.values.items c.bytes_of.result.now c.of-head.result (shown_image c.args.after.now) ok.0 ok.1 c.of-head.ensures.1 c.bytes_of.ensures c.self.invariant

pub returns : goal.returns
returns c =
    let ok = c.in_ok-append.ensures.ok in
    rw (← c.self.view_is)
    (added-writes c.append.new.heads.items c.self.inside.heads.items c.append.new.values.items c.self.inside.values.items c.bytes_of.result.now c.of-head.result c.args.key (shown_image c.args.after.now) ok.0 ok.1 c.of-head.ensures.0 c.of-head.ensures.1 c.bytes_of.ensures c.self.invariant)
