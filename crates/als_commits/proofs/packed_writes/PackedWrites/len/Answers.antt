use Rattle.std.proofs.Common.{◌≡◌, length, sym, ◌∙◌, arith}
use Rattle.als_commits.proofs.Packing.{packed-length}
use Rattle.als_commits.proofs.packed_writes.PackedWrites.len.Goals as goal

pub returns : goal.returns
returns c =
    let n : c.len.result ≡ length c.self.inside.heads.items = omega arith in
    rw (← c.self.view_is) (n ∙ sym (packed-length c.self.inside.heads.items c.self.inside.values.items))
