use Rattle.std.proofs.Common.{◌≡◌, sym, subst, ap, arith}
use Rattle.als_frames.specs.Frames.{Holding}
use Rattle.als_frames.specs.Leases.{CanLend, lent_frame, lent_flag}
use Rattle.als_frames.proofs.ChangeLaws.{kept-puts}
use Rattle.als_frames.proofs.LeaseCounts.{count_most, count_puts}
use Rattle.als_frames.proofs.frames.Frames.lend_in.Goals as goal

pub overflow_add-self : goal.overflow_add-self
overflow_add-self g c = omega (arith, c.self.invariant.counted, count_most c.self.inside.pages c.self.inside.frames.entries, c.self.ranges)

pub invariant_of-self : goal.invariant_of-self
invariant_of-self g c =
    let s = c.self.inside in
    let can = subst (λ (v : Holding). CanLend v.paged c.args.page) (sym c.self.view_is) c.requires in
    let numbered = c.self.invariant.kept.numbered c.args.page can.f can.resident in
    let puts = c.lend.ensures.puts can.f can.resident in
    let none : lent_flag can.f.lent ≡ 0 = ap lent_flag can.free_of_lease in
    let count = count_puts s.pages c.args.page s.frames.entries c.lend.new.frames.entries can.f (lent_frame c.args.lent can.f) numbered.1 can.resident puts in
    record {
      kept = kept-puts s.pages s.most (g.D.BlockDisk.block_count s.disk) s.frames.entries c.lend.new.frames.entries c.args.page (lent_frame c.args.lent can.f) c.self.invariant.kept puts c.lend.ensures.len numbered.0 numbered.1;
      zoned = c.lend.ensures.zoned;
      has_room = omega (arith, c.self.invariant.has_room, c.lend.ensures.room);
      counted = omega (arith, c.self.invariant.counted, count, none);
    }
