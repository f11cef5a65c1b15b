use Rattle.std.proofs.Common.{◌≡◌, sym, subst, ap, arith}
use Rattle.als_page.specs.Page.{state_of}
use Rattle.als_frames.specs.Frames.{Holding}
use Rattle.als_frames.specs.Leases.{CanTakeBack, returned_frame, lent_flag}
use Rattle.als_frames.proofs.ChangeLaws.{kept-puts}
use Rattle.als_frames.proofs.LeaseCounts.{count_puts}
use Rattle.als_frames.proofs.frames.Frames.take_back_in.Goals as goal

pub overflow_sub-self : goal.overflow_sub-self
overflow_sub-self g c =
    let s = c.self.inside in
    let can = subst (λ (v : Holding). CanTakeBack v.paged c.args.page (state_of c.args.found.now)) (sym c.self.view_is) c.requires.can in
    let is_lent = can.is_lent in
    let numbered = c.self.invariant.kept.numbered c.args.page is_lent.f is_lent.resident in
    let one : lent_flag is_lent.f.lent ≡ 1 = ap lent_flag is_lent.is in
    let count = count_puts s.pages c.args.page s.frames.entries c.take_back.new.frames.entries is_lent.f (returned_frame (state_of c.args.found.now) is_lent.f) numbered.1 is_lent.resident (c.take_back.ensures.puts is_lent.f is_lent.resident) in
    omega (arith, c.self.invariant.counted, count, one)

pub invariant_of-self : goal.invariant_of-self
invariant_of-self g c =
    let s = c.self.inside in
    let can = subst (λ (v : Holding). CanTakeBack v.paged c.args.page (state_of c.args.found.now)) (sym c.self.view_is) c.requires.can in
    let is_lent = can.is_lent in
    let numbered = c.self.invariant.kept.numbered c.args.page is_lent.f is_lent.resident in
    let puts = c.take_back.ensures.puts is_lent.f is_lent.resident in
    let one : lent_flag is_lent.f.lent ≡ 1 = ap lent_flag is_lent.is in
    let count = count_puts s.pages c.args.page s.frames.entries c.take_back.new.frames.entries is_lent.f (returned_frame (state_of c.args.found.now) is_lent.f) numbered.1 is_lent.resident puts in
    record {
      kept = kept-puts s.pages s.most (g.D.BlockDisk.block_count s.disk) s.frames.entries c.take_back.new.frames.entries c.args.page (returned_frame (state_of c.args.found.now) is_lent.f) c.self.invariant.kept puts c.take_back.ensures.len numbered.0 numbered.1;
      zoned = c.take_back.ensures.zoned;
      has_room = omega (arith, c.self.invariant.has_room, c.take_back.ensures.room);
      counted = omega (arith, c.self.invariant.counted, count, one);
    }
