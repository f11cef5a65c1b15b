use Rattle.std.proofs.Common.{rules, ℕ, List, nat_eq, sym, ap, arith}
use Rattle.std.specs.Map.{lookup}
use Rattle.als_frames.specs.Frames.{Framed}
use Rattle.als_frames.proofs.LeaseCounts.{count_none}
use Rattle.als_frames.proofs.Keeping.{opened}
use Rattle.als_frames.proofs.frames.Frames.open.Goals as goal

pub invariant_of-result : goal.invariant_of-result
invariant_of-result g c = record {
  kept = search rules;
  zoned = search rules;
  has_room = omega arith;
  counted = sym (count_none c.args.pages c.new.result.entries (λ page. ap (λ (es : List (ℕ × Framed)). lookup (nat_eq page) es) c.new.ensures.empty));
}

pub returns-clause-keeps : goal.returns-clause-keeps
returns-clause-keeps g c log synced below is_log stored =
    let disk = c.args.disk in
    rw c.new.ensures.empty
    (opened log synced below c.args.pages c.args.most (g.D.BlockDisk.block_count disk) (g.D.BlockDisk.failures disk) (g.D.BlockDisk.attempts disk) (g.D.BlockDisk.slot disk) is_log stored)
