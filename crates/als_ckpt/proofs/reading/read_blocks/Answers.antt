use Rattle.std.proofs.Common.{◌+◌, refl, sym, ◌∙◌}
use Rattle.als_ckpt.proofs.reading.read_blocks.Goals as goal

pub loop-k-preserved : goal.loop-k-preserved
loop-k-preserved g c =
    let i = c.loop-k.invariant in
    let r = c.read_block.ensures in
    let at = c.args.first + c.loop-k.k in
    record {
      stands = c.in_ok-read_block.ensures.ok (g.D.BlockDisk.slot c.args.disk.now) c.args.first c.loop-k.k (sym (i.same at)) (c.requires.settled at) refl i.stands;
      same = λ k. r.same k ∙ i.same k;
      count = r.count ∙ i.count;
      attempts = r.attempts ∙ i.attempts;
      failures = c.in_ok-read_block.ensures.done ∙ i.failures;
    }
