use Rattle.std.proofs.Common.{◌≡◌, ◌+◌, ◌-◌, length, ap, ◌∙◌, arith}
use Rattle.std.proofs.lemmas.List.{length-drop}
use Rattle.als_log.proofs.Pieces.{source-same, read_more, part_is}
use Rattle.als_log.proofs.reading.read_text.Goals as goal

pub loop-out-preserved : goal.loop-out-preserved
loop-out-preserved g c =
    let i = c.loop-out.invariant in
    let from : c.args.at + c.len-in-loop-out.result ≡ c.args.at + length c.loop-out.out = ap (λ n. c.args.at + n) c.len-in-loop-out.ensures in
    let e = c.in_ok-push_more.ensures in
    record {
      most = e.more.1;
      read = λ text source near.
          read_more text c.loop-out.out c.push_more.new.out c.args.at (c.args.at + c.len-in-loop-out.result) (length c.loop-out.out) (length c.push_more.new.out) from
          e.kept (e.part text (source-same (g.D.BlockDisk.slot c.args.disk.now) (g.D.BlockDisk.slot c.loop-out.disk) c.args.source.bytes.now text c.args.source.base i.same source) (i.near text source near)) (i.read text source near);
      near = λ text source near. e.near text (source-same (g.D.BlockDisk.slot c.args.disk.now) (g.D.BlockDisk.slot c.loop-out.disk) c.args.source.bytes.now text c.args.source.base i.same source) (i.near text source near);
      same = λ k. e.same k ∙ i.same k;
      count = e.count ∙ i.count;
      failures = e.failures ∙ i.failures;
      attempts = e.attempts ∙ i.attempts;
    }

pub returns-clause-ok : goal.returns-clause-ok
returns-clause-ok g c text source near =
    let i = c.loop-out.invariant in
    let all : length c.loop-out.out ≡ c.args.count = omega (arith, i.most, c.loop-out-test.false, c.len.ensures) in
    let bytes : length c.args.source.bytes.now ≡ length text - c.args.source.base = ap length source.held ∙ length-drop c.args.source.base text in
    part_is text c.loop-out.out c.args.at c.args.count all (omega (arith, c.requires.within, bytes, source.reach)) (λ k lt. i.read text source near k (omega (arith, lt, all)))
