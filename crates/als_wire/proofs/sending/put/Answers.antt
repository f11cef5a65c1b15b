use Rattle.std.proofs.Common.{rules}
use Rattle.als_wire.proofs.Putting.{puts_more}
use Rattle.als_wire.proofs.sending.put.Goals as goal

pub loop-preserved : goal.loop-preserved
loop-preserved g c =
    let (done, split, sent) = c.loop.invariant in
    puts_more c.args.bytes.now done c.loop.rest.now c.split_at.result.1.now c.in_ok-n.n (g.W.Write.contents c.args.writer.now) (g.W.Write.contents c.loop.writer) (g.W.Write.contents c.put_some.new.writer) (search rules) (split, sent) c.in_ok-n.ensures.some.1
