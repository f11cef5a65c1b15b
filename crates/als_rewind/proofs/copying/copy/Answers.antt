use Rattle.std.proofs.Common.{◌≡◌, ℕ, ◌+◌, length, take, subst, arith}
use Rattle.std.proofs.lemmas.List.{length-take}
use Rattle.als_rewind.proofs.Copied.{Copied, copied_none, copied_more, copied_last}
use Rattle.als_rewind.proofs.copying.copy.Goals as goal

pub loop-init : goal.loop-init
loop-init g c = record { so_far = copied_none (g.R.Read.remaining c.args.reader.now) (g.W.Write.contents c.args.writer.now) }

pub returns-then-n-eq0-clause-copies : goal.returns-then-n-eq0-clause-copies
returns-then-n-eq0-clause-copies g c =
    copied_last (g.R.Read.remaining c.args.reader.now) (g.R.Read.remaining c.loop.reader) (g.R.Read.remaining c.read_piece.new.reader) (g.W.Write.contents c.args.writer.now) (g.W.Write.contents c.loop.writer) c.loop.count c.in_ok-n.n _
    c.loop.invariant.so_far c.if-n-eq0.true c.in_ok-n.ensures.ok.1 (c.in_ok-n.ensures.ok.2 c.if-n-eq0.true)

pub loop-preserved : goal.loop-preserved
loop-preserved g c =
    let n : ℕ = c.in_ok-n.n in
    let ok = c.in_ok-n.ensures.ok in
    let len : length (take n c.read_piece.new.piece) ≡ n = omega (arith, length-take n c.read_piece.new.piece, ok.0) in
    let sum : c.loop.count + n ≡ c.in-Some.more = omega (arith, c.in-Some.ensures) in
    record {
      so_far = subst (Copied (g.R.Read.remaining c.args.reader.now) (g.R.Read.remaining c.read_piece.new.reader) (g.W.Write.contents c.args.writer.now) (g.W.Write.contents c.put.new.writer)) sum
          (copied_more (g.R.Read.remaining c.args.reader.now) (g.R.Read.remaining c.loop.reader) (g.R.Read.remaining c.read_piece.new.reader) (g.W.Write.contents c.args.writer.now) (g.W.Write.contents c.loop.writer)
          (g.W.Write.contents c.put.new.writer) c.loop.count n (take n c.read_piece.new.piece) c.loop.invariant.so_far len ok.1 c.in_ok-put.ensures.ok);
    }
