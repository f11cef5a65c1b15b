use Rattle.std.proofs.Common.{◌<◌, length, arith}
use Rattle.als_lookback.proofs.FrontLaws.{keeps_consumes}
use Rattle.als_backup.proofs.reading.read_piece.Goals as goal

pub returns-in-Ok-clause-ok : goal.returns-in-Ok-clause-ok
returns-in-Ok-clause-ok g c =
    let some : 0 < length c.read.new.buf = omega (arith, c.read.auto.buf, c.loop.invariant.size, c.requires) in (
      c.in-Ok.ensures.bound.0,
      keeps_consumes (g.R.Read.remaining c.args.reader.now) (g.R.Read.remaining c.loop.reader) (g.R.Read.remaining c.read.new.self) _ c.loop.invariant.kept c.in-Ok.ensures.bytes.0,
      λ none. c.in-Ok.ensures.bytes.1 none some,
    )
