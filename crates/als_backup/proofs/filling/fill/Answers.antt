use Rattle.std.proofs.Common.{rules, ◌++◌, ◌≡◌, length, arith}
use Rattle.std.proofs.KnownBytes.{Consumes-trans}
use Rattle.als_backup.proofs.Filled.{fills_text}
use Rattle.als_backup.proofs.filling.fill.Goals as goal

pub returns-clause-fills : goal.returns-clause-fills
returns-clause-fills g c =
    let front = c.read_exact.new.buf in
    let f = c.in_ok-feed_all.ensures.keeps in
    let head : length front ≡ 16 = search (rules, arith) in (
      front ++ f.0,
      Consumes-trans (g.R.Read.remaining c.args.reader.now) (g.R.Read.remaining c.read_exact.new.self) (g.R.Read.remaining c.feed_all.new.reader) front f.0 c.in_ok-read_exact.ensures.bytes f.2,
      λ a. fills_text c.args.history front f.0 c.epoch-epoch.result c.args.end (g.E.Events.machine c.args.events.now) (g.E.Events.machine c.frame.new.events) (g.E.Events.machine c.feed_all.new.events) (g.E.Events.machine c.settle.new.events) head f.1 c.epoch-epoch.ensures.facts
          (c.in_ok-frame.ensures.front a) (f.3 a) (c.in_ok-settle.ensures.same a) (c.in_ok-check_end.ensures a),
    )
