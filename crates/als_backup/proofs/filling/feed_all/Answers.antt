use Rattle.std.proofs.Common.{rules, ◌≡◌, ◌≤◌, ◌+◌, ◌++◌, arith, length, take, drop, length-append}
use Rattle.std.proofs.KnownBytes.{Consumes-trans}
use Rattle.std.proofs.lemmas.List.{length-drop, length-take}
use Rattle.als_backup.proofs.Filled.{keeps_more}
use Rattle.als_backup.proofs.filling.feed_all.Goals as goal

pub loop-at-preserved : goal.loop-at-preserved
loop-at-preserved g c =
    let f = c.loop-at.invariant.fed in
    let len = c.min-len.result in
    let at = c.loop-at.at in
    let piece = c.feed_next.new.piece in
    let one = c.in_ok-feed_next.ensures.keeps in
    let room : length c.loop-at.room ≡ 65536 = c.loop-at.invariant.room in
    let few : len ≤ 65536 = search (rules, arith) in
    let inside : at + len ≤ c.args.end = search (rules, arith) in
    let part : length (take len c.loop-at.room) ≡ len = omega (arith, few, room, length-take len c.loop-at.room) in
    let long : length piece ≡ len = search (rules, arith) in
    record {
      fed = (
        f.0 ++ piece,
        omega (arith, f.1, length-append f.0 piece, long),
        Consumes-trans (g.R.Read.remaining c.args.reader.now) (g.R.Read.remaining c.loop-at.reader) (g.R.Read.remaining c.feed_next.new.reader) f.0 piece f.2 one.0,
        λ a. keeps_more c.args.epoch f.0 piece at (g.E.Events.machine c.args.events.now) (g.E.Events.machine c.loop-at.events) (g.E.Events.machine c.feed_next.new.events) f.1 (f.3 a) (one.1 a),
      );
      within = inside;
      room = omega (arith, long, room, few, length-append piece (drop len c.loop-at.room), length-drop len c.loop-at.room);
    }
