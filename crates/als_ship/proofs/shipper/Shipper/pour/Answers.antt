use Rattle.std.proofs.Common.{rules, arith, ap, subst, sym, refl, ◌∙◌, ◌≡◌, ◌≤◌, ◌<◌, ◌+◌, [], Some, length, take, drop, length-append}
use Rattle.std.proofs.lemmas.List.{length-drop, length-take}
use Rattle.std.proofs.lemmas.Result.{err_from_is_err_and}
use Rattle.std.specs.Io.KnownBytes.{Appends}
use Rattle.als_wire.specs.Frames.{data_bytes}
use Rattle.als_wire.specs.Sending.{Puts}
use Rattle.als_ship.specs.Wire.{bytes_at, Pours, PoursPart}
use Rattle.als_ship.proofs.Pieces.{Answered, answered_none, answered_more, pours_none, pours_part, pours_all, puts_all}
use Rattle.als_ship.proofs.Beginning.{way_answer}
use Rattle.als_ship.proofs.shipper.Shipper.pour.Goals as goal

pub loop-at-init : goal.loop-at-init
loop-at-init g c = record {
  text = refl;
  seals = refl;
  epoch = search (rules);
  room = search (rules);
  low = search (rules, arith);
  high = search (rules, arith);
  begun = refl;
  sent = answered_none (g.S.Source.text c.args.source.now) c.epoch-epoch.result c.args.from (g.W.Write.contents c.args.writer.now) (g.R.Read.remaining c.args.reader.now) c.args.self.now.acknowledged c.requires.none;
}

pub loop-at-preserved : goal.loop-at-preserved
loop-at-preserved g c =
    let len = c.min-len.result in
    let at = c.loop-at.at in
    let room : length c.loop-at.room ≡ 65536 = c.loop-at.invariant.room in
    let some : 0 < len = search (rules, arith) in
    let few : len ≤ 65536 = search (rules, arith) in
    let inside : at + len ≤ c.end-end.result = search (rules, arith) in
    let text = g.S.Source.text c.args.source.now in
    let epoch = c.epoch-epoch.result in
    let part : length (take len c.loop-at.room) ≡ len = omega (arith, few, room, length-take len c.loop-at.room) in
    let long : length c.send.new.room ≡ len = search (rules, arith) in
    record {
      text = search (rules, c.loop-at.invariant.text);
      seals = search (rules, c.loop-at.invariant.seals);
      epoch = c.loop-at.invariant.epoch;
      room = omega (arith, long, room, few, length-append c.send.new.room (drop len c.loop-at.room), length-drop len c.loop-at.room);
      low = omega (arith, c.loop-at.invariant.low);
      high = inside;
      begun = c.loop-at.invariant.begun;
      sent = answered_more text epoch c.args.from at len (g.W.Write.contents c.args.writer.now) (g.W.Write.contents c.loop-at.writer) (g.W.Write.contents c.send.new.writer) (g.R.Read.remaining c.args.reader.now) (g.R.Read.remaining c.loop-at.reader) (g.R.Read.remaining c.hear.new.reader) c.loop-at.self.acknowledged c.in_ok-lsn.lsn c.loop-at.invariant.sent some few (omega (arith, inside, c.end-end.ensures))
          (subst (λ xs. Appends (g.W.Write.contents c.loop-at.writer) (g.W.Write.contents c.send.new.writer) (data_bytes epoch at xs)) (ap (λ k. bytes_at (g.S.Source.text c.loop-at.source) at k) part ∙ ap (λ t. bytes_at t at len) c.loop-at.invariant.text) c.in_ok-send.ensures.sent) c.in_ok-lsn.ensures.fits c.in_ok-lsn.ensures.found;
    }

pub returns-in_err-resize-clause-part : goal.returns-in_err-resize-clause-part
returns-in_err-resize-clause-part g c =
    let found = pours_none (g.S.Source.text c.args.source.now) (length (g.S.Source.seals c.args.source.now)) c.args.from (g.W.Write.contents c.args.writer.now) (g.R.Read.remaining c.args.reader.now) c.args.self.now.acknowledged c.requires.none in
    let p = err_from_is_err_and c.from_residual.result c.from_residual.ensures.1 in rw (p.1) found

pub returns-in_err-send-clause-part : goal.returns-in_err-send-clause-part
returns-in_err-send-clause-part g c =
    let text = g.S.Source.text c.args.source.now in
    let from = c.args.from in
    let old = g.W.Write.contents c.args.writer.now in
    let mid = g.W.Write.contents c.loop-at.writer in
    let asked = g.R.Read.remaining c.args.reader.now in
    let behind = g.R.Read.remaining c.loop-at.reader in
    let kept = c.loop-at.self.acknowledged in
    let epoch = c.epoch-epoch.result in
    let at = c.loop-at.at in
    let len = c.min-len.result in
    let few : len ≤ 65536 = search (rules, arith) in
    let part : length (take len c.loop-at.room) ≡ len = omega (arith, few, c.loop-at.invariant.room, length-take len c.loop-at.room) in
    let new = g.W.Write.contents c.send.new.writer in
    let same = ap (λ k. bytes_at (g.S.Source.text c.loop-at.source) at k) part ∙ ap (λ t. bytes_at t at len) c.loop-at.invariant.text in
    let puts : Puts (data_bytes epoch at (bytes_at text at len)) mid new = subst (λ xs. Puts (data_bytes epoch at xs) mid new) same c.send.ensures.part in
    let found = subst (λ e. PoursPart text e from asked old new kept) c.loop-at.invariant.epoch (pours_part text epoch from at len old mid new asked behind kept c.loop-at.invariant.sent puts) in
    let p = err_from_is_err_and c.from_residual-in_err-send.result c.from_residual-in_err-send.ensures.1 in rw (p.1) found

pub returns-in_err-lsn-clause-part : goal.returns-in_err-lsn-clause-part
returns-in_err-lsn-clause-part g c =
    let text = g.S.Source.text c.args.source.now in
    let from = c.args.from in
    let old = g.W.Write.contents c.args.writer.now in
    let mid = g.W.Write.contents c.loop-at.writer in
    let asked = g.R.Read.remaining c.args.reader.now in
    let behind = g.R.Read.remaining c.loop-at.reader in
    let kept = c.loop-at.self.acknowledged in
    let epoch = c.epoch-epoch.result in
    let at = c.loop-at.at in
    let len = c.min-len.result in
    let few : len ≤ 65536 = search (rules, arith) in
    let part : length (take len c.loop-at.room) ≡ len = omega (arith, few, c.loop-at.invariant.room, length-take len c.loop-at.room) in
    let new = g.W.Write.contents c.send.new.writer in
    let same = ap (λ k. bytes_at (g.S.Source.text c.loop-at.source) at k) part ∙ ap (λ t. bytes_at t at len) c.loop-at.invariant.text in
    let puts : Puts (data_bytes epoch at (bytes_at text at len)) mid new = puts_all (data_bytes epoch at (bytes_at text at len)) mid new (subst (λ xs. Appends mid new (data_bytes epoch at xs)) same c.in_ok-send.ensures.sent) in
    let found = subst (λ e. PoursPart text e from asked old new kept) c.loop-at.invariant.epoch (pours_part text epoch from at len old mid new asked behind kept c.loop-at.invariant.sent puts) in
    let p = err_from_is_err_and c.from_residual-in_err-lsn.result c.from_residual-in_err-lsn.ensures.1 in rw (p.1) found

pub returns-in_err-write_data-clause-part : goal.returns-in_err-write_data-clause-part
returns-in_err-write_data-clause-part g c =
    let text = g.S.Source.text c.args.source.now in
    let from = c.args.from in
    let old = g.W.Write.contents c.args.writer.now in
    let mid = g.W.Write.contents c.loop-at.writer in
    let asked = g.R.Read.remaining c.args.reader.now in
    let behind = g.R.Read.remaining c.loop-at.reader in
    let kept = c.loop-at.self.acknowledged in
    let epoch = c.epoch-epoch.result in
    let at = c.loop-at.at in
    let new = g.W.Write.contents c.write_data.new.writer in
    let there : c.end-end.result ≡ at = omega (arith, c.loop-at.invariant.high, c.loop-at-test.false) in
    let puts : Puts (data_bytes epoch at (bytes_at text at 0)) mid new = subst (λ k. Puts (data_bytes epoch k []) mid new) there c.write_data.ensures.part in
    let found = subst (λ e. PoursPart text e from asked old new kept) c.loop-at.invariant.epoch (pours_part text epoch from at 0 old mid new asked behind kept c.loop-at.invariant.sent puts) in
    let p = err_from_is_err_and c.from_residual-in_err-write_data.result c.from_residual-in_err-write_data.ensures.1 in rw (p.1) found

pub returns-in_err-last-clause-part : goal.returns-in_err-last-clause-part
returns-in_err-last-clause-part g c =
    let text = g.S.Source.text c.args.source.now in
    let from = c.args.from in
    let old = g.W.Write.contents c.args.writer.now in
    let mid = g.W.Write.contents c.loop-at.writer in
    let asked = g.R.Read.remaining c.args.reader.now in
    let behind = g.R.Read.remaining c.loop-at.reader in
    let kept = c.loop-at.self.acknowledged in
    let epoch = c.epoch-epoch.result in
    let at = c.loop-at.at in
    let new = g.W.Write.contents c.write_data.new.writer in
    let there : c.end-end.result ≡ at = omega (arith, c.loop-at.invariant.high, c.loop-at-test.false) in
    let puts : Puts (data_bytes epoch at (bytes_at text at 0)) mid new = subst (λ k. Puts (data_bytes epoch k []) mid new) there (puts_all (data_bytes epoch c.end-end.result []) mid new c.in_ok-write_data.ensures.all) in
    let found = subst (λ e. PoursPart text e from asked old new kept) c.loop-at.invariant.epoch (pours_part text epoch from at 0 old mid new asked behind kept c.loop-at.invariant.sent puts) in
    let p = err_from_is_err_and c.from_residual-in_err-last.result c.from_residual-in_err-last.ensures.1 in rw (p.1) found

pub returns-clause-all : goal.returns-clause-all
returns-clause-all g c =
    let text = g.S.Source.text c.args.source.now in
    let from = c.args.from in
    let old = g.W.Write.contents c.args.writer.now in
    let mid = g.W.Write.contents c.loop-at.writer in
    let asked = g.R.Read.remaining c.args.reader.now in
    let behind = g.R.Read.remaining c.loop-at.reader in
    let kept = c.loop-at.self.acknowledged in
    let epoch = c.epoch-epoch.result in
    let at = c.loop-at.at in
    let new = g.W.Write.contents c.write_data.new.writer in
    let there : c.end-end.result ≡ at = omega (arith, c.loop-at.invariant.high, c.loop-at-test.false) in
    let behind-last = g.R.Read.remaining c.hear-2.new.reader in
    subst (λ e. Pours text e from asked behind-last old new (Some c.in_ok-last.last)) c.loop-at.invariant.epoch
    (pours_all text epoch from c.end-end.result old mid new asked behind behind-last kept c.in_ok-last.last c.end-end.ensures
    (subst (λ k. Answered text epoch from k old mid asked behind kept) (sym there) c.loop-at.invariant.sent) c.in_ok-write_data.ensures.all c.in_ok-last.ensures.fits c.in_ok-last.ensures.found)

pub returns-in_err-lsn-clause-fails : goal.returns-in_err-lsn-clause-fails
returns-in_err-lsn-clause-fails g c =
    let found = way_answer (g.S.Source.text c.args.source.now) c.epoch-epoch.result c.args.from c.loop-at.at (g.W.Write.contents c.args.writer.now) (g.W.Write.contents c.loop-at.writer) (g.R.Read.remaining c.args.reader.now) (g.R.Read.remaining c.loop-at.reader) (g.R.Read.remaining c.hear.new.reader) c.loop-at.self.acknowledged c.in_err-lsn.field-0.0 c.loop-at.invariant.sent c.in_err-lsn.ensures.fails in
    let p = err_from_is_err_and c.from_residual-in_err-lsn.result c.from_residual-in_err-lsn.ensures.1 in rw (p.1, p.2) found

pub returns-in_err-last-clause-fails : goal.returns-in_err-last-clause-fails
returns-in_err-last-clause-fails g c =
    let found = way_answer (g.S.Source.text c.args.source.now) c.epoch-epoch.result c.args.from c.loop-at.at (g.W.Write.contents c.args.writer.now) (g.W.Write.contents c.loop-at.writer) (g.R.Read.remaining c.args.reader.now) (g.R.Read.remaining c.loop-at.reader) (g.R.Read.remaining c.hear-2.new.reader) c.loop-at.self.acknowledged c.in_err-last.field-0.0 c.loop-at.invariant.sent c.in_err-last.ensures.fails in
    let p = err_from_is_err_and c.from_residual-in_err-last.result c.from_residual-in_err-last.ensures.1 in rw (p.1, p.2) found
