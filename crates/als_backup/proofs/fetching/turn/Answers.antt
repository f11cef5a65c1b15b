use Rattle.std.proofs.Common.{◌-◌, ◌∙◌, ℕ, List, take, drop, ap, arith, length-append, length}
use Rattle.std.proofs.lemmas.Result.{err_from_is_err_and}
use Rattle.als_ship.proofs.Vouching.{answers_nothing, answers_begun}
use Rattle.als_backup.specs.Texts.{held_in}
use Rattle.als_backup.proofs.Texts.{length_held}
use Rattle.als_backup.proofs.Taken.{frame_taken}
use Rattle.als_backup.proofs.fetching.turn.Goals as goal

pub returns-in_err-of-clause-begins : goal.returns-in_err-of-clause-begins
returns-in_err-of-clause-begins g c =
    let found = answers_nothing 16 (g.W.Write.contents c.args.writer.now) in
    let p = err_from_is_err_and c.from_residual.result c.from_residual.ensures.1 in rw (p.1) found

pub returns-in_err-new-clause-begins : goal.returns-in_err-new-clause-begins
returns-in_err-new-clause-begins g c =
    let found = answers_nothing 16 (g.W.Write.contents c.args.writer.now) in
    let p = err_from_is_err_and c.from_residual-in_err-new.result c.from_residual-in_err-new.ensures.1 in rw (p.1) found

pub returns-in_err-take-clause-begins : goal.returns-in_err-take-clause-begins
returns-in_err-take-clause-begins g c =
    let found = answers_nothing 16 (g.W.Write.contents c.args.writer.now) in
    let p = err_from_is_err_and c.from_residual-in_err-take.result c.from_residual-in_err-take.ensures.1 in rw (p.1) found

pub returns-in_err-write_all-clause-begins : goal.returns-in_err-write_all-clause-begins
returns-in_err-write_all-clause-begins g c =
    let found = answers_nothing 16 (g.W.Write.contents c.args.writer.now) in
    let p = err_from_is_err_and c.from_residual-in_err-write_all.result c.from_residual-in_err-write_all.ensures.1 in rw (p.1) found

pub returns-in_err-write_acknowledged-clause-begins : goal.returns-in_err-write_acknowledged-clause-begins
returns-in_err-write_acknowledged-clause-begins g c =
    let found = answers_begun 16 (g.W.Write.contents c.args.writer.now) (g.W.Write.contents c.write_acknowledged.new.writer) (record { 0 = 16 }) (omega arith) c.write_acknowledged.ensures.part in
    let p = err_from_is_err_and c.from_residual-in_err-write_acknowledged.result c.from_residual-in_err-write_acknowledged.ensures.1 in rw (p.1) found

pub returns-clause-takes : goal.returns-clause-takes
returns-clause-takes g c =
    let ok = c.in_ok-new.ensures.ok in
    frame_taken c.args.epoch c.in_ok-of.of c.in_ok-of.offset ok.2.0 c.position.result c.in_ok-of.bytes c.in_ok-new.new.now c.args.text.now c.take.new.self (g.R.Read.remaining c.args.reader.now) (g.R.Read.remaining c.read_data.new.reader) (g.O.Write.contents c.args.output.now) (g.O.Write.contents c.write_all.new.self)
    ok.0 c.position.ensures.position ok.1 (ok.2.1 ∙ ap (λ (xs : List ℕ). take ok.2.0 (drop (c.position.result - c.in_ok-of.offset) xs)) c.as_slice.ensures) c.in_ok-take.ensures.taken c.in_ok-of.ensures.found.1 c.in_ok-write_all.ensures.bytes

pub returns-clause-within : goal.returns-clause-within
returns-clause-within g c =
    let old = c.args.text.now in
    let more = c.in_ok-new.new.now in
    omega (arith, length_held c.take.new.self, length_held old, ap (λ (xs : List ℕ). length xs) c.in_ok-take.ensures.taken, length-append (held_in old) more, c.position.ensures.position, c.in_ok-new.ensures.ok.3)

pub returns-clause-answers : goal.returns-clause-answers
returns-clause-answers g c = (record { 0 = 16 }, omega arith, c.in_ok-write_acknowledged.ensures.all)
