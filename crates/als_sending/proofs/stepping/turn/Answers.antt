use Rattle.std.proofs.Common.{arith, refl, ◌≤◌}
use Rattle.std.proofs.lemmas.Result.{err_from_is_err_and}
use Rattle.als_sending.specs.declared.way.Way.{Way}
use Rattle.als_sending.proofs.Going.{goes_both, goes_look, stops_both, stops_look}
use Rattle.als_sending.proofs.stepping.turn.Goals as goal

pub returns-in_err-take_answer-clause-stops : goal.returns-in_err-take_answer-clause-stops
returns-in_err-take_answer-clause-stops g c =
    let found = stops_look c.args.way.now (g.G.Growing.reads c.args.log.now) (g.G.Growing.reads c.args.log.now) (g.M.Marks.heard c.args.marks.now) (g.M.Marks.heard c.take_answer.new.marks) (g.R.Read.remaining c.args.reader.now) (g.W.Write.contents c.args.writer.now) refl c.in_err-take_answer.ensures.same c.requires.is.ahead in
    let p = err_from_is_err_and c.from_residual-in_err-take_answer.result c.from_residual-in_err-take_answer.ensures.1 in rw (p.1) found

pub returns-in_err-way-clause-stops : goal.returns-in_err-way-clause-stops
returns-in_err-way-clause-stops g c =
    let w : Way = c.args.way.now in
    let v : Way = c.take_answer.new.way in
    let r0 = g.G.Growing.reads c.args.log.now in
    let r1 = g.G.Growing.reads c.end.new.self in
    let h0 = g.M.Marks.heard c.args.marks.now in
    let h1 = g.M.Marks.heard c.take_answer.new.marks in
    let a0 = g.R.Read.remaining c.args.reader.now in
    let a1 = g.R.Read.remaining c.take_answer.new.reader in
    let o0 = g.W.Write.contents c.args.writer.now in
    let low : v.ahead ≤ v.window = omega (arith, c.take_answer.ensures.ahead, c.take_answer.ensures.window, c.requires.is.ahead) in
    let found = stops_both w v r0 r0 r1 h0 h1 h1 a0 a1 o0 o0 o0 (c.in_ok-take_answer.ensures.goes r0 o0) (stops_look v r0 r1 h1 h1 a1 o0 c.end.ensures.reads refl low) in
    let p = err_from_is_err_and c.from_residual-in_err-way.result c.from_residual-in_err-way.ensures.1 in rw (p.1) found

pub returns-then-way-gt0-clause-goes : goal.returns-then-way-gt0-clause-goes
returns-then-way-gt0-clause-goes g c =
    let w : Way = c.args.way.now in
    let v : Way = c.take_answer.new.way in
    let u : Way = record { epoch = v.epoch; window = v.window; at = v.at; end = c.in_ok-way.field-0; ahead = v.ahead } in
    let r0 = g.G.Growing.reads c.args.log.now in
    let r1 = g.G.Growing.reads c.end.new.self in
    let h0 = g.M.Marks.heard c.args.marks.now in
    let h1 = g.M.Marks.heard c.take_answer.new.marks in
    let a0 = g.R.Read.remaining c.args.reader.now in
    let a1 = g.R.Read.remaining c.take_answer.new.reader in
    let o0 = g.W.Write.contents c.args.writer.now in
    goes_both w v u r0 r0 r1 h0 h1 h1 a0 a1 a1 o0 o0 o0 (c.in_ok-take_answer.ensures.goes r0 o0) (goes_look v u r0 r1 h1 a1 o0 c.end.ensures.reads refl refl refl refl)
