use Rattle.std.proofs.Common.{arith, ◌≤◌, List, ℕ, Option}
use Rattle.std.proofs.lemmas.Result.{err_from_is_err_and}
use Rattle.als_sending.proofs.Going.{stops_piece}
use Rattle.als_sending.proofs.stepping.forward.Goals as goal

pub returns-in_err-send-clause-stops : goal.returns-in_err-send-clause-stops
returns-in_err-send-clause-stops g c =
    let w = c.args.way.now in
    let low : w.at ≤ w.at = omega arith in
    let found = λ (heard : List ℕ) (asked : Option (List ℕ)). stops_piece w w.at (g.G.Growing.reads c.args.log.now) (g.G.Growing.reads c.send.new.log) heard asked (g.W.Write.contents c.args.writer.now) (g.W.Write.contents c.send.new.writer) c.in_err-send.ensures.part low c.requires.free in
    let p = err_from_is_err_and c.from_residual.result c.from_residual.ensures.1 in rw (p.1) found
