use Rattle.std.proofs.Common.{◌≡◌, inr, arith}
use Rattle.std.proofs.lemmas.Result.{err_from_is_err_and}
use Rattle.als_comparing.proofs.Behind.{ends_answered, not_served, not_served_by}
use Rattle.als_comparing.proofs.serving.serve_log.Goals as goal

pub returns-in_err-first-clause-served : goal.returns-in_err-first-clause-served
returns-in_err-first-clause-served g c =
    inr (not_served c.args.window (g.G.Growing.pages c.args.log.now) (g.G.Growing.shown c.args.log.now) (g.G.Growing.seals c.args.log.now) (g.G.Growing.reads c.args.log.now)
    (g.R.Read.remaining c.args.reader.now) (g.M.Marks.heard c.args.marks.now) (g.M.Marks.begun c.args.marks.now) (g.W.Write.contents c.args.writer.now))

pub returns-in_err-first-clause-fails : goal.returns-in_err-first-clause-fails
returns-in_err-first-clause-fails g c =
    let failed = not_served_by (g.G.Growing.pages c.args.log.now) (g.G.Growing.shown c.args.log.now) (g.G.Growing.seals c.args.log.now) c.in_err-first.field-0.0
    (g.R.Read.remaining c.args.reader.now) c.in_err-first.ensures.fails in
    let p = err_from_is_err_and c.from_residual.result c.from_residual.ensures.1 in rw (p.1, p.2) failed

pub returns-then-first-eq-TAG-clause-sent : goal.returns-then-first-eq-TAG-clause-sent
returns-then-first-eq-TAG-clause-sent g c =
    let is : c.in_ok-first.first ≡ 86 = omega arith in
    ends_answered (g.G.Growing.pages c.args.log.now) (g.G.Growing.shown c.answer.new.log) (g.G.Growing.seals c.args.log.now) (g.G.Growing.reads c.args.log.now) (g.G.Growing.reads c.answer.new.log)
    (g.R.Read.remaining c.args.reader.now) (g.R.Read.remaining c.first_byte.new.reader) (g.R.Read.remaining c.answer.new.reader) (g.M.Marks.heard c.args.marks.now) (g.M.Marks.begun c.args.marks.now)
    (g.W.Write.contents c.args.writer.now) (g.W.Write.contents c.answer.new.writer) c.in_ok-first.first c.in_ok-first.ensures.found is c.in_ok-answer.ensures.answers
