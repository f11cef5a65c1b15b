use Rattle.std.proofs.Common.{refl, ◌∙◌, ℕ, List, Option}
use Rattle.std.proofs.lemmas.Result.{err_from_is_err_and}
use Rattle.als_sending.specs.declared.way.Way.{Way}
use Rattle.als_sending.proofs.Going.{goes_look, stops_look}
use Rattle.als_sending.proofs.stepping.wait.Goals as goal

pub returns-in-Beat-2-clause-goes : goal.returns-in-Beat-2-clause-goes
returns-in-Beat-2-clause-goes g c = λ heard asked.
    let w : Way = c.args.way.now in
    goes_look w w (g.G.Growing.reads c.args.log.now) (g.G.Growing.reads c.wait_past.new.self) heard asked (g.W.Write.contents c.args.writer.now) c.wait_past.ensures.reads refl refl refl refl

pub returns-in-Beat-2-2-clause-goes : goal.returns-in-Beat-2-2-clause-goes
returns-in-Beat-2-2-clause-goes g c = λ heard asked.
    let w : Way = c.args.way.now in
    goes_look w w (g.G.Growing.reads c.args.log.now) (g.G.Growing.reads c.wait_past.new.self) heard asked (g.W.Write.contents c.args.writer.now) c.wait_past.ensures.reads refl refl refl refl

pub returns-in_ok-way-in-Past-clause-goes : goal.returns-in_ok-way-in-Past-clause-goes
returns-in_ok-way-in-Past-clause-goes g c = λ heard asked.
    let w : Way = c.args.way.now in
    let v : Way = record { epoch = w.epoch; window = w.window; at = w.at; end = c.in_ok-way-in-Past.field-0; ahead = w.ahead } in
    goes_look w v (g.G.Growing.reads c.args.log.now) (g.G.Growing.reads c.end.new.self) heard asked (g.W.Write.contents c.args.writer.now) (c.end.ensures.reads ∙ c.wait_past.ensures.reads) refl refl refl refl

pub returns-in_err-wait_past-clause-stops : goal.returns-in_err-wait_past-clause-stops
returns-in_err-wait_past-clause-stops g c =
    let found = λ (heard : List ℕ) (asked : Option (List ℕ)). stops_look c.args.way.now (g.G.Growing.reads c.args.log.now) (g.G.Growing.reads c.wait_past.new.self) heard heard asked (g.W.Write.contents c.args.writer.now) c.wait_past.ensures.reads refl c.requires.is.ahead in
    let p = err_from_is_err_and c.from_residual.result c.from_residual.ensures.1 in rw (p.1) found

pub returns-in_err-way-in-Past-clause-stops : goal.returns-in_err-way-in-Past-clause-stops
returns-in_err-way-in-Past-clause-stops g c =
    let found = λ (heard : List ℕ) (asked : Option (List ℕ)). stops_look c.args.way.now (g.G.Growing.reads c.args.log.now) (g.G.Growing.reads c.end.new.self) heard heard asked (g.W.Write.contents c.args.writer.now) (c.end.ensures.reads ∙ c.wait_past.ensures.reads) refl c.requires.is.ahead in
    let p = err_from_is_err_and c.from_residual-in_err-way-in-Past.result c.from_residual-in_err-way-in-Past.ensures.1 in rw (p.1) found
