use Rattle.std.proofs.Common.{◌∙◌, arith}
use Rattle.std.proofs.lemmas.Result.{err_from_is_err_and}
use Rattle.als_ship.proofs.Vouching.{answers_more}
use Rattle.als_backup.proofs.Taken.{frames_more, nothing_more}
use Rattle.als_backup.proofs.fetching.fetch.Goals as goal

pub returns-in_err-check_whole-clause-fails : goal.returns-in_err-check_whole-clause-fails
returns-in_err-check_whole-clause-fails g c =
    let found = nothing_more (g.W.Write.contents c.args.writer.now) (g.W.Write.contents c.loop.writer) c.loop.invariant.answers in
    let p = err_from_is_err_and c.from_residual.result c.from_residual.ensures.1 in rw (p.1) found

pub loop-preserved : goal.loop-preserved
loop-preserved g c = record {
  taken = frames_more c.args.epoch c.args.text.now c.loop.text c.turn.new.text (g.R.Read.remaining c.args.reader.now) (g.R.Read.remaining c.loop.reader) (g.R.Read.remaining c.turn.new.reader) (g.O.Write.contents c.args.output.now) (g.O.Write.contents c.loop.output) (g.O.Write.contents c.turn.new.output) c.loop.invariant.taken c.in_ok-turn.ensures.takes;
  answers = answers_more 16 16 (g.W.Write.contents c.args.writer.now) (g.W.Write.contents c.loop.writer) (g.W.Write.contents c.turn.new.writer) (omega arith) c.loop.invariant.answers c.in_ok-turn.ensures.answers;
  within = c.in_ok-turn.ensures.within;
  pages = c.in_ok-turn.ensures.pages ∙ c.loop.invariant.pages;
}

pub returns-clause-fails : goal.returns-clause-fails
returns-clause-fails g c = nothing_more (g.W.Write.contents c.args.writer.now) (g.W.Write.contents c.loop.writer) c.loop.invariant.answers
