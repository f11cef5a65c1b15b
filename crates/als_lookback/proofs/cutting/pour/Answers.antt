use Rattle.std.proofs.Common.{◌∙◌, subst}
use Rattle.std.specs.Io.KnownBytes.{Appends}
use Rattle.als_lookback.proofs.Taken.{poured_step}
use Rattle.std.proofs.lemmas.Result.{err_from_is_err_and}
use Rattle.als_lookback.proofs.FrontLaws.{taker_refused}
use Rattle.als_lookback.proofs.cutting.pour.Goals as goal

pub returns-in_err-more-clause-err : goal.returns-in_err-more-clause-err
returns-in_err-more-clause-err g c =
    let p = err_from_is_err_and c.from_residual.result c.from_residual.ensures.1 in
    rw (p.1, p.2) (λ text reads. c.in_err-more.ensures.err text (c.loop.invariant.reads text reads))

pub returns-in_err-put-clause-err : goal.returns-in_err-put-clause-err
returns-in_err-put-clause-err g c =
    let p = err_from_is_err_and c.from_residual-in_err-put.result c.from_residual-in_err-put.ensures.1 in
    rw (p.1, p.2) (λ text reads. taker_refused text c.args.until c.in_err-put.field-0.0 c.in_err-put.ensures.err)

pub returns-then-not-more-clause-ok : goal.returns-then-not-more-clause-ok
returns-then-not-more-clause-ok g c =
    let ok = c.in_ok-more.ensures.ok in
    let before = g.W.Write.contents c.args.writer.now in
    let between = g.W.Write.contents c.loop.writer in
    let after = g.W.Write.contents c.put.new.writer in
    let a = subst (Appends between after) c.deref.ensures.value c.in_ok-put.ensures.ok in
    let p = poured_step c.args.reading.now.log c.loop.reading.log c.gather.new.reading.log before between after ok.0 c.clear.new.self.items c.gather.new.spelled.bytes.items c.loop.invariant.taken c.clear.ensures.items ok.1 ok.2 a in
    (p.taken, p.log, ok.4 c.if-not-more.true, ok.3, p.written)

pub loop-preserved : goal.loop-preserved
loop-preserved g c =
    let ok = c.in_ok-more.ensures.ok in
    let before = g.W.Write.contents c.args.writer.now in
    let between = g.W.Write.contents c.loop.writer in
    let after = g.W.Write.contents c.put.new.writer in
    let a = subst (Appends between after) c.deref.ensures.value c.in_ok-put.ensures.ok in
    record {
      pages = c.gather.ensures.same ∙ c.loop.invariant.pages;
      valid = c.in_ok-more.ensures.valid;
      within = ok.3;
      reads = λ text r. c.in_ok-more.ensures.text text (c.loop.invariant.reads text r);
      taken = poured_step c.args.reading.now.log c.loop.reading.log c.gather.new.reading.log before between after ok.0 c.clear.new.self.items c.gather.new.spelled.bytes.items c.loop.invariant.taken c.clear.ensures.items ok.1 ok.2 a;
    }
