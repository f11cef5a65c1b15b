use Rattle.std.proofs.lemmas.Result.{err_from_is_err_and}
use Rattle.als_lookback.specs.declared.until.Until.TheVariants.{End}
use Rattle.als_lookback.proofs.FrontLaws.{look_refused}
use Rattle.als_lookback.proofs.past.count_on.Goals as goal

pub returns-in_err-more-clause-err : goal.returns-in_err-more-clause-err
returns-in_err-more-clause-err g c =
    let p = err_from_is_err_and c.from_residual.result c.from_residual.ensures.1 in
    rw (p.1, p.2) (λ text reads. look_refused text End c.args.reading.now c.loop.reading c.take_next.new.self c.in_err-more.field-0.0 (c.loop.invariant.reads text) tt c.in_err-more.ensures.err reads)
