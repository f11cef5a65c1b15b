use Rattle.std.proofs.Common.{◌++◌}
use Rattle.std.proofs.lemmas.Result.{err_from_is_err_and}
use Rattle.als_engine.proofs.TakingLaws.{front_memory}
use Rattle.als_engine.proofs.taking_in.take_chunk.Goals as goal

pub returns-in_err-push-clause-err : goal.returns-in_err-push-clause-err
returns-in_err-push-clause-err g c =
    let p = err_from_is_err_and c.from_residual.result c.from_residual.ensures.1 in
    rw (p.1, p.2) (front_memory c.args.held.now.stored
    (c.args.receiver.now.kept ++ c.args.chunk.now))
