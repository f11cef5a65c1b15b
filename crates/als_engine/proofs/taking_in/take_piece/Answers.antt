use Rattle.std.proofs.Common.{◌++◌, ◌∙◌, List, ℕ, ap, refl, subst, append_assoc}
use Rattle.std.proofs.lemmas.Result.{err_from_is_err_and}
use Rattle.als_engine.specs.TakingIn.{TakesFront}
use Rattle.als_engine.proofs.ReaderLaws.{goes_on_still, goes_on_then}
use Rattle.als_engine.proofs.TakingLaws.{all_start, all_then_all, all_then_front, chunk_parts}
use Rattle.als_engine.proofs.taking_in.take_piece.Goals as goal

pub loop-rest-init : goal.loop-rest-init
loop-rest-init g c = record {
  goes_on = goes_on_still c.args.held.now.stored.log c.args.shown.now;
  so_far = record {
    done = c.args.receiver.now.kept;
    whole = refl;
    takes =
        all_start c.args.held.now.stored c.args.receiver.now c.requires.rests;
  };
}

pub loop-rest-preserved : goal.loop-rest-preserved
loop-rest-preserved g c =
    let so_far = c.loop-rest.invariant.so_far in
    let chunk = c.split_at.result.0.now in
    let after = c.split_at.result.1.now in
    let parts = chunk_parts c.min.result c.loop-rest.rest.now chunk after c.split_at.ensures.front
    c.split_at.ensures.back in
    record {
      goes_on = goes_on_then c.args.held.now.stored.log c.loop-rest.held.stored.log
          c.take_chunk-in-loop-rest.new.held.stored.log c.args.shown.now c.loop-rest.shown
          c.take_chunk-in-loop-rest.new.shown c.loop-rest.invariant.goes_on
          c.take_chunk-in-loop-rest.ensures.goes_on;
      so_far = record {
        done = so_far.done ++ chunk;
        whole = append_assoc so_far.done chunk after ∙ ap (λ (m : List ℕ). so_far.done ++ m) parts
            ∙ so_far.whole;
        takes = all_then_all c.args.held.now.stored c.loop-rest.held.stored
            c.take_chunk-in-loop-rest.new.held.stored so_far.done chunk c.loop-rest.receiver
            c.take_chunk-in-loop-rest.new.receiver so_far.takes c.in_ok-take_chunk.ensures.ok;
      };
    }

pub returns-in_err-take_chunk-clause-err : goal.returns-in_err-take_chunk-clause-err
returns-in_err-take_chunk-clause-err g c =
    let p = err_from_is_err_and c.from_residual.result c.from_residual.ensures.1 in
    let so_far = c.loop-rest.invariant.so_far in
    let chunk = c.split_at.result.0.now in
    let after = c.split_at.result.1.now in
    let fault = c.in_err-take_chunk.field-0.0 in
    let parts = chunk_parts c.min.result c.loop-rest.rest.now chunk after c.split_at.ensures.front
    c.split_at.ensures.back in
    let front = all_then_front c.args.held.now.stored c.loop-rest.held.stored
    c.take_chunk-in-loop-rest.new.held.stored so_far.done chunk after c.loop-rest.receiver fault
    so_far.takes c.in_err-take_chunk.ensures.err in
    rw (p.1, p.2) (subst (λ (bytes : List ℕ). TakesFront c.args.held.now.stored bytes
    c.take_chunk-in-loop-rest.new.held.stored fault)
    (ap (λ (m : List ℕ). so_far.done ++ m) parts ∙ so_far.whole) front)

pub returns-in_err-take_chunk-clause-goes_on : goal.returns-in_err-take_chunk-clause-goes_on
returns-in_err-take_chunk-clause-goes_on g c =
    goes_on_then c.args.held.now.stored.log c.loop-rest.held.stored.log
    c.take_chunk-in-loop-rest.new.held.stored.log c.args.shown.now c.loop-rest.shown
    c.take_chunk-in-loop-rest.new.shown c.loop-rest.invariant.goes_on
    c.take_chunk-in-loop-rest.ensures.goes_on
