use Rattle.std.proofs.Common.{rules, ◌≡◌, ℕ, ◌++◌, List, Some, sym, ap, ◌∙◌, arith, length-append, [], ◌∷◌}
use Rattle.std.specs.Int.{w64, to_be_bytes}
use Rattle.als_epochs.specs.Histories.{seals_bytes}
use Rattle.als_epochs.proofs.SealBytes.{next-taken, seals-more, seals-all, history-again, seals-left}
use Rattle.als_epochs.proofs.history.History.decode.Goals as goal

pub split_at-requires : goal.split_at-requires
split_at-requires c =
    seals-left c.loop.history c.args.bytes.now c.loop.rest.now c.args.epoch (omega arith) c.requires c.loop.invariant.told

pub returns-then-not-takes-clause-only : goal.returns-then-not-takes-clause-only
returns-then-not-takes-clause-only c = λ h rest history len is.
    let split : c.loop.rest.now ≡ c.split_at.result.0.now ++ c.split_at.result.1.now = search rules in
    let told : seals_bytes c.loop.history ++ (to_be_bytes w64 c.long_in.result ++ c.split_at.result.1.now) ≡ c.args.bytes.now =
    ap (λ (v : List ℕ). seals_bytes c.loop.history ++ (v ++ c.split_at.result.1.now)) c.long_in.ensures
    ∙ ap (λ (v : List ℕ). seals_bytes c.loop.history ++ v) (sym split) ∙ c.loop.invariant.told in
    absurd (c.if-not-takes.ensures
    (next-taken c.loop.history h c.long_in.result c.split_at.result.1.now rest c.args.bytes.now c.loop.invariant.history history (omega arith) (omega arith) told is))

pub loop-preserved : goal.loop-preserved
loop-preserved c =
    let split : c.loop.rest.now ≡ c.split_at.result.0.now ++ c.split_at.result.1.now = search rules in
    record {
      told = rw c.push.ensures.value
          (seals-more c.loop.history c.long_in.result c.split_at.result.0.now c.split_at.result.1.now c.loop.rest.now c.args.bytes.now c.long_in.ensures split c.loop.invariant.told);
      len = rw c.push.ensures.value (omega (arith, length-append c.loop.history (c.long_in.result ∷ [])));
      history = c.push.ensures.facts;
    }

pub returns-clause-found : goal.returns-clause-found
returns-clause-found c =
    (c.loop.invariant.history, omega arith, seals-all c.loop.history c.args.bytes.now c.loop.rest.now c.args.epoch (omega arith) c.loop.invariant.told)

pub returns-clause-only : goal.returns-clause-only
returns-clause-only c = λ h rest history len is.
    ap Some (history-again c.loop.history h c.loop.rest.now rest c.args.bytes.now c.loop.invariant.history history (omega arith) c.loop.invariant.told is)
