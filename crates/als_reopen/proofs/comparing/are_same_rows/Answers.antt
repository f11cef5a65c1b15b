use Rattle.std.proofs.Common.{rules}
use Rattle.std.proofs.lemmas.Slice.Eq.{slice_eq-Decides}
use Rattle.als_reopen.proofs.comparing.are_same_rows.Goals as goal

pub returns-clause-same : goal.returns-clause-same
returns-clause-same c is = (slice_eq-Decides (λ a b. search (rules)) c.args.a.now c.args.b.now c.eq.result c.eq.ensures).0 is

pub returns-clause-differ : goal.returns-clause-differ
returns-clause-differ c is same =
    let tells = (slice_eq-Decides (λ a b. search (rules)) c.args.a.now c.args.b.now c.eq.result c.eq.ensures).1 same in cc
