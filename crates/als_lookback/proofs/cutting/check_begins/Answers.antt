use Rattle.std.proofs.Common.{◌≤◌, [], sym, subst, arith}
use Rattle.als_record.specs.LogText.{end_of}
use Rattle.als_lookback.specs.Fronts.{EndsWithin}
use Rattle.als_lookback.specs.declared.until.Until.{Until}
use Rattle.als_lookback.proofs.JudgeLaws.{end-nil}
use Rattle.als_lookback.proofs.cutting.check_begins.Goals as goal

pub returns-in-At-2-clause-ok : goal.returns-in-At-2-clause-ok
returns-in-At-2-clause-ok c =
    let low : end_of [] ≤ c.in-At.lsn.0 = omega (arith, end-nil, c.if-lsn.false) in
    subst (λ (u : Until). EndsWithin u []) (sym c.in-At.is) low
