use Rattle.std.proofs.Common.{sym, subst, ℕ}
use Rattle.als_record.specs.LogText.{spellings, IsLog}
use Rattle.als_record.proofs.HeaderLaws.{one_header}
use Rattle.als_record.proofs.LogLaws.{logs_once}
use Rattle.als_record.proofs.laws.one_log.Goals as goal

pub returns : goal.returns
returns c = λ m n a b small_m small_n is_a is_b e.
    let parts = one_header m n (spellings a) (spellings b) small_m small_n e in
    let is_b_as : IsLog m b = subst (λ (k : ℕ). IsLog k b) (sym parts.0) is_b in
    (parts.0, logs_once m 16 a b is_a.laid_out is_b_as.laid_out is_a.records is_b_as.records parts.1)
