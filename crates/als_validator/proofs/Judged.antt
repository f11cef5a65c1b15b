-- What judging needs, where it is kept.
use Rattle.std.proofs.Common.{ℕ, List, Some, subst}
use Rattle.std.proofs.lemmas.Option.{same_Some}
use Rattle.als_record.specs.declared.record.Record.{Record}
use Rattle.als_validator.specs.declared.judging.Judging.{Judging}
use Rattle.als_validator.specs.Validated.{IsJudgingOf, IsJudgedBy}

pub IsJudgedBy-some : (pages : ℕ) (x : Judging) (log : List Record) → IsJudgingOf pages x log → IsJudgedBy pages (Some x) log
IsJudgedBy-some pages x log h j e = subst (λ (k : Judging). IsJudgingOf pages k log) (same_Some x j e) h
