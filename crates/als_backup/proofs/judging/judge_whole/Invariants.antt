use Rattle.std.proofs.Common.{◌≡◌}
use Rattle.als_record.specs.Validity.{IsValidLog}
use Rattle.als_backup.specs.Texts.{held_in}
use Rattle.als_backup.proofs.judging.judge_whole.Given as goal

abbrev pub invariant-loop : goal.invariant-loop
invariant-loop l = record {
  text : held_in l.judge ≡ held_in l.fn.judge;
  pages : l.judge.pages ≡ l.fn.judge.pages;
  valid : IsValidLog l.fn.judge.pages l.fn.judge.log → IsValidLog l.judge.pages l.judge.log;
}
