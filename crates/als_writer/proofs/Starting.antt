-- A number that is new.
use Rattle.std.proofs.Common.{◌≡◌, ℕ, ◌+◌, ◌<◌, true, nat_lt, List, length, arith}
use Rattle.std.proofs.lemmas.Bool.{and_from, lt-ltb}
use Rattle.als_record.specs.declared.record.Record.{Record}
use Rattle.als_record.specs.Transactions.{unended, greatest_trans}
use Rattle.als_writing.specs.Writing.{is_new}

pub is_new-next : (log : List Record) (t : ℕ) → t ≡ greatest_trans log + 1 → length (unended log) < 256 → is_new log t ≡ true
unfolding is_new
is_new-next log t e few =
    let above : greatest_trans log < t = omega (arith, e) in
    and_from (nat_lt (greatest_trans log) t) (nat_lt (length (unended log)) 256) (lt-ltb (greatest_trans log) t above) (lt-ltb (length (unended log)) 256 few)
