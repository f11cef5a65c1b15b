-- Numbers and records in order.
use Rattle.std.specs.Prelude.{◌≡◌, ℕ, ◌<◌, false, List, [], ◌∷◌}
use Rattle.std.specs.List.{AllByRecursion}
use Rattle.als_record.specs.declared.record.Record.{Record}
use Rattle.als_record.specs.Transactions.{is_among}

-- no number stands twice
abbrev pub Apart : List ℕ → Type 0
Apart [] = Unit {0}
Apart (x ∷ rest) = (is_among rest x ≡ false) × Apart rest

-- each number is below those behind it
abbrev pub Rising : List ℕ → Type 0
Rising [] = Unit {0}
Rising (x ∷ rest) = AllByRecursion (λ y. x < y) rest × Rising rest

-- each record stands in the log above those behind it
abbrev pub Falling : List Record → Type 0
Falling [] = Unit {0}
Falling (u ∷ rest) = AllByRecursion (λ v. v.lsn.0 < u.lsn.0) rest × Falling rest
