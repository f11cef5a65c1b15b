use Rattle.std.proofs.Common.{◌≡◌, ◌+◌, List, [], ◌∷◌, ◌++◌, map, sum_by, refl, arith}
use Rattle.std.proofs.lemmas.List.Sums.{sum_by-cons}
use Rattle.als_record.specs.declared.record.Record.{Record}
use Rattle.als_record.specs.Spelling.{record_len}
use Rattle.als_record.specs.Tail.{undo_len}
use Rattle.als_writing.specs.Writing.{Writes, record_for, moved, updates, room_for}
use Rattle.als_writing.proofs.room.room_is_a_sum.Goals as goal

pub returns-clause-none : goal.returns-clause-none
unfolding room_for updates moved
returns-clause-none c log t = refl

pub returns-clause-more : goal.returns-clause-more
unfolding room_for updates moved record_len
returns-clause-more c log t w rest =
    let r : Record = record_for log t (Writes w) in
    let more : List Record = moved (log ++ r ∷ []) t (map Writes rest) in
    let a : sum_by record_len (r ∷ more) ≡ record_len r + sum_by record_len more = sum_by-cons record_len r more in
    let b : sum_by undo_len (r ∷ more) ≡ undo_len r + sum_by undo_len more = sum_by-cons undo_len r more in
    omega arith
