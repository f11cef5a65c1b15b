-- What a transaction in doubt wrote, while it is in doubt.
use Rattle.std.proofs.Common.{◌≡◌, ℕ, true, List, [], ◌++◌, filter_map, fold, reverse, ap, ◌∙◌, append-nil}
use Rattle.std.proofs.lemmas.List.Elements.{filter-append}
use Rattle.als_record.specs.declared.record.Record.{Record}
use Rattle.als_record.specs.Transactions.{is_of, records_of, to_undo_after, to_undo, surviving, is_in_doubt}
use Rattle.als_record.specs.Validity.{is_valid}
use Rattle.als_record.specs.Commits.{write_of, writes_of}
use Rattle.als_writing.proofs.Doubting.{records_of-doubting}

records-more : (log more : List Record) (t : ℕ) → records_of (log ++ more) t ≡ records_of log t ++ records_of more t
unfolding records_of
records-more log more t = filter-append (is_of t) log more

writes-read : (log more : List Record) (t : ℕ) → records_of more t ≡ records_of log t → writes_of more t ≡ writes_of log t
unfolding writes_of surviving to_undo
writes-read log more t e = ap (λ rs. filter_map (λ (u : Record). write_of u.body) (reverse (fold (λ left u. to_undo_after left u u.body) [] rs))) e

pub writes-stay : (log more : List Record) (t : ℕ) → is_valid (log ++ more) ≡ true → is_in_doubt log t ≡ true → is_in_doubt (log ++ more) t ≡ true → writes_of (log ++ more) t ≡ writes_of log t
writes-stay log more t v d still =
    writes-read log (log ++ more) t
    (records-more log more t ∙ ap (λ rs. records_of log t ++ rs) (records_of-doubting t more log v d still) ∙ append-nil (records_of log t))
