-- What a writer asks: the free bytes of the log's device, the number of rows, and whether the database has a key.
use Rattle.std.proofs.Common.{◌≡◌, ℕ, ◌+◌, ◌*◌, ◌<◌, ◌≤◌, nat_lt, nat_le, true, false, ◌&&◌, List, [], ◌++◌, length, sum_by, sym, ap, ◌∙◌, arith, append-nil}
use Rattle.std.proofs.lemmas.Bool.{lt-ltb, ltb-true, le-leb, leb-true, false≢true, and_from, and_parts}
use Rattle.std.proofs.lemmas.List.{length-map}
use Rattle.std.proofs.lemmas.List.Sums.{sum_by-append}
use Rattle.als_record.specs.declared.key.Key.{Key}
use Rattle.als_record.specs.declared.record.Record.{Record}
use Rattle.als_record.specs.declared.transaction_row.TransactionRow.{TransactionRow}
use Rattle.als_record.specs.Spelling.{record_len, IsKey}
use Rattle.als_record.specs.LogText.{end_of}
use Rattle.als_record.specs.Table.{table_of}
use Rattle.als_record.specs.Tail.{reserve_of}
use Rattle.als_record.specs.Transactions.{unended}
use Rattle.als_analysis.specs.declared.open_row.OpenRow.{OpenRow}
use Rattle.als_analysis.specs.Open.{rows_of}
use Rattle.als_analysis.proofs.LogSteps.{length-table_of}
use Rattle.als_log.specs.Local.{IsFrontEnd}
use Rattle.als_store.specs.Stored.{FrontsFit}

-- a front does not end behind its log
front-below : (front rest : List Record) → end_of front ≤ end_of (front ++ rest)
unfolding end_of
front-below front rest = let e : sum_by record_len (front ++ rest) ≡ sum_by record_len front + sum_by record_len rest = sum_by-append record_len front rest in omega arith

-- the whole log fits, with its reserve
pub whole-fits : (blocks at : ℕ) (log : List Record) → FrontsFit blocks at log → IsFrontEnd log at → end_of log + reserve_of log ≤ 512 * blocks
whole-fits blocks at log fit f = fit log [] (sym (append-nil log)) below
  where
    below : at ≤ end_of log
    below =
        let a : end_of f.front ≤ end_of (f.front ++ f.rest) = front-below f.front f.rest in
        let b : end_of log ≡ end_of (f.front ++ f.rest) = ap end_of f.parts in
        let c : end_of f.front ≡ at = f.ends in
        omega (arith, a, b, c)

-- there is a row for each unended transaction
pub rows-counted : (log : List Record) (rows : List OpenRow) → rows_of rows ≡ table_of log → length rows ≡ length (unended log)
rows-counted log rows e = sym (length-map rows (λ (o : OpenRow). o.row)) ∙ ap (λ (rs : List TransactionRow). length rs) e ∙ length-table_of log

pub has-key : (pages : ℕ) (key : Key) → pages ≤ 4096 → (nat_lt key.page pages && nat_le key.slot 14) ≡ true → IsKey pages key
has-key pages key few e =
    let p : (nat_lt key.page pages ≡ true) × (nat_le key.slot 14 ≡ true) = and_parts (nat_lt key.page pages) (nat_le key.slot 14) e in
    let l : key.page < pages = ltb-true key.page pages p.0 in
    record { page = l; width = omega (arith, l, few); slot = leb-true key.slot 14 p.1 }

pub has-no_key : (pages : ℕ) (key : Key) → (nat_lt key.page pages && nat_le key.slot 14) ≡ false → IsKey pages key → ⊥
has-no_key pages key e is = false≢true (sym e ∙ and_from (nat_lt key.page pages) (nat_le key.slot 14) (lt-ltb key.page pages is.page) (le-leb key.slot 14 is.slot))
