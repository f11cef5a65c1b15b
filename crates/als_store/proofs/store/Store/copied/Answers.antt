use Rattle.std.proofs.Common.{List, length, ap, subst, ◌∙◌, arith}
use Rattle.std.specs.List.{AllByRecursion}
use Rattle.als_record.specs.declared.rows.LoggedPage.{LoggedPage}
use Rattle.als_record.specs.Spelling.{IsLoggedPage}
use Rattle.als_record.specs.Table.{table_of}
use Rattle.als_record.specs.declared.transaction_row.TransactionRow.{TransactionRow}
use Rattle.als_ckpt_codec.specs.declared.numbers.Numbers.{Numbers}
use Rattle.als_tables.specs.Copies.{logged_rows}
use Rattle.als_store.proofs.CheckpointSteps.{begins, end_low, length_rows, length_logged}
use Rattle.als_store.proofs.store.Store.copied.Goals as goal

pub logged_rows-requires : goal.logged_rows-requires
logged_rows-requires g c =
    let s = c.self.inside in
    let h = c.self.invariant in
    record {
      few = omega (
        arith,
        length_rows c.rows.result.now,
        ap (λ (rows : List TransactionRow). length rows)
            (c.rows.ensures.rows s.pages s.log.log h.judged),
        c.fits_checkpoint.ensures.few s.log.log h.is_log.valid,
      );
    }

pub returns-clause-ok : goal.returns-clause-ok
returns-clause-ok g c =
    let s = c.self.inside in
    let h = c.self.invariant in
    let greatest = c.greatest.ensures s.pages s.log.log h.judged in
    let begun = c.open_checkpoint.ensures s.pages s.log.log h.judged in
    let rows = c.in_ok-transactions.ensures.value
    ∙ ap logged_rows (c.rows.ensures.rows s.pages s.log.log h.judged) in
    let numbers = c.numbers-numbers.ensures.value in
    rw (← c.self.view_is, numbers)
    (λ j. record {
      numbers = record {
        position = record { 0 = c.end.ensures.end j };
        greatest = record { 0 = greatest j };
        open_checkpoint = record { 0 = begun j };
        commits = h.held_is.commits j;
        last_commit = record { 0 = h.held_is.last j };
      };
      transactions = rows j;
      pages = c.in_ok-pages.ensures.rows j;
    })

pub returns-clause-fits : goal.returns-clause-fits
returns-clause-fits g c =
    let s = c.self.inside in
    let h = c.self.invariant in
    let rows = c.in_ok-transactions.ensures.value
    ∙ ap logged_rows (c.rows.ensures.rows s.pages s.log.log h.judged) in
    rw (← c.self.view_is)
    (begins s.pages s.log.log s.pool.pool c.numbers-numbers.result c.in_ok-transactions.transactions
    c.in_ok-pages.pages c.numbers-numbers.ensures.fits
    (ap (λ (n : Numbers). n.position.0) c.numbers-numbers.ensures.value ∙ c.end.ensures.end) rows
    c.in_ok-transactions.ensures.fits c.in_ok-pages.ensures.rows
    (subst (λ (rows : List LoggedPage). AllByRecursion IsLoggedPage rows) c.as_slice.ensures.value
    c.rows_fit.ensures) (c.in_ok-pages.ensures.tabled ∙ h.paged.count) h.few_pages
    (end_low s.log.log)
    (omega (
      arith,
      length_logged (table_of s.log.log),
      c.fits_checkpoint.ensures.few s.log.log
          h.is_log.valid,
    )) (c.fits_checkpoint.ensures.rising s.log.log h.is_log.valid))
