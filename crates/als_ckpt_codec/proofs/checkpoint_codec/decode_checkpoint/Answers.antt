use Rattle.std.proofs.Common.{◌≡◌, List, true, refl, sym, ap, ◌∙◌}
use Rattle.std.proofs.lemmas.Result.{err_from_is_err_and}
use Rattle.als_record.specs.declared.rows.LoggedTransaction.{LoggedTransaction}
use Rattle.als_record.specs.declared.rows.LoggedPage.{LoggedPage}
use Rattle.als_ckpt_codec.specs.declared.numbers.Numbers.{Numbers}
use Rattle.als_ckpt_codec.specs.Checkpoint.{are_transactions, are_pages}
use Rattle.als_ckpt_codec.proofs.CheckpointLaws.{BeginsWith-parts, BeginsWith-numbers, BeginsWith-tables, checkpoint_of_parts}
use Rattle.als_ckpt_codec.proofs.checkpoint_codec.decode_checkpoint.Goals as goal

pub returns-clause-found : goal.returns-clause-found
returns-clause-found c =
    let tables = c.in_ok-transactions.ensures.found in (
      record {
        at = search;
        numbers = c.in_ok-numbers.ensures.found.1;
        tables = tables.fits;
        transactions = ap (are_transactions 0) (sym c.as_slice.ensures.value) ∙ sym c.are_transactions.ensures ∙ c.if-not-are_transactions.false;
        dirty = ap (are_pages c.args.pages 0) (sym c.as_slice-2.ensures.value) ∙ sym c.are_pages.ensures ∙ c.if-not-are_pages.false;
      },
      BeginsWith-parts c.args.pages c.args.bytes.now c.in_ok-numbers.numbers (record { numbers = c.in_ok-numbers.numbers; transactions = c.in_ok-transactions.transactions; pages = c.in_ok-transactions.dirty }) refl c.in_ok-numbers.ensures.found.0 tables,
    )

pub returns-clause-only : goal.returns-clause-only
returns-clause-only c x fits is =
    checkpoint_of_parts x c.in_ok-numbers.numbers c.in_ok-transactions.transactions c.in_ok-transactions.dirty
    (c.in_ok-numbers.ensures.only x.numbers _ fits.numbers (BeginsWith-numbers c.args.bytes.now x is))
    (c.in_ok-transactions.ensures.only x.transactions x.pages (BeginsWith-tables c.args.bytes.now x is c.args.pages fits.tables))

pub returns-in_err-numbers-clause-only : goal.returns-in_err-numbers-clause-only
returns-in_err-numbers-clause-only c x fits is =
    let found = c.in_err-numbers.ensures.only x.numbers _ fits.numbers (BeginsWith-numbers c.args.bytes.now x is) in
    let p = err_from_is_err_and c.from_residual.result c.from_residual.ensures.1 in rw (p.1, p.2) found

pub returns-in_err-transactions-clause-only : goal.returns-in_err-transactions-clause-only
returns-in_err-transactions-clause-only c x fits is =
    let found = c.in_err-transactions.ensures.only x.transactions x.pages (BeginsWith-tables c.args.bytes.now x is c.args.pages fits.tables) in
    let p = err_from_is_err_and c.from_residual-in_err-transactions.result c.from_residual-in_err-transactions.ensures.1 in rw (p.1, p.2) found

pub returns-then-not-are_transactions-clause-only : goal.returns-then-not-are_transactions-clause-only
returns-then-not-are_transactions-clause-only c x fits is =
    let same = c.in_ok-transactions.ensures.only x.transactions x.pages (BeginsWith-tables c.args.bytes.now x is c.args.pages fits.tables) in
    let first = ap (λ (t : List LoggedTransaction × List LoggedPage). are_transactions 0 t.0) same in
    let yes : c.are_transactions.result ≡ true = c.are_transactions.ensures ∙ ap (are_transactions 0) c.as_slice.ensures.value ∙ first ∙ fits.transactions in
    absurd (cc (yes, c.if-not-are_transactions.true))

pub returns-then-not-are_pages-clause-only : goal.returns-then-not-are_pages-clause-only
returns-then-not-are_pages-clause-only c x fits is =
    let same = c.in_ok-transactions.ensures.only x.transactions x.pages (BeginsWith-tables c.args.bytes.now x is c.args.pages fits.tables) in
    let second = ap (λ (t : List LoggedTransaction × List LoggedPage). are_pages c.args.pages 0 t.1) same in
    let yes : c.are_pages.result ≡ true = c.are_pages.ensures ∙ ap (are_pages c.args.pages 0) c.as_slice-2.ensures.value ∙ second ∙ fits.dirty in
    absurd (cc (yes, c.if-not-are_pages.true))

pub returns-then-numbers-position-clause-only : goal.returns-then-numbers-position-clause-only
returns-then-numbers-position-clause-only c x fits is =
    let found = c.in_ok-numbers.ensures.only x.numbers _ fits.numbers (BeginsWith-numbers c.args.bytes.now x is) in
    let same : c.in_ok-numbers.numbers.position.0 ≡ c.args.position.0 = ap (λ (n : Numbers). n.position.0) found ∙ fits.at in
    absurd (c.if-numbers-position.true same)
