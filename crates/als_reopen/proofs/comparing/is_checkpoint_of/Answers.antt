use Rattle.std.proofs.Common.{List, length, ap, arith}
use Rattle.als_record.specs.declared.transaction_row.TransactionRow.{TransactionRow}
use Rattle.als_reopen.proofs.Steps.{length_rows}
use Rattle.als_reopen.proofs.comparing.is_checkpoint_of.Goals as goal

pub logged_rows-requires : goal.logged_rows-requires
logged_rows-requires g c =
    let s = c.args.scan.now in
    record {
      few = omega (
        arith,
        length_rows c.rows.result.now,
        ap (λ (rows : List TransactionRow). length rows) (c.rows.ensures.table s.log c.table.ensures.table),
        c.fits_checkpoint.ensures.few s.log c.requires.facts.valid.valid,
      );
    }
