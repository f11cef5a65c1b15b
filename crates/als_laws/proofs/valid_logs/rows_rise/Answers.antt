use Rattle.std.proofs.Common.{subst, sym}
use Rattle.als_record.specs.Orders.{Rising}
use Rattle.als_record.proofs.Places.{Rising-unended}
use Rattle.als_record.proofs.TableRows.{numbers-table_of}
use Rattle.als_laws.proofs.valid_logs.rows_rise.Goals as goal

pub returns : goal.returns
returns c log v = subst Rising (sym (numbers-table_of log)) (Rising-unended log v)
