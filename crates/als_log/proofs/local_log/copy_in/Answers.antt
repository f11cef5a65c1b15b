use Rattle.std.proofs.Common.{◌≡◌, length, ap, ◌∙◌, arith}
use Rattle.als_record.specs.Spelling.{record_len}
use Rattle.als_record.specs.Shown.{shown}
use Rattle.als_record.proofs.RecordLaws.{length-spelling}
use Rattle.als_log.proofs.local_log.copy_in.Goals as goal

pub returns-in-Err-clause-full : goal.returns-in-Err-clause-full
returns-in-Err-clause-full c =
    let size : length c.args.bytes.now ≡ record_len (shown c.args._logged.now) = ap length c.requires ∙ length-spelling (shown c.args._logged.now) in
    omega (arith, c.in-Err.ensures.full, size)
