use Rattle.std.proofs.Common.{◌≤◌, length, sym, ap, subst, ◌∙◌}
use Rattle.als_record.specs.Spelled.{image_in, len_in}
use Rattle.als_writer.proofs.Fitting.{image_fits}
use Rattle.als_writer.proofs.room.value_len.Goals as goal

pub returns-in-Some-clause-fits : goal.returns-in-Some-clause-fits
returns-in-Some-clause-fits c =
    let e = sym c.shown.ensures ∙ ap image_in c.in-Some.is in
    let short : length c.in-Some.bytes.now ≤ 31 = subst (λ o. len_in o ≤ 31) c.in-Some.is c.shown.result.short in
    image_fits c.args.image.now c.in-Some.bytes.now e short c.bytes_len.ensures.fit
