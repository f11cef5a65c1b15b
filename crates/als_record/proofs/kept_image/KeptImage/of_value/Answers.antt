use Rattle.std.proofs.Common.{arith}
use Rattle.als_record.proofs.KeptImages.{length-padded, rest_of-padded}
use Rattle.als_record.proofs.kept_image.KeptImage.of_value.Goals as goal

pub invariant_of-result : goal.invariant_of-result
invariant_of-result c =
    (omega (arith, c.requires), length-padded c.args.bytes.now c.padded.result c.requires c.padded.ensures, rest_of-padded c.args.bytes.now c.padded.result c.padded.ensures)
