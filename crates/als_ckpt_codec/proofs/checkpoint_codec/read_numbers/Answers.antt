use Rattle.std.proofs.Common.{ℕ, List, ap, ◌∙◌}
use Rattle.byteorder.specs.Endian.{big_number}
use Rattle.als_ckpt_codec.proofs.CheckpointLaws.{numbers_of_fields, position-numbers_bytes, greatest-numbers_bytes, open_checkpoint-numbers_bytes, commits-numbers_bytes, last_commit-numbers_bytes}
use Rattle.als_ckpt_codec.proofs.checkpoint_codec.read_numbers.Goals as goal

pub returns-clause-only : goal.returns-clause-only
returns-clause-only c n rest fits is =
    let bytes = c.args.bytes.now in
    numbers_of_fields n c.long.result c.read_u32.result c.long-2.result c.long-3.result c.long-4.result
    (c.long.ensures ∙ position-numbers_bytes n bytes rest fits is)
    (c.read_u32.ensures ∙ ap (λ (xs : List ℕ). big_number 4 xs) c.split_at.ensures.back ∙ greatest-numbers_bytes n bytes rest fits is)
    (c.long-2.ensures ∙ open_checkpoint-numbers_bytes n bytes rest fits is)
    (c.long-3.ensures ∙ commits-numbers_bytes n bytes rest fits is)
    (c.long-4.ensures ∙ last_commit-numbers_bytes n bytes rest fits is)
