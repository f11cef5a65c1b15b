use Rattle.std.proofs.Common.{◌≡◌, true, sym, ap, ◌∙◌}
use Rattle.als_ckpt_codec.specs.Checkpoint.{numbers_bytes}
use Rattle.als_ckpt_codec.proofs.CheckpointLaws.{front-numbers_bytes}
use Rattle.als_ckpt_codec.proofs.checkpoint_codec.decode_numbers.Goals as goal

pub returns-clause-only : goal.returns-clause-only
returns-clause-only c n rest fits is = c.read_numbers-numbers.ensures.only n rest fits is

pub returns-then-not-is_same-clause-only : goal.returns-then-not-is_same-clause-only
returns-then-not-is_same-clause-only c n rest fits is =
    let whole = c.read_numbers-numbers.ensures.only n rest fits is in
    let same = c.split_at.ensures.front ∙ front-numbers_bytes n c.args.bytes.now rest fits is ∙ sym (c.as_slice.ensures ∙ c.numbers_bytes.ensures ∙ ap numbers_bytes whole) in
    let yes : c.is_same.result ≡ true = c.is_same.ensures.same same in
    absurd (cc (yes, c.if-not-is_same.true))
