use Rattle.std.proofs.Common.{◌≡◌, ◌≤◌, ◌++◌, ℕ, List, length, take, drop, ap, arith, ◌∙◌}
use Rattle.als_record.specs.Spelling.{spelling, record_len}
use Rattle.als_ckpt_codec.specs.Checkpoint.{numbers_bytes, checkpoint_bytes}
use Rattle.als_ckpt_codec.proofs.CheckpointLaws.{end_chkpt, encoded-long, encoded-whole, checkpoint_bytes-short}
use Rattle.als_ckpt_codec.proofs.checkpoint_codec.encode_checkpoint.Goals as goal

pub replace_front-requires : goal.replace_front-requires
replace_front-requires c =
    encoded-long (end_chkpt c.args.checkpoint.transactions c.args.checkpoint.pages) c.as_mut_slice.result.now
    (c.as_mut_slice.ensures.value ∙ c.in-Ok.ensures.ok ∙ ap (λ (xs : List ℕ). xs ++ spelling (end_chkpt c.args.checkpoint.transactions c.args.checkpoint.pages)) (c.in_ok-bytes.ensures.items ∙ c.as_slice.ensures))

pub returns-clause-ok : goal.returns-clause-ok
returns-clause-ok c =
    let was = c.in-Ok.ensures.ok ∙ ap (λ (xs : List ℕ). xs ++ spelling (end_chkpt c.args.checkpoint.transactions c.args.checkpoint.pages)) (c.in_ok-bytes.ensures.items ∙ c.as_slice.ensures) in
    encoded-whole c.args.checkpoint c.encode.new.out.items c.replace_front.new.bytes c.encode.new.out.len was
    (c.replace_front.ensures ∙ ap (λ (xs : List ℕ). xs ++ drop 36 c.as_mut_slice.result.now) c.numbers_bytes.ensures ∙ ap (λ (xs : List ℕ). numbers_bytes c.args.checkpoint.numbers ++ drop 36 xs) c.as_mut_slice.ensures.value)
    search

pub returns-clause-len : goal.returns-clause-len
returns-clause-len c =
    let x = c.args.checkpoint in
    let short : record_len (end_chkpt x.transactions x.pages) ≤ 54560 = omega (arith, c.encoded_len.ensures.len, c.encoded_len.ensures.limit) in
    let same : length (take c.encode.new.out.len (c.replace_front.new.bytes ++ drop (length c.replace_front.new.bytes) c.encode.new.out.items)) ≡ length (checkpoint_bytes x) = ap length (returns-clause-ok c) in
    omega (arith, same, checkpoint_bytes-short x short)
