use Rattle.std.proofs.Common.{◌≡◌, ℕ, List, ◌++◌, length, drop, replicate, ap, ◌∙◌}
use Rattle.std.specs.Int.{w32, to_be_bytes}
use Rattle.als_ckpt.proofs.BlockLaws.{history_part-written}
use Rattle.als_ckpt.proofs.codec.write_history.Goals as goal

pub returns : goal.returns
returns c =
    let counted : c.write_u32.new.buf ≡ to_be_bytes w32 (length c.args.history.now) ++ drop 4 (replicate 472 0) =
    c.write_u32.ensures ∙ ap (λ (n : ℕ). to_be_bytes w32 n ++ drop 4 c.args.out.now) c.epoch.ensures.len ∙ ap (λ (xs : List ℕ). to_be_bytes w32 (length c.args.history.now) ++ drop 4 xs) c.requires in
    ap (λ (xs : List ℕ). xs ++ c.encode.new.out) c.split_at_mut-seals.ensures.front
    ∙ history_part-written c.args.history.now c.encode.new.out c.write_u32.new.buf c.split_at_mut-seals.result.1.now counted c.split_at_mut-seals.ensures.back c.encode.ensures
