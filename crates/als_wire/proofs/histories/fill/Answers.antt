use Rattle.std.proofs.Common.{◌≡◌, ℕ, ◌*◌, List, ◌++◌, length, drop, ap, ◌∙◌}
use Rattle.std.specs.Int.{w32, to_be_bytes}
use Rattle.als_wire.proofs.Recalling.{history_filled}
use Rattle.als_wire.proofs.histories.fill.Goals as goal

pub returns : goal.returns
returns c =
    let counted : c.write_u32.new.buf ≡ to_be_bytes w32 (length c.args.history.now) ++ drop 4 c.args.room.now =
    c.write_u32.ensures ∙ ap (λ (n : ℕ). to_be_bytes w32 n ++ drop 4 c.args.room.now) c.epoch.ensures.len in (
      drop (8 * length c.args.history.now) c.split_at_mut-seals.result.1.now,
      ap (λ (xs : List ℕ). xs ++ c.encode.new.out) c.split_at_mut-seals.ensures.front
          ∙ history_filled c.args.history.now c.encode.new.out c.write_u32.new.buf c.split_at_mut-seals.result.1.now c.args.room.now counted c.split_at_mut-seals.ensures.back c.encode.ensures,
    )
