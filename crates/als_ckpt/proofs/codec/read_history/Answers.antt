use Rattle.std.proofs.Common.{◌≡◌, ◌-◌, ◌*◌, ◌≤◌, length, replicate, ◌∙◌, sym, arith}
use Rattle.byteorder.specs.Endian.{big_number}
use Rattle.als_ckpt.specs.Control.{history_part}
use Rattle.als_ckpt.proofs.BlockLaws.{version-block, rest-block, epoch-part, seals-part}
use Rattle.als_ckpt.proofs.codec.read_history.Goals as goal

pub returns-then-block-eq1-clause-now : goal.returns-then-block-eq1-clause-now
returns-then-block-eq1-clause-now c = λ pages s history is.
    absurd (omega (arith, version-block 2 c.args.block.now pages s (history_part s.history) is))

pub returns-then-epoch-gt-EPOCH_LIMIT-clause-now : goal.returns-then-epoch-gt-EPOCH_LIMIT-clause-now
returns-then-epoch-gt-EPOCH_LIMIT-clause-now c = λ pages s history is.
    let part : c.split_at.result.1.now ≡ history_part s.history = c.split_at.ensures.back ∙ rest-block 2 c.args.block.now pages s (history_part s.history) is in
    let few : length s.history ≤ 32 = history.few in
    let count : big_number 4 c.split_at.result.1.now ≡ length s.history = epoch-part c.split_at.result.1.now s.history part (omega (arith, few)) in
    absurd (omega (arith, count, few, c.read_u32-epoch.ensures))

pub returns-then-epoch-gt-EPOCH_LIMIT-clause-before : goal.returns-then-epoch-gt-EPOCH_LIMIT-clause-before
returns-then-epoch-gt-EPOCH_LIMIT-clause-before c = λ pages s is.
    absurd (omega (arith, version-block 1 c.args.block.now pages s (replicate 472 0) is))

pub returns-clause-now : goal.returns-clause-now
returns-clause-now c = λ pages s history is.
    let part : c.split_at.result.1.now ≡ history_part s.history = c.split_at.ensures.back ∙ rest-block 2 c.args.block.now pages s (history_part s.history) is in
    let few : length s.history ≤ 32 = history.few in
    let count : big_number 4 c.split_at.result.1.now ≡ length s.history = epoch-part c.split_at.result.1.now s.history part (omega (arith, few)) in
    c.decode.ensures.only s.history (replicate (464 - 8 * length s.history) 0) history (sym count ∙ sym c.read_u32-epoch.ensures)
    (c.split_at-2.ensures.back ∙ seals-part c.split_at.result.1.now s.history part)

pub returns-clause-before : goal.returns-clause-before
returns-clause-before c = λ pages s is.
    absurd (omega (arith, version-block 1 c.args.block.now pages s (replicate 472 0) is))
