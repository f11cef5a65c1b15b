-- Histories out of a stream, and into one.
use Rattle.std.proofs.Common.{◌≡◌, ℕ, ◌+◌, ◌*◌, ◌<◌, ◌≤◌, ◌^◌, List, [], ◌++◌, length, take, drop, Option, refl, sym, ap, ap₂, subst, ◌∙◌, inr, arith, append_assoc, append-nil, length-append}
use Rattle.std.specs.Int.{w32, to_be_bytes}
use Rattle.std.specs.Io.KnownBytes.{Consumes}
use Rattle.std.proofs.lemmas.List.{take_at}
use Rattle.als_epochs.specs.Histories.{IsHistory, seals_bytes}
use Rattle.als_epochs.proofs.SealBytes.{length-seals_bytes}
use Rattle.als_wire.specs.declared.fault.Fault.{Fault}
use Rattle.als_wire.specs.declared.fault.Fault.TheVariants.{BadFrame}
use Rattle.als_wire.specs.Frames.{history_bytes}
use Rattle.als_wire.specs.Reading.{FailsToRecall, AreNoSeals}
use Rattle.als_wire.proofs.Failing.{two_read}
use Rattle.als_wire.proofs.OneFrame.{word_again}

-- a history that is read
pub history_read : (a b c : Option (List ℕ)) (epoch : ℕ) (seals bytes : List ℕ) → length seals ≡ epoch → bytes ≡ seals_bytes seals → Consumes a b (to_be_bytes w32 epoch) → Consumes b c bytes
    → Consumes a c (history_bytes seals)
unfolding history_bytes
history_read a b c epoch seals bytes len is first second =
    subst (Consumes a c) (ap₂ (λ (n : ℕ) (xs : List ℕ). to_be_bytes w32 n ++ xs) (sym len) is) (two_read a b c (to_be_bytes w32 epoch) bytes first second)

-- the bytes of a history, by the epoch and what follows it
history-split : (epoch : ℕ) (xs seals rest : List ℕ) → epoch < 2 ^ 32 → IsHistory seals → to_be_bytes w32 epoch ++ xs ≡ history_bytes seals ++ rest
    → (epoch ≡ length seals) × (xs ≡ seals_bytes seals ++ rest)
unfolding history_bytes
history-split epoch xs seals rest fits history e =
    let few : length seals ≤ 32 = history.few in
    word_again epoch (length seals) xs (seals_bytes seals ++ rest) fits (omega (arith, few)) (e ∙ append_assoc (to_be_bytes w32 (length seals)) (seals_bytes seals) rest)

-- an epoch above 32
pub epoch_refused : (a b : Option (List ℕ)) (epoch : ℕ) → 32 < epoch → epoch < 2 ^ 32 → Consumes a b (to_be_bytes w32 epoch) → FailsToRecall BadFrame a b
epoch_refused a b epoch above fits read =
    let none : (seals more rest : List ℕ) → IsHistory seals → to_be_bytes w32 epoch ++ more ≡ history_bytes seals ++ rest → ⊥ = λ seals more rest history e.
    let same : epoch ≡ length seals = (history-split epoch more seals rest fits history e).0 in
    let few : length seals ≤ 32 = history.few in
    omega (arith, same, few, above) in
    inr (refl, to_be_bytes w32 epoch, record { few = omega arith; none = none }, read)

-- seals that fall
pub seals_refused : (a b c : Option (List ℕ)) (epoch : ℕ) (bytes : List ℕ) (f : Fault) → epoch ≤ 32 → length bytes ≡ 8 * epoch → (f ≡ BadFrame) × AreNoSeals epoch bytes
    → Consumes a b (to_be_bytes w32 epoch) → Consumes b c bytes → FailsToRecall f a c
seals_refused a b c epoch bytes f few len refused first second =
    let none : (seals more rest : List ℕ) → IsHistory seals → (to_be_bytes w32 epoch ++ bytes) ++ more ≡ history_bytes seals ++ rest → ⊥ = λ seals more rest history e.
    let split = history-split epoch (bytes ++ more) seals rest (omega (arith, few)) history (sym (append_assoc (to_be_bytes w32 epoch) bytes more) ∙ e) in
    let same : epoch ≡ length seals = split.0 in
    let size : length (seals_bytes seals) ≡ 8 * epoch = length-seals_bytes seals ∙ ap (λ (n : ℕ). 8 * n) (sym same) in
    let spelled : bytes ≡ seals_bytes seals = sym (take_at bytes more (8 * epoch) len) ∙ ap (take (8 * epoch)) split.1 ∙ take_at (seals_bytes seals) rest (8 * epoch) size in
    refused.1.none seals [] history (sym same) (spelled ∙ sym (append-nil (seals_bytes seals))) in
    let total : length (to_be_bytes w32 epoch ++ bytes) ≡ 4 + length bytes = length-append (to_be_bytes w32 epoch) bytes in
    inr (refused.0, to_be_bytes w32 epoch ++ bytes, record { few = omega (arith, total, len, few); none = none }, two_read a b c (to_be_bytes w32 epoch) bytes first second)

-- what was written at the front of a buffer
pub history_front : (room seals rest : List ℕ) (n : ℕ) → n ≡ length seals → room ≡ history_bytes seals ++ rest → take (4 + 8 * n) room ≡ history_bytes seals
unfolding history_bytes
history_front room seals rest n len is =
    let joined : length (to_be_bytes w32 (length seals) ++ seals_bytes seals) ≡ 4 + length (seals_bytes seals) = length-append (to_be_bytes w32 (length seals)) (seals_bytes seals) in
    let size : length (to_be_bytes w32 (length seals) ++ seals_bytes seals) ≡ 4 + 8 * n = omega (arith, joined, length-seals_bytes seals, len) in
    ap (take (4 + 8 * n)) is ∙ take_at (to_be_bytes w32 (length seals) ++ seals_bytes seals) rest (4 + 8 * n) size

-- the epoch is written, and then the seals behind it
pub history_filled : (seals out counted at_seals zeros : List ℕ) → counted ≡ to_be_bytes w32 (length seals) ++ drop 4 zeros → at_seals ≡ drop 4 counted
    → out ≡ seals_bytes seals ++ drop (8 * length seals) at_seals → take 4 counted ++ out ≡ history_bytes seals ++ drop (8 * length seals) at_seals
unfolding history_bytes
history_filled seals out counted at_seals zeros written split told =
    let front : take 4 counted ≡ to_be_bytes w32 (length seals) = ap (take 4) written ∙ take_at (to_be_bytes w32 (length seals)) (drop 4 zeros) 4 refl in
    ap₂ (λ (xs ys : List ℕ). xs ++ ys) front told
    ∙ sym (append_assoc (to_be_bytes w32 (length seals)) (seals_bytes seals) (drop (8 * length seals) at_seals))
