-- Bytes of a text, read piece by piece.
use Rattle.std.proofs.Common.{◌≡◌, ℕ, ◌+◌, ◌-◌, ◌*◌, ◌<◌, ◌≤◌, List, length, drop, take, sym, ap, subst, ◌∙◌, arith, inl, inr}
use Rattle.std.specs.Prelude.{Contains, slice_index}
use Rattle.std.proofs.lemmas.Bool.{cases_lt}
use Rattle.std.proofs.lemmas.List.{ext_get_or, get_or-take, get_or-drop, length-take, length-drop}
use Rattle.als_disk.specs.Slot.{Slot, SameBlocks}
use Rattle.als_record.specs.declared.record.Record.{Record}
use Rattle.als_record.specs.LogText.{log_text, end_of}
use Rattle.als_log.specs.Reading.{IsSource, IsReadable}
use Rattle.als_log.specs.declared.near.Near.{Near}
use Rattle.als_log.proofs.Keeping.{length-text}

-- the same blocks give the same text
pub source-same : (old new : ℕ → Slot) (bytes text : List ℕ) (base : ℕ) → SameBlocks old new → IsSource old bytes text base → IsSource new bytes text base
source-same old new bytes text base same s = record {
  below = λ b x has. s.below b x (subst (λ (slot : Slot). Contains slot.readable x) (same b) has);
  held = s.held;
  reach = s.reach;
}

-- one more piece
pub read_more : (text old new : List ℕ) (at from len more : ℕ) → from ≡ at + len
    → ((k : ℕ) → k < len → slice_index new k ≡ slice_index old k) → ((k : ℕ) → k < more - len → slice_index new (len + k) ≡ slice_index text (from + k))
    → ((k : ℕ) → k < len → slice_index old k ≡ slice_index text (at + k))
    → (k : ℕ) → k < more → slice_index new k ≡ slice_index text (at + k)
read_more text old new at from len more is kept part was k lt =
    elim (cases_lt k len) [
      | inl below ↦ kept k below ∙ was k below
      | inr le ↦
          let back : len + (k - len) ≡ k = omega (arith, le) in
          let behind : k - len < more - len = omega (arith, le, lt) in
          let place : from + (k - len) ≡ at + k = omega (arith, is, le) in
          ap (slice_index new) (sym back) ∙ part (k - len) behind ∙ ap (slice_index text) place
    ]

-- what has the bytes of a part, and its length, is it
pub part_is : (text out : List ℕ) (at count : ℕ) → length out ≡ count → at + count ≤ length text → ((k : ℕ) → k < count → slice_index out k ≡ slice_index text (at + k)) → out ≡ take count (drop at text)
part_is text out at count len within has =
    let other : length (take count (drop at text)) ≡ count = omega (arith, length-take count (drop at text), length-drop at text, within) in
    ext_get_or 0 out (take count (drop at text)) (len ∙ sym other) (λ k lt.
    let below : k < count = omega (arith, lt, len) in
    has k below ∙ sym (get_or-take count (drop at text) k 0 below ∙ get_or-drop at text k 0))

-- a readable text reaches to its log's end
pub readable-reach : (pages : ℕ) (log : List Record) (slots : ℕ → Slot) (blocks : ℕ) (bytes : List ℕ) (base : ℕ) (near : Near) → IsReadable pages log slots blocks bytes base near → base + length bytes ≡ end_of log
readable-reach pages log slots blocks bytes base near r =
    let len : length bytes ≡ length (log_text pages log) - base = ap length r.source.held ∙ length-drop base (log_text pages log) in
    omega (arith, len, r.source.reach, length-text pages log)

-- the last bytes of a text, in a block that was read
pub front_is : (text block : List ℕ) (i len : ℕ) → length block ≡ 512 → len ≤ 512 → length text ≡ 512 * i + len → ((o : ℕ) → o < 512 → 512 * i + o < 512 * i + len → slice_index block o ≡ slice_index text (512 * i + o)) → take len block ≡ drop (512 * i) text
front_is text block i len whole few size has =
    let a : length (take len block) ≡ len = omega (arith, length-take len block, whole, few) in
    let b : length (drop (512 * i) text) ≡ len = omega (arith, length-drop (512 * i) text, size) in
    ext_get_or 0 (take len block) (drop (512 * i) text) (a ∙ sym b) (λ k lt.
    let below : k < len = omega (arith, lt, a) in
    get_or-take len block k 0 below ∙ has k (omega (arith, below, few)) (omega (arith, below)) ∙ sym (get_or-drop (512 * i) text k 0))

pub front_none : (text block : List ℕ) (i len : ℕ) → len ≡ 0 → length text ≡ 512 * i + len → take len block ≡ drop (512 * i) text
front_none text block i len none size =
    let a : length (take len block) ≡ 0 = omega (arith, length-take len block, none) in
    let b : length (drop (512 * i) text) ≡ 0 = omega (arith, length-drop (512 * i) text, size, none) in
    ext_get_or 0 (take len block) (drop (512 * i) text) (a ∙ sym b) (λ k lt. absurd (omega (arith, lt, a)))
