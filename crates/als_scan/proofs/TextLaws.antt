-- The text of a device, block by block.
use Rattle.std.proofs.Common.{◌≡◌, ℕ, zero, suc, ◌+◌, ◌-◌, ◌*◌, ◌/◌, ◌%◌, ◌<◌, ◌≤◌, List, [], ◌∷◌, length, take, drop, refl, sym, ap, ap₂, subst, ◌∙◌, arith}
use Rattle.std.specs.Prelude.{Contains, slice_index, slice_index_or}
use Rattle.std.proofs.lemmas.List.{ext_get_or, get_or-take, get_or-drop, length-take, length-drop}
use Rattle.als_disk.specs.Slot.{Slot, IsSettled, SameBlocks, GivesCandidates, HoldsBlocks}
use Rattle.als_disk.specs.SlotLaws.{Contains-one}
use Rattle.als_log.specs.Held.{IsStored}
use Rattle.als_scan.specs.Texts.{byte_at, text_from, text_of, StandsBelow, slots_from, slot_in}

-- ---- the same blocks

byte_at-same : (old new : ℕ → Slot) → SameBlocks old new → (o : ℕ) → byte_at new o ≡ byte_at old o
unfolding byte_at
byte_at-same old new same o = ap (λ (s : Slot). slice_index (slice_index_or s.readable 0 []) (o % 512)) (same (o / 512))

pub text_from-same : (old new : ℕ → Slot) → SameBlocks old new → (at n : ℕ) → text_from new at n ≡ text_from old at n
unfolding text_from
text_from-same old new same at zero = refl
text_from-same old new same at (suc n) = ap₂ (λ b rest. b ∷ rest) (byte_at-same old new same at) (text_from-same old new same (suc at) n)

pub slots_from-same : (old new : ℕ → Slot) → SameBlocks old new → (i count : ℕ) → slots_from i count new ≡ slots_from i count old
unfolding slots_from
slots_from-same old new same i zero = refl
slots_from-same old new same i (suc count) = ap₂ (λ s rest. s ∷ rest) (same i) (slots_from-same old new same (suc i) count)

slots_from-at : (i count k : ℕ) (slots : ℕ → Slot) → k < count → slot_in (slots_from i count slots) k ≡ slots (i + k)
unfolding slots_from slot_in
slots_from-at i zero k slots lt = absurd (omega (arith, lt))
slots_from-at i (suc count) zero slots lt = ap slots (let e : i ≡ i + 0 = omega arith in e)
slots_from-at i (suc count) (suc k) slots lt = slots_from-at (suc i) count k slots (omega (arith, lt)) ∙ ap slots (let e : suc i + k ≡ i + suc k = omega arith in e)

pub slot_at : (count k : ℕ) (slots : ℕ → Slot) → k < count → slot_in (slots_from 0 count slots) k ≡ slots k
slot_at count k slots lt = slots_from-at 0 count k slots lt ∙ ap slots (let e : 0 + k ≡ k = omega arith in e)

pub stands-same : (old new : ℕ → Slot) (text : List ℕ) (mark : ℕ) → SameBlocks old new → StandsBelow old text mark → StandsBelow new text mark
stands-same old new text mark same s = record { has = λ b x has. s.has b x (subst (λ (slot : Slot). Contains slot.readable x) (same b) has); size = s.size }

-- ---- bytes

pub length-text_from : (slots : ℕ → Slot) (at n : ℕ) → length (text_from slots at n) ≡ n
unfolding text_from
length-text_from slots at zero = refl
length-text_from slots at (suc n) = ap suc (length-text_from slots (suc at) n)

text_from-at : (slots : ℕ → Slot) (at n k : ℕ) → k < n → slice_index (text_from slots at n) k ≡ byte_at slots (at + k)
unfolding text_from
text_from-at slots at zero k lt = absurd (omega (arith, lt))
text_from-at slots at (suc n) zero lt = ap (byte_at slots) (let e : at ≡ at + 0 = omega arith in e)
text_from-at slots at (suc n) (suc k) lt = text_from-at slots (suc at) n k (omega (arith, lt)) ∙ ap (byte_at slots) (let e : suc at + k ≡ at + suc k = omega arith in e)

text_at : (slots : ℕ → Slot) (mark k : ℕ) → k < mark → slice_index (text_of slots mark) k ≡ byte_at slots k
text_at slots mark k lt = text_from-at slots 0 mark k lt ∙ ap (byte_at slots) (let e : 0 + k ≡ k = omega arith in e)

-- a settled block is read as its one content
settled_read : (slots : ℕ → Slot) (b : ℕ) (x : List ℕ) → IsSettled (slots b) → Contains (slots b).readable x → slice_index_or (slots b).readable 0 [] ≡ x
settled_read slots b x (content, is) has =
    let one : content ≡ x = Contains-one (subst (λ (s : Slot). Contains s.readable x) is has) in
    ap (λ (s : Slot). slice_index_or s.readable 0 []) is ∙ one

only_kept : (slots : ℕ → Slot) (b : ℕ) (x : List ℕ) → IsSettled (slots b) → Contains (slots b).candidates x → Contains (slots b).readable x
only_kept slots b x (content, is) has = subst (λ (s : Slot). Contains s.readable x) (sym is) (subst (λ (s : Slot). Contains s.candidates x) is has)

read_byte : (slots : ℕ → Slot) (mark b o : ℕ) (x : List ℕ) → IsSettled (slots b) → Contains (slots b).readable x → o < 512 → 512 * b + o < mark → slice_index x o ≡ slice_index (text_of slots mark) (512 * b + o)
unfolding byte_at
read_byte slots mark b o x settled has lt below =
    let row : (512 * b + o) / 512 ≡ b = omega (arith, lt) in
    let column : (512 * b + o) % 512 ≡ o = omega (arith, lt) in
    sym (text_at slots mark (512 * b + o) below
    ∙ ap (λ n. slice_index (slice_index_or (slots n).readable 0 []) ((512 * b + o) % 512)) row
    ∙ ap (λ n. slice_index (slice_index_or (slots b).readable 0 []) n) column
    ∙ ap (λ (xs : List ℕ). slice_index xs o) (settled_read slots b x settled has))

-- ---- texts

-- a settled device has its text, whatever a read gives and whatever a crash leaves
pub settled_stands : (slots : ℕ → Slot) (mark : ℕ) → ((k : ℕ) → IsSettled (slots k)) → StandsBelow slots (text_of slots mark) mark
settled_stands slots mark settled = record {
  has = λ b x has o lt below. read_byte slots mark b o x (settled b) has lt below;
  size = length-text_from slots 0 mark;
}

pub settled_stored : (slots : ℕ → Slot) (mark : ℕ) (text : List ℕ) → ((k : ℕ) → IsSettled (slots k)) → text_of slots mark ≡ text → IsStored slots text mark mark
settled_stored slots mark text settled e = record {
  kept = λ b x has o lt below. read_byte slots mark b o x (settled b) (only_kept slots b x (settled b) has) lt below ∙ ap (λ (xs : List ℕ). slice_index xs (512 * b + o)) e;
  stored = λ b x has o lt below. read_byte slots mark b o x (settled b) has lt below ∙ ap (λ (xs : List ℕ). slice_index xs (512 * b + o)) e;
}

pub block_len : (slots : ℕ → Slot) → GivesCandidates slots → HoldsBlocks slots → (b : ℕ) (x : List ℕ) → Contains (slots b).readable x → length x ≡ 512
block_len slots gives holds b x has = (holds b x (gives.candidates b x has)).len

-- a part of a block that was read is that part of the text
pub piece_is : (slots : ℕ → Slot) (text : List ℕ) (mark at size : ℕ) (block : List ℕ) → StandsBelow slots text mark → Contains (slots (at / 512)).readable block → length block ≡ 512
    → at % 512 + size ≤ 512 → at + size ≤ mark → take (at % 512 + size - at % 512) (drop (at % 512) block) ≡ take size (drop at text)
piece_is slots text mark at size block stands has whole inside within =
    let same_size : at % 512 + size - at % 512 ≡ size = omega arith in
    let piece = take size (drop (at % 512) block) in
    let len : length piece ≡ size = omega (arith, length-take size (drop (at % 512) block), length-drop (at % 512) block, whole, inside) in
    let other : length (take size (drop at text)) ≡ size = omega (arith, length-take size (drop at text), length-drop at text, within, stands.size) in
    ap (λ n. take n (drop (at % 512) block)) same_size
    ∙ ext_get_or 0 piece (take size (drop at text)) (len ∙ sym other) (λ k lt.
    let below : k < size = omega (arith, lt, len) in
    let place : 512 * (at / 512) + (at % 512 + k) ≡ at + k = omega arith in
    let column : at % 512 + k < 512 = omega (arith, below, inside) in
    let under : 512 * (at / 512) + (at % 512 + k) < mark = omega (arith, below, within) in
    get_or-take size (drop (at % 512) block) k 0 below ∙ get_or-drop (at % 512) block k 0 ∙ stands.has (at / 512) block has (at % 512 + k) column under
    ∙ ap (slice_index text) place ∙ sym (get_or-take size (drop at text) k 0 below ∙ get_or-drop at text k 0))

-- the first 16 bytes
pub header_is : (slots : ℕ → Slot) (text : List ℕ) (mark : ℕ) (block : List ℕ) → StandsBelow slots text mark → Contains (slots 0).readable block → length block ≡ 512 → 16 ≤ mark → take 16 block ≡ take 16 text
header_is slots text mark block stands has whole low = piece_is slots text mark 0 16 block stands has whole (omega arith) (omega (arith, low))
