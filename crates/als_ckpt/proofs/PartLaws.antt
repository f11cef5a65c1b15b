-- The bytes of a checkpoint in the blocks of a region.
use Rattle.std.proofs.Common.{◌≡◌, ℕ, ◌+◌, ◌-◌, ◌*◌, ◌/◌, ◌%◌, ◌<◌, ◌≤◌, List, [], ◌++◌, length, take, drop, replicate, refl, sym, ap, subst, ◌∙◌, arith, inl, inr}
use Rattle.std.specs.Prelude.{slice_index, Contains}
use Rattle.std.proofs.lemmas.Bool.{cases_lt}
use Rattle.std.proofs.lemmas.List.{ext_get_or, get_or_append_left, get_or-drop, get_or-take, length-append, length-drop, length-take, take-append-drop, take-append-le, take_all, drop-append-le, drop_at}
use Rattle.als_disk.specs.Slot.{Slot, only, IsSettled, SameBlocks, HoldsBlocks, GivesCandidates}
use Rattle.als_disk.specs.SlotLaws.{Contains-one}
use Rattle.als_ckpt_codec.specs.declared.checkpoint.Checkpoint.{Checkpoint}
use Rattle.als_ckpt_codec.specs.Checkpoint.{checkpoint_bytes, BeginsWith}
use Rattle.als_ckpt_codec.proofs.CheckpointLaws.{length-checkpoint_bytes}
use Rattle.als_ckpt.specs.declared.region.Region.{Region}
use Rattle.als_ckpt.specs.Regions.{first_block, padded, part_of, blocks_for, blocks_of, HasPart, HoldsCheckpoint}
use Rattle.als_ckpt.specs.Reading.{StandIn}
use Rattle.als_ckpt.proofs.StateLaws.{Contains-head}

-- a block with zeros behind its part has the part
pub HasPart-part_of : (bytes : List ℕ) (b : ℕ) (content : List ℕ) → content ≡ part_of bytes b → HasPart bytes b content
unfolding padded
HasPart-part_of bytes b content is o lt below =
    let front = take 512 (drop (512 * b) bytes) in
    let inside : o < length front = omega (arith, length-take 512 (drop (512 * b) bytes), length-drop (512 * b) bytes, lt, below) in
    ap (λ (xs : List ℕ). slice_index xs o) is
    ∙ get_or_append_left front (replicate (512 - length front) 0) 0 o inside
    ∙ get_or-take 512 (drop (512 * b) bytes) o 0 lt ∙ get_or-drop (512 * b) bytes o 0

-- ---- the first block

-- one content of a checkpoint's first block begins with the checkpoint's first bytes
front_is : (bytes block : List ℕ) → 40 ≤ length bytes → length block ≡ 512 → HasPart bytes 0 block → block ≡ take 40 bytes ++ drop 40 block
front_is bytes block long whole has =
    let same : take 40 block ≡ take 40 bytes =
    ext_get_or 0 (take 40 block) (take 40 bytes) (omega (arith, length-take 40 block, length-take 40 bytes, whole, long)) (λ k lt.
    let below : k < 40 = omega (arith, lt, length-take 40 block) in
    let inside : 512 * 0 + k < length bytes = omega (arith, below, long) in
    let place : 512 * 0 + k ≡ k = omega arith in
    get_or-take 40 block k 0 below ∙ has k (omega (arith, below)) inside ∙ ap (slice_index bytes) place ∙ sym (get_or-take 40 bytes k 0 below)) in
    sym (take-append-drop 40 block) ∙ ap (λ (xs : List ℕ). xs ++ drop 40 block) same

pub front_read : (slots : ℕ → Slot) (first : ℕ) (block : List ℕ) (c : Checkpoint) → GivesCandidates slots → HoldsBlocks slots → Contains (slots first).readable block
    → ((content : List ℕ) → Contains (slots first).candidates content → HasPart (checkpoint_bytes c) 0 content) → block ≡ take 40 (checkpoint_bytes c) ++ drop 40 block
front_read slots first block c gives holds read parts =
    let candidate : Contains (slots first).candidates block = gives.candidates first block read in
    front_is (checkpoint_bytes c) block (omega (arith, length-checkpoint_bytes c)) (holds first block candidate).len (parts block candidate)

pub parts-first : (slots : ℕ → Slot) (region : Region) (first : ℕ) (c : Checkpoint) → first ≡ first_block region → HoldsCheckpoint slots region c
    → (content : List ℕ) → Contains (slots first).candidates content → HasPart (checkpoint_bytes c) 0 content
unfolding blocks_for
parts-first slots region first c at holds content has =
    let place : first ≡ first_block region + 0 = omega (arith, at) in
    let some : 0 < (length (checkpoint_bytes c) + 511) / 512 = omega (arith, length-checkpoint_bytes c) in
    holds.parts 0 some content (subst (λ (n : ℕ). Contains (slots n).candidates content) place has)

pub blocks_for-most : (len : ℕ) → (40 ≤ len) × (len ≤ 54568) → (1 ≤ blocks_for len) × (blocks_for len ≤ 107)
unfolding blocks_for
blocks_for-most len (least, most) = (omega (arith, least), omega (arith, most))

-- ---- blocks that were read

pub settled_same : (old new : ℕ → Slot) → SameBlocks old new → ((k : ℕ) → IsSettled (old k)) → (k : ℕ) → IsSettled (new k)
settled_same old new same settled k = subst IsSettled (sym (same k)) (settled k)

pub StandIn-same : (old new : ℕ → Slot) (first count : ℕ) (bytes : List ℕ) → SameBlocks old new → StandIn new first count bytes → StandIn old first count bytes
StandIn-same old new first count bytes same stands = record { len = stands.len; blocks = λ k lt. sym (same (first + k)) ∙ stands.blocks k lt }

-- a block with one content gives that one
pub settled_is : (slot : Slot) (content : List ℕ) → IsSettled slot → Contains slot.readable content → slot ≡ only content
settled_is slot content (one, is) has = let same : one ≡ content = Contains-one (subst (λ (s : Slot). Contains s.readable content) is has) in is ∙ ap only same

pub StandIn-none : (slots : ℕ → Slot) (first : ℕ) → StandIn slots first 0 []
StandIn-none slots first = record { len = refl; blocks = λ k lt. absurd (omega (arith, lt)) }

pub StandIn-push : (slots : ℕ → Slot) (first count : ℕ) (bytes block : List ℕ) → StandIn slots first count bytes → length block ≡ 512 → slots (first + count) ≡ only block
    → StandIn slots first (count + 1) (bytes ++ block)
StandIn-push slots first count bytes block stands whole last = record {
  len = (let len : length bytes ≡ 512 * count = stands.len in omega (arith, length-append bytes block, len, whole));
  blocks = λ k lt.
      let len : length bytes ≡ 512 * count = stands.len in
      elim (cases_lt k count) [
        | inl below ↦
            let inside : 512 * k ≤ length bytes = omega (arith, below, len) in
            let long : 512 ≤ length (drop (512 * k) bytes) = omega (arith, below, len, length-drop (512 * k) bytes) in
            stands.blocks k below ∙ ap only (sym (ap (take 512) (drop-append-le (512 * k) bytes block inside) ∙ take-append-le 512 (drop (512 * k) bytes) block long))
        | inr le ↦
            let here : k ≡ count = omega (arith, lt, le) in
            let end : length bytes ≡ 512 * k = omega (arith, len, here) in
            let piece : take 512 (drop (512 * k) (bytes ++ block)) ≡ block = ap (take 512) (drop_at bytes block (512 * k) end) ∙ take_all 512 block (omega (arith, whole)) in
            ap (λ (n : ℕ). slots (first + n)) here ∙ last ∙ ap only (sym piece)
      ];
}

-- the content of one of them
content_of : (slots : ℕ → Slot) (first count : ℕ) (bytes : List ℕ) (b : ℕ) (content : List ℕ) → StandIn slots first count bytes → b < count → Contains (slots (first + b)).candidates content
    → content ≡ take 512 (drop (512 * b) bytes)
content_of slots first count bytes b content stands lt has = sym (Contains-one (subst (λ (s : Slot). Contains s.candidates content) (stands.blocks b lt) has))

byte_of : (bytes : List ℕ) (b o : ℕ) → o < 512 → slice_index (take 512 (drop (512 * b) bytes)) o ≡ slice_index bytes (512 * b + o)
byte_of bytes b o lt = get_or-take 512 (drop (512 * b) bytes) o 0 lt ∙ get_or-drop (512 * b) bytes o 0

-- a checkpoint at their front is in these blocks
parts_found : (slots : ℕ → Slot) (first count : ℕ) (bytes spelled rest : List ℕ) → StandIn slots first count bytes → bytes ≡ spelled ++ rest
    → (b : ℕ) → b < blocks_for (length spelled) → (content : List ℕ) → Contains (slots (first + b)).candidates content → HasPart spelled b content
unfolding blocks_for
parts_found slots first count bytes spelled rest stands is b lt content has o inside below =
    let len : length bytes ≡ 512 * count = stands.len in
    let fits : length bytes ≡ length spelled + length rest = ap length is ∙ length-append spelled rest in
    let under : b < count = omega (arith, lt, len, fits) in
    ap (λ (xs : List ℕ). slice_index xs o) (content_of slots first count bytes b content stands under has)
    ∙ byte_of bytes b o inside ∙ ap (λ (xs : List ℕ). slice_index xs (512 * b + o)) is ∙ get_or_append_left spelled rest 0 (512 * b + o) below

few_found : (count : ℕ) (bytes spelled rest : List ℕ) → length bytes ≡ 512 * count → bytes ≡ spelled ++ rest → blocks_for (length spelled) ≤ count
unfolding blocks_for
few_found count bytes spelled rest len is =
    let fits : length bytes ≡ length spelled + length rest = ap length is ∙ length-append spelled rest in
    omega (arith, len, fits)

-- a checkpoint in these blocks is at their front
front_found : (slots : ℕ → Slot) (first count : ℕ) (bytes spelled : List ℕ) → StandIn slots first count bytes → blocks_for (length spelled) ≤ count
    → ((b : ℕ) → b < blocks_for (length spelled) → (content : List ℕ) → Contains (slots (first + b)).candidates content → HasPart spelled b content)
    → bytes ≡ spelled ++ drop (length spelled) bytes
unfolding blocks_for
front_found slots first count bytes spelled stands few parts =
    let n = length spelled in
    let len : length bytes ≡ 512 * count = stands.len in
    let same : take n bytes ≡ spelled =
    ext_get_or 0 (take n bytes) spelled (omega (arith, length-take n bytes, len, few)) (λ k lt.
    let below : k < n = omega (arith, lt, length-take n bytes) in
    let b = k / 512 in
    let o = k % 512 in
    let column : o < 512 = omega arith in
    let place : 512 * b + o ≡ k = omega arith in
    let row : b < (n + 511) / 512 = omega (arith, below) in
    let under : b < count = omega (arith, row, few) in
    let inside : 512 * b + o < n = omega (arith, below, place) in
    let there : Contains (slots (first + b)).candidates (take 512 (drop (512 * b) bytes)) =
    subst (λ (s : Slot). Contains s.candidates (take 512 (drop (512 * b) bytes))) (sym (stands.blocks b under)) (Contains-head (take 512 (drop (512 * b) bytes)) []) in
    get_or-take n bytes k 0 below ∙ ap (slice_index bytes) (sym place) ∙ sym (byte_of bytes b o column)
    ∙ parts b row (take 512 (drop (512 * b) bytes)) there o column inside ∙ ap (slice_index spelled) place) in
    sym (take-append-drop n bytes) ∙ ap (λ (xs : List ℕ). xs ++ drop n bytes) same

-- the same for a region
module _ (slots : ℕ → Slot) (region : Region) (first count : ℕ) (bytes : List ℕ) (c : Checkpoint) (at : first ≡ first_block region) (stands : StandIn slots first count bytes) where
  pub holds_found : count ≤ 107 → BeginsWith bytes c → HoldsCheckpoint slots region c
  holds_found most begins =
      let few : blocks_for (length (checkpoint_bytes c)) ≤ count = few_found count bytes (checkpoint_bytes c) begins.rest stands.len begins.spelled in
      record {
        few = omega (arith, few, most);
        parts = λ b lt content has. parts_found slots first count bytes (checkpoint_bytes c) begins.rest stands begins.spelled b lt content
            (subst (λ (n : ℕ). Contains (slots (n + b)).candidates content) (sym at) has);
      }

  pub begins_held : count ≡ blocks_of c → HoldsCheckpoint slots region c → BeginsWith bytes c
  begins_held same holds = record {
    rest = drop (length (checkpoint_bytes c)) bytes;
    spelled = front_found slots first count bytes (checkpoint_bytes c) stands (omega (arith, same))
        (λ b lt content has. holds.parts b lt content (subst (λ (n : ℕ). Contains (slots (n + b)).candidates content) at has));
  }
