-- What a write and a sync make of a mirror.
use Rattle.std.proofs.Common.{◌≡◌, ◌≢◌, ◌<◌, ◌≤◌, ◌+◌, ◌*◌, ◌/◌, ℕ, nat_eq, Bool, List, [], length, replicate, slice_set, refl, sym, ◌∙◌, ap, subst, inl, inr, arith, if◌then◌else◌}
use Rattle.std.proofs.lemmas.Bool.{cases_eq, cases_lt, eq-eqb}
use Rattle.std.proofs.lemmas.Bool.Decides.{eqb_tells}
use Rattle.std.proofs.lemmas.List.{get_or-set_same, get_or-set_other, get_or-replicate, get_or_past, length-replicate}
use Rattle.std.specs.Prelude.{Contains}
use Rattle.als_disk.specs.Slot.{Slot, only, written, IsBlock, HoldsBlocks, SameBlocksBut}
use Rattle.als_disk.specs.SlotLaws.{Contains-one}
use Rattle.als_disk.specs.Pieces.{content_at, piece_in, HoldNewest}
use Rattle.als_disk.specs.Store.{zeros}
use Rattle.als_disk.specs.declared.trail.Trail.{Trail}
use Rattle.als_disk.specs.declared.trail.Trail.TheVariants.{Start}
use Rattle.als_disk.specs.Trail.{slot_in, newest_in, candidate_in}
use Rattle.als_disk.proofs.Full.{HoldsBlocks-written, IsBlock-zeros}

-- a choice at a number: one way there, the other way elsewhere
if_here : {A : Type 0} (k i : ℕ) (x y z : A) → z ≡ (if nat_eq k i then x else y) → k ≡ i → z ≡ x
if_here {A} k i x y z is same = is ∙ ap (λ (b : Bool). if b then x else y) (eq-eqb k i same)

if_apart : {A : Type 0} (k i : ℕ) (x y z : A) → z ≡ (if nat_eq k i then x else y) → k ≢ i → z ≡ y
if_apart {A} k i x y z is apart = elim (eqb_tells k i) [
  | inl same ↦ absurd (apart same.1)
  | inr other ↦ is ∙ ap (λ (b : Bool). if b then x else y) other.0
]

module _ (old new : Trail) (i : ℕ) (block : List ℕ) where
  module _ (slots : (k : ℕ) → slot_in new k ≡ (if nat_eq k i then written (slot_in old k) block else slot_in old k)) where
    pub slot-here : slot_in new i ≡ written (slot_in old i) block
    slot-here = if_here i i (written (slot_in old i) block) (slot_in old i) (slot_in new i) (slots i) refl

    pub slot-others : SameBlocksBut i (slot_in old) (slot_in new)
    slot-others k apart = if_apart k i (written (slot_in old k) block) (slot_in old k) (slot_in new k) (slots k) apart

    pub contents-write : IsBlock block → HoldsBlocks (slot_in old) → HoldsBlocks (slot_in new)
    contents-write is_block blocks = HoldsBlocks-written (slot_in old) (slot_in new) blocks i block is_block slot-here slot-others

  module _ (lasts : (k : ℕ) → newest_in new k ≡ (if nat_eq k i then block else newest_in old k)) where
    newest-here : (k : ℕ) → k ≡ i → newest_in new k ≡ block
    newest-here k same = if_here k i block (newest_in old k) (newest_in new k) (lasts k) same

    newest-apart : (k : ℕ) → k ≢ i → newest_in new k ≡ newest_in old k
    newest-apart k apart = if_apart k i block (newest_in old k) (newest_in new k) (lasts k) apart

    -- the block's piece, with room for each of its blocks, takes the block
    pub HoldNewest-write : (first : ℕ) (pieces : List (List (List ℕ))) (piece : List (List ℕ)) (p at : ℕ) → i ≡ p * 128 + at → at < 128
        → p < length pieces → length piece ≡ 128
        → ((a : ℕ) → content_at piece a ≡ content_at (piece_in pieces p) a)
        → HoldNewest first pieces old → HoldNewest first (slice_set pieces p (slice_set piece at block)) new
    HoldNewest-write first pieces piece p at place within some room same holds q a kept below = elim (cases_eq q p) [
      | inl here ↦
          let lookup : piece_in (slice_set pieces p (slice_set piece at block)) q ≡ slice_set piece at block
          = subst (λ (n : ℕ). piece_in (slice_set pieces p (slice_set piece at block)) n ≡ slice_set piece at block) (sym here) (get_or-set_same pieces p (slice_set piece at block) [] some) in
          ap (λ (x : List (List ℕ)). content_at x a) lookup ∙ elim (cases_eq a at) [
            | inl same_at ↦
                let found : content_at (slice_set piece at block) a ≡ block
                = subst (λ (n : ℕ). content_at (slice_set piece at block) n ≡ block) (sym same_at) (get_or-set_same piece at block zeros (omega (arith, room, within))) in
                found ∙ sym (newest-here (q * 128 + a) (omega (arith, here, same_at, place)))
            | inr other_at ↦
                get_or-set_other piece at a block zeros other_at ∙ same a
                ∙ ap (λ (n : ℕ). content_at (piece_in pieces n) a) (sym here)
                ∙ holds q a kept below
                ∙ sym (newest-apart (q * 128 + a) (λ is. other_at (omega (arith, is, here, place))))
          ]
      | inr other ↦
          ap (λ (x : List (List ℕ)). content_at x a) (get_or-set_other pieces p q (slice_set piece at block) [] other)
          ∙ holds q a kept below
          ∙ sym (newest-apart (q * 128 + a) (λ is. other (omega (arith, is, place, below, within))))
    ]

    -- a block of a piece that is forgotten is in none that is kept
    pub HoldNewest-forgotten : (first : ℕ) (pieces : List (List (List ℕ))) → i / 128 < first → HoldNewest first pieces old → HoldNewest first pieces new
    HoldNewest-forgotten first pieces forgotten holds q a kept below =
        holds q a kept below ∙ sym (newest-apart (q * 128 + a) (λ is. absurd (omega (arith, is, forgotten, kept, below))))

-- a piece that is emptied keeps no block, and the others are as they were
module _ (pieces left : List (List (List ℕ))) (p q : ℕ) (emptied : left ≡ slice_set pieces p []) where
  pub piece_in-emptied : p < length pieces → q ≡ p → piece_in left q ≡ []
  piece_in-emptied some here =
      let none : List (List ℕ) = [] in
      ap (λ (xs : List (List (List ℕ))). piece_in xs q) emptied
      ∙ subst (λ (n : ℕ). piece_in (slice_set pieces p none) n ≡ none) (sym here) (get_or-set_same pieces p none none some)

  pub piece_in-others : q ≢ p → piece_in left q ≡ piece_in pieces q
  piece_in-others apart =
      let none : List (List ℕ) = [] in
      ap (λ (xs : List (List (List ℕ))). piece_in xs q) emptied ∙ get_or-set_other pieces p q none none apart

-- fewer pieces are kept, each with what it held
pub HoldNewest-fewer : (first next : ℕ) (pieces left : List (List (List ℕ))) (old new : Trail) → first ≤ next
    → ((p : ℕ) → next ≤ p → piece_in left p ≡ piece_in pieces p)
    → ((k : ℕ) → newest_in new k ≡ newest_in old k)
    → HoldNewest first pieces old → HoldNewest next left new
HoldNewest-fewer first next pieces left old new le same lasts holds p at kept below =
    ap (λ (x : List (List ℕ)). content_at x at) (same p kept) ∙ holds p at (omega (arith, le, kept)) below ∙ sym (lasts (p * 128 + at))

-- a piece with room for each of its blocks holds what it held
pub HoldNewest-same : (first : ℕ) (pieces : List (List (List ℕ))) (piece : List (List ℕ)) (p : ℕ) (trail : Trail) → p < length pieces
    → ((a : ℕ) → content_at piece a ≡ content_at (piece_in pieces p) a)
    → HoldNewest first pieces trail → HoldNewest first (slice_set pieces p piece) trail
HoldNewest-same first pieces piece p trail some same holds q a kept below = elim (cases_eq q p) [
  | inl here ↦
      let lookup : piece_in (slice_set pieces p piece) q ≡ piece = subst (λ (n : ℕ). piece_in (slice_set pieces p piece) n ≡ piece) (sym here) (get_or-set_same pieces p piece [] some) in
      ap (λ (x : List (List ℕ)). content_at x a) lookup ∙ same a ∙ ap (λ (n : ℕ). content_at (piece_in pieces n) a) (sym here) ∙ holds q a kept below
  | inr other ↦ ap (λ (x : List (List ℕ)). content_at x a) (get_or-set_other pieces p q piece [] other) ∙ holds q a kept below
]

-- a sync leaves of each block its last content, which is that of a block
pub contents-sync : (old new : Trail) → ((k : ℕ) → slot_in new k ≡ only (newest_in old k)) → HoldsBlocks (slot_in old) → HoldsBlocks (slot_in new)
contents-sync old new slots blocks k content has =
    let left = Contains-one (subst (λ (s : Slot). Contains s.candidates content) (slots k) has) in
    subst (λ (x : List ℕ). IsBlock x) left (blocks k (newest_in old k) (candidate_in old k))

-- a piece with none of its blocks gets each, of zeros
pub content-zeros : (piece blocks : List (List ℕ)) → length piece ≡ 0 → blocks ≡ replicate 128 zeros → (at : ℕ) → content_at blocks at ≡ content_at piece at
content-zeros piece blocks none all at = elim (cases_lt at 128) [
  | inl below ↦ ap (λ (x : List (List ℕ)). content_at x at) all ∙ get_or-replicate 128 at zeros zeros below ∙ sym (get_or_past piece at zeros (omega (arith, none)))
  | inr above ↦ ap (λ (x : List (List ℕ)). content_at x at) all ∙ get_or_past (replicate 128 zeros) at zeros (omega (arith, length-replicate 128 zeros, above)) ∙ sym (get_or_past piece at zeros (omega (arith, none)))
]

-- pieces of which none keeps a block are of zeros
content-empty : (n p at : ℕ) → content_at (piece_in (replicate n []) p) at ≡ zeros
content-empty n p at = let none : List (List ℕ) = [] in elim (cases_lt p n) [
  | inl below ↦ ap (λ (x : List (List ℕ)). content_at x at) (get_or-replicate n p [] [] below)
  | inr above ↦ ap (λ (x : List (List ℕ)). content_at x at) (get_or_past (replicate n []) p [] (omega (arith, length-replicate n none, above)))
]

pub HoldNewest-empty : (n : ℕ) → HoldNewest 0 (replicate n []) Start
unfolding newest_in
HoldNewest-empty n p at kept below = content-empty n p at

pub contents-empty : HoldsBlocks (slot_in Start)
unfolding slot_in
contents-empty k content has = subst (λ (x : List ℕ). IsBlock x) (Contains-one has) IsBlock-zeros

pub slot-start : (k : ℕ) → slot_in Start k ≡ only zeros
unfolding slot_in
slot-start k = refl
