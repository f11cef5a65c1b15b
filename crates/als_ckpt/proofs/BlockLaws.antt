-- Laws of a control block.
use Rattle.std.proofs.Common.{◌≡◌, ℕ, ◌-◌, ◌*◌, ◌^◌, ◌<◌, ◌≤◌, List, ◌++◌, length, slice_index, take, drop, replicate, refl, sym, ap, ap₂, ◌∙◌, arith, inl, inr, Option, None, Some}
use Rattle.std.proofs.lemmas.List.{drop-replicate}
use Rattle.std.specs.Int.{w32, w64, to_be_bytes}
use Rattle.byteorder.specs.Endian.{big_number}
use Rattle.byteorder.specs.Numbers.{big_number-reads_back}
use Rattle.als_ckpt.specs.declared.phase.Phase.{Phase}
use Rattle.als_ckpt.specs.declared.phase.Phase.TheVariants.{Following, Sealed, Primary}
use Rattle.als_ckpt.specs.declared.region.Region.{Region}
use Rattle.als_ckpt.specs.declared.region.Region.TheVariants.{First, Second}
use Rattle.als_ckpt.specs.declared.control_state.ControlState.{ControlState}
use Rattle.als_ckpt.specs.Control.{phase_byte, region_byte, control_head, history_part, control_block, version_1_block, implied_history, Spells, IsPosition, IsSeal, IsControlState}
use Rattle.als_epochs.specs.Histories.{IsHistory, seals_bytes}
use Rattle.als_epochs.proofs.SealBytes.{history-again}

-- a state by its fields
pub state_of_fields : (s : ControlState) (phase : Phase) (published : Option Region) (mark position seal : ℕ) (history : List ℕ)
    → phase ≡ s.phase → published ≡ s.published → mark ≡ s.mark.0 → position ≡ s.position.0 → seal ≡ s.seal.0 → history ≡ s.history
    → ◌≡◌ {A = ControlState} (record { phase = phase; published = published; mark = record { 0 = mark }; position = record { 0 = position }; seal = record { 0 = seal }; history = history }) s
state_of_fields s phase published mark position seal history e1 e2 e3 e4 e5 e6 = rw (e1, e2, e3, e4, e5, e6) refl

-- neither position nor seal is above the mark
IsPosition-le : (published : Option Region) (mark position : ℕ) → IsPosition published mark position → position ≤ mark
IsPosition-le None mark position h = omega (arith, h)
IsPosition-le (Some region) mark position h = h.1

IsSeal-le : (phase : Phase) (mark seal : ℕ) → IsSeal phase mark seal → seal ≤ mark
IsSeal-le Following mark seal h = omega (arith, h)
IsSeal-le Sealed mark seal h = h.1
IsSeal-le Primary mark seal h = h.1

module _ (log_bytes : ℕ) (s : ControlState) (small : log_bytes < 2 ^ 64) (h : IsControlState log_bytes s) where
  pub mark_fits : s.mark.0 < 2 ^ 64
  mark_fits = let le : s.mark.0 ≤ log_bytes = h.in_log in omega (arith, le, small)

  pub position_fits : s.position.0 < 2 ^ 64
  position_fits =
      let le : s.mark.0 ≤ log_bytes = h.in_log in
      let at : s.position.0 ≤ s.mark.0 = IsPosition-le s.published s.mark.0 s.position.0 h.position in
      omega (arith, le, at, small)

  pub seal_fits : s.seal.0 < 2 ^ 64
  seal_fits =
      let le : s.mark.0 ≤ log_bytes = h.in_log in
      let at : s.seal.0 ≤ s.mark.0 = IsSeal-le s.phase s.mark.0 s.seal.0 h.seal in
      omega (arith, le, at, small)

module _ (version : ℕ) (block : List ℕ) (pages : ℕ) (s : ControlState) (rest : List ℕ) (is : block ≡ control_head version pages s ++ rest) where
  -- the fields of a control block, read at their places
  pub version-block : slice_index block 9 ≡ version
  unfolding control_head
  version-block = ap (λ (xs : List ℕ). slice_index xs 9) is

  pub phase-block : slice_index block 10 ≡ phase_byte s.phase
  unfolding control_head
  phase-block = ap (λ (xs : List ℕ). slice_index xs 10) is

  pub region-block : slice_index block 11 ≡ region_byte s.published
  unfolding control_head
  region-block = ap (λ (xs : List ℕ). slice_index xs 11) is

  pub pages-block : pages < 2 ^ 32 → big_number 4 (drop 12 block) ≡ pages
  unfolding control_head
  pages-block fits =
      ap (λ (xs : List ℕ). big_number 4 (drop 12 xs)) is
      ∙ big_number-reads_back 4 pages (to_be_bytes w64 s.mark.0 ++ (to_be_bytes w64 s.position.0 ++ (to_be_bytes w64 s.seal.0 ++ rest))) fits

  pub mark-block : s.mark.0 < 2 ^ 64 → big_number 8 (drop 16 block) ≡ s.mark.0
  unfolding control_head
  mark-block fits =
      ap (λ (xs : List ℕ). big_number 8 (drop 16 xs)) is
      ∙ big_number-reads_back 8 s.mark.0 (to_be_bytes w64 s.position.0 ++ (to_be_bytes w64 s.seal.0 ++ rest)) fits

  pub position-block : s.position.0 < 2 ^ 64 → big_number 8 (drop 24 block) ≡ s.position.0
  unfolding control_head
  position-block fits =
      ap (λ (xs : List ℕ). big_number 8 (drop 24 xs)) is
      ∙ big_number-reads_back 8 s.position.0 (to_be_bytes w64 s.seal.0 ++ rest) fits

  pub seal-block : s.seal.0 < 2 ^ 64 → big_number 8 (drop 32 block) ≡ s.seal.0
  unfolding control_head
  seal-block fits =
      ap (λ (xs : List ℕ). big_number 8 (drop 32 xs)) is
      ∙ big_number-reads_back 8 s.seal.0 rest fits

  -- and what stands behind them
  pub rest-block : drop 40 block ≡ rest
  unfolding control_head
  rest-block = ap (λ (xs : List ℕ). drop 40 xs) is

module _ (rest seals : List ℕ) (is : rest ≡ history_part seals) where
  pub epoch-part : length seals < 2 ^ 32 → big_number 4 rest ≡ length seals
  unfolding history_part
  epoch-part fits =
      ap (λ (xs : List ℕ). big_number 4 xs) is
      ∙ big_number-reads_back 4 (length seals) (replicate 4 0 ++ (seals_bytes seals ++ replicate (464 - 8 * length seals) 0)) fits

  pub seals-part : drop 8 rest ≡ seals_bytes seals ++ replicate (464 - 8 * length seals) 0
  unfolding history_part
  seals-part = ap (λ (xs : List ℕ). drop 8 xs) is

-- a history as it is written over zeros
pub history_part-written : (seals out epoch at_seals : List ℕ) → epoch ≡ to_be_bytes w32 (length seals) ++ drop 4 (replicate 472 0) → at_seals ≡ drop 8 epoch
    → out ≡ seals_bytes seals ++ drop (8 * length seals) at_seals → take 8 epoch ++ out ≡ history_part seals
unfolding history_part
history_part-written seals out epoch at_seals written split told =
    let zeros : at_seals ≡ replicate 464 0 = split ∙ ap (λ (xs : List ℕ). drop 8 xs) written in
    let behind : drop (8 * length seals) at_seals ≡ replicate (464 - 8 * length seals) 0 =
    ap (λ (xs : List ℕ). drop (8 * length seals) xs) zeros ∙ drop-replicate (8 * length seals) 464 0 in
    let front : take 8 epoch ≡ to_be_bytes w32 (length seals) ++ replicate 4 0 = ap (λ (xs : List ℕ). take 8 xs) written in
    ap₂ (λ (xs ys : List ℕ). xs ++ ys) front (told ∙ ap (λ (xs : List ℕ). seals_bytes seals ++ xs) behind)

-- a byte stands for one phase, and for one region
phase_byte-one : (a b : Phase) → phase_byte a ≡ phase_byte b → a ≡ b
phase_byte-one Following Following e = refl
phase_byte-one Following Sealed e = absurd cc
phase_byte-one Following Primary e = absurd cc
phase_byte-one Sealed Following e = absurd cc
phase_byte-one Sealed Sealed e = refl
phase_byte-one Sealed Primary e = absurd cc
phase_byte-one Primary Following e = absurd cc
phase_byte-one Primary Sealed e = absurd cc
phase_byte-one Primary Primary e = refl

region_byte-one : (a b : Option Region) → region_byte a ≡ region_byte b → a ≡ b
region_byte-one None None e = refl
region_byte-one None (Some First) e = absurd cc
region_byte-one None (Some Second) e = absurd cc
region_byte-one (Some First) None e = absurd cc
region_byte-one (Some First) (Some First) e = refl
region_byte-one (Some First) (Some Second) e = absurd cc
region_byte-one (Some Second) None e = absurd cc
region_byte-one (Some Second) (Some First) e = absurd cc
region_byte-one (Some Second) (Some Second) e = refl

-- What stands in a block that spells a state.
pub record HasFields (s : ControlState) (block : List ℕ) : Type 0 where
  pub phase : slice_index block 10 ≡ phase_byte s.phase
  pub region : slice_index block 11 ≡ region_byte s.published
  pub mark : big_number 8 (drop 16 block) ≡ s.mark.0
  pub position : big_number 8 (drop 24 block) ≡ s.position.0
  pub seal : big_number 8 (drop 32 block) ≡ s.seal.0

head-fields : (version log_bytes pages : ℕ) (s : ControlState) (block rest : List ℕ) → log_bytes < 2 ^ 64 → IsControlState log_bytes s
    → block ≡ control_head version pages s ++ rest → HasFields s block
head-fields version log_bytes pages s block rest small fits is = record {
  phase = phase-block version block pages s rest is;
  region = region-block version block pages s rest is;
  mark = mark-block version block pages s rest is (mark_fits log_bytes s small fits);
  position = position-block version block pages s rest is (position_fits log_bytes s small fits);
  seal = seal-block version block pages s rest is (seal_fits log_bytes s small fits);
}

pub Spells-fields : (log_bytes pages : ℕ) (s : ControlState) (block : List ℕ) → log_bytes < 2 ^ 64 → IsControlState log_bytes s → Spells pages s block → HasFields s block
Spells-fields log_bytes pages s block small fits (inl is) = head-fields 2 log_bytes pages s block (history_part s.history) small fits is
Spells-fields log_bytes pages s block small fits (inr (is, implied)) = head-fields 1 log_bytes pages s block (replicate 472 0) small fits is

-- blocks of two versions differ
two_versions : {A : Type 0} (content : List ℕ) (m n : ℕ) (s t : ControlState) → content ≡ control_block m s → content ≡ version_1_block n t → A
two_versions content m n s t es et =
    absurd (omega (arith, version-block 2 content m s (history_part s.history) es, version-block 1 content n t (replicate 472 0) et))

-- two states that a block spells in one version, but for their histories
module _ (version log_bytes m n : ℕ) (s t : ControlState) (content left right : List ℕ) (small : log_bytes < 2 ^ 64)
    (hs : IsControlState log_bytes s) (ht : IsControlState log_bytes t)
    (es : content ≡ control_head version m s ++ left) (et : content ≡ control_head version n t ++ right) where
  one_count : m < 2 ^ 32 → n < 2 ^ 32 → m ≡ n
  one_count small_m small_n = sym (pages-block version content m s left es small_m) ∙ pages-block version content n t right et small_n

  one_phase : s.phase ≡ t.phase
  one_phase = phase_byte-one s.phase t.phase (sym (phase-block version content m s left es) ∙ phase-block version content n t right et)

  one_seal : s.seal.0 ≡ t.seal.0
  one_seal = sym (seal-block version content m s left es (seal_fits log_bytes s small hs)) ∙ seal-block version content n t right et (seal_fits log_bytes t small ht)

  one_of_fields : s.history ≡ t.history → s ≡ t
  one_of_fields same =
      state_of_fields t s.phase s.published s.mark.0 s.position.0 s.seal.0 s.history one_phase
      (region_byte-one s.published t.published (sym (region-block version content m s left es) ∙ region-block version content n t right et))
      (sym (mark-block version content m s left es (mark_fits log_bytes s small hs)) ∙ mark-block version content n t right et (mark_fits log_bytes t small ht))
      (sym (position-block version content m s left es (position_fits log_bytes s small hs)) ∙ position-block version content n t right et (position_fits log_bytes t small ht))
      one_seal same

-- a history part is that of one history
one_history : (hs ht : List ℕ) → IsHistory hs → IsHistory ht → history_part hs ≡ history_part ht → hs ≡ ht
one_history hs ht is it e =
    let few_s : length hs ≤ 32 = is.few in
    let few_t : length ht ≤ 32 = it.few in
    let len : length hs ≡ length ht =
    sym (epoch-part (history_part hs) hs refl (omega (arith, few_s))) ∙ epoch-part (history_part hs) ht e (omega (arith, few_t)) in
    history-again hs ht (replicate (464 - 8 * length hs) 0) (replicate (464 - 8 * length ht) 0) (drop 8 (history_part hs)) is it len
    (sym (seals-part (history_part hs) hs refl)) (seals-part (history_part hs) ht e)

-- a block spells at most one state, of one page count
pub Spells-one_state : (log_bytes m n : ℕ) (s t : ControlState) (content : List ℕ) → log_bytes < 2 ^ 64 → m < 2 ^ 32 → n < 2 ^ 32
    → IsControlState log_bytes s → IsControlState log_bytes t → Spells m s content → Spells n t content → (m ≡ n) × (s ≡ t)
Spells-one_state log_bytes m n s t content small small_m small_n hs ht (inl es) (inl et) =
    let left = history_part s.history in
    let right = history_part t.history in
    let same : s.history ≡ t.history =
    one_history s.history t.history hs.history ht.history (sym (rest-block 2 content m s left es) ∙ rest-block 2 content n t right et) in (
      one_count 2 log_bytes m n s t content left right small hs ht es et small_m small_n,
      one_of_fields 2 log_bytes m n s t content left right small hs ht es et same,
    )
Spells-one_state log_bytes m n s t content small small_m small_n hs ht (inl es) (inr (et, implied)) = two_versions content m n s t es et
Spells-one_state log_bytes m n s t content small small_m small_n hs ht (inr (es, implied)) (inl et) = two_versions content n m t s et es
Spells-one_state log_bytes m n s t content small small_m small_n hs ht (inr (es, said)) (inr (et, told)) =
    let zeros = replicate 472 0 in
    let phase = one_phase 1 log_bytes m n s t content zeros zeros small hs ht es et in
    let seal = one_seal 1 log_bytes m n s t content zeros zeros small hs ht es et in
    let same : s.history ≡ t.history = said ∙ ap₂ (λ (p : Phase) (x : ℕ). implied_history p x) phase seal ∙ sym told in (
      one_count 1 log_bytes m n s t content zeros zeros small hs ht es et small_m small_n,
      one_of_fields 1 log_bytes m n s t content zeros zeros small hs ht es et same,
    )

-- a spelled block is that of the one version or of the other
pub Spells-now : (pages : ℕ) (s : ControlState) (content : List ℕ) → control_block pages s ≡ content → Spells pages s content
Spells-now pages s content is = inl (sym is)
