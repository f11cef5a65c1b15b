-- Laws of a page's block.
use Rattle.std.proofs.Common.{◌≡◌, ℕ, zero, suc, ◌<◌, ◌≤◌, ◌^◌, true, ◌&&◌, IsTrue, List, [], ◌∷◌, ◌++◌, length, take, drop, replicate, None, Some, is_none, nat_le, ◌==◌, refl, ap, ap₂, sym, ◌∙◌, arith, inl, inr, eqb-true, ne_eqb}
use Rattle.std.proofs.lemmas.Bool.{cond-false, or_cases, and_parts, leb-true, cases_lt}
use Rattle.std.proofs.lemmas.List.{take_at, drop_at}
use Rattle.std.specs.List.{flat_map, list_all}
use Rattle.std.specs.Int.{w32, to_be_bytes}
use Rattle.byteorder.specs.Endian.{big_number}
use Rattle.byteorder.specs.Numbers.{big_number-reads_back}
use Rattle.als_record.specs.Spelling.{Image}
use Rattle.als_record.specs.Pages.{PageState, empty_page, IsPageState}
use Rattle.als_page.specs.Block.{slot_bytes, head_bytes, block_of, is_page_lsn}

pub block_of-empty : (id : ℕ) → block_of id empty_page ≡ replicate 512 0
unfolding block_of
block_of-empty id = refl

-- the block of a page with a page_LSN
pub block_of-written : (id : ℕ) (page : PageState) → (page.lsn ≡ 0 → ⊥) → block_of id page ≡ head_bytes page.lsn id ++ flat_map slot_bytes page.slots
unfolding block_of
block_of-written id page some' =
    cond-false (page.lsn == 0) (replicate 512 0) (head_bytes page.lsn id ++ flat_map slot_bytes page.slots) (ne_eqb page.lsn 0 some')

length-head_bytes : (lsn id : ℕ) → length (head_bytes lsn id) ≡ 32
unfolding head_bytes
length-head_bytes lsn id = refl

big_number-head_bytes : (lsn id : ℕ) (rest : List ℕ) → lsn < 2 ^ 64 → big_number 8 (head_bytes lsn id ++ rest) ≡ lsn
unfolding head_bytes
big_number-head_bytes lsn id rest fits = big_number-reads_back 8 lsn (to_be_bytes w32 id ++ (0 ∷ 1 ∷ replicate 18 0) ++ rest) fits

-- a block begins with its page_LSN
pub big_number-block_of : (id : ℕ) (page : PageState) → IsPageState page → big_number 8 (block_of id page) ≡ page.lsn
big_number-block_of id page h =
    elim (cases_lt page.lsn 16) [
      | inl below ↦
          let empty : page ≡ empty_page = h.nothing below in
          ap (λ p. big_number 8 (block_of id p)) empty ∙ ap (big_number 8) (block_of-empty id) ∙ sym (ap (λ (p : PageState). p.lsn) empty)
      | inr above ↦
          ap (big_number 8) (block_of-written id page (λ none. omega arith)) ∙ big_number-head_bytes page.lsn id (flat_map slot_bytes page.slots) h.width
    ]

-- Bytes that are the block of a page, whose first number is lsn.
pub block_of-lsn : (id lsn : ℕ) (block : List ℕ) (page : PageState) → IsPageState page → block ≡ block_of id page → lsn ≡ big_number 8 block → lsn ≡ page.lsn
block_of-lsn id lsn block page h is read = read ∙ ap (big_number 8) is ∙ big_number-block_of id page h

pub block_of-below : (id lsn : ℕ) (block : List ℕ) (page : PageState) → IsPageState page → block ≡ block_of id page → lsn ≡ big_number 8 block → lsn < 16
    → (page ≡ empty_page) × (block ≡ replicate 512 0)
block_of-below id lsn block page h is read below =
    let same : lsn ≡ page.lsn = block_of-lsn id lsn block page h is read in
    let empty : page ≡ empty_page = h.nothing (omega (arith, same, below)) in
    (empty, is ∙ ap (block_of id) empty ∙ block_of-empty id)

pub block_of-above : (id lsn : ℕ) (block : List ℕ) (page : PageState) → IsPageState page → block ≡ block_of id page → lsn ≡ big_number 8 block → 16 ≤ lsn
    → (take 32 block ≡ head_bytes lsn id) × (drop 32 block ≡ flat_map slot_bytes page.slots)
block_of-above id lsn block page h is read above =
    let same : lsn ≡ page.lsn = block_of-lsn id lsn block page h is read in
    let slots = flat_map slot_bytes page.slots in
    let whole : block ≡ head_bytes page.lsn id ++ slots = is ∙ block_of-written id page (λ none. omega (arith, same, above, none)) in (
      ap (take 32) whole ∙ take_at (head_bytes page.lsn id) slots 32 (length-head_bytes page.lsn id) ∙ sym (ap (λ n. head_bytes n id) same),
      ap (drop 32) whole ∙ drop_at (head_bytes page.lsn id) slots 32 (length-head_bytes page.lsn id),
    )

-- a head and slots are a block
pub block_of-parts : (id lsn : ℕ) (slots : List Image) (head rest : List ℕ) → 16 ≤ lsn → head ≡ head_bytes lsn id → rest ≡ flat_map slot_bytes slots
    → head ++ rest ≡ block_of id (record { lsn = lsn; slots = slots })
block_of-parts id lsn slots head rest above eh er =
    ap₂ (λ xs ys. xs ++ ys) eh er ∙ sym (block_of-written id (record { lsn = lsn; slots = slots }) (λ none. omega (arith, above, none)))

all-none : (slots : List Image) (n : ℕ) → list_all is_none slots ≡ true → length slots ≡ n → slots ≡ replicate n None
all-none [] zero h len = refl
all-none [] (suc n) h len = absurd (omega arith)
all-none (x ∷ xs) zero h len = absurd (omega arith)
all-none (None ∷ xs) (suc n) h len = ap (λ ys. None ∷ ys) (all-none xs n h (omega arith))
all-none (Some v ∷ xs) (suc n) h len = absurd cc

-- a page_LSN below 16 is that of the empty page
pub is_page_lsn-below : (lsn : ℕ) (slots : List Image) → IsTrue (is_page_lsn lsn slots) → length slots ≡ 15 → lsn < 16
    → ◌≡◌ {A = PageState} (record { lsn = lsn; slots = slots }) empty_page
is_page_lsn-below lsn slots h len below =
    elim (or_cases (nat_le 16 lsn) ((lsn == 0) && list_all is_none slots) h) [
      | inl above ↦ absurd (omega (arith, leb-true 16 lsn above))
      | inr both ↦
          let (zero', none) = and_parts (lsn == 0) (list_all is_none slots) both in
          let make : ℕ → List Image → PageState = λ n xs. record { lsn = n; slots = xs } in
          ap₂ make (eqb-true lsn 0 zero') (all-none slots 15 none len)
    ]

pub is_page_lsn-zero : (lsn : ℕ) (slots : List Image) → IsTrue (is_page_lsn lsn slots) → length slots ≡ 15 → lsn ≡ 0
    → ◌≡◌ {A = PageState} (record { lsn = lsn; slots = slots }) empty_page
is_page_lsn-zero lsn slots h len is = let below : lsn < 16 = omega arith in is_page_lsn-below lsn slots h len below

-- a page_LSN that is not 0 is one at which a record can stand
pub is_page_lsn-above : (lsn : ℕ) (slots : List Image) → IsTrue (is_page_lsn lsn slots) → (lsn ≡ 0 → ⊥) → 16 ≤ lsn
is_page_lsn-above lsn slots h some' =
    elim (or_cases (nat_le 16 lsn) ((lsn == 0) && list_all is_none slots) h) [
      | inl above ↦ leb-true 16 lsn above
      | inr both ↦ let (zero', none) = and_parts (lsn == 0) (list_all is_none slots) both in absurd (some' (eqb-true lsn 0 zero'))
    ]
