-- No two pages with one number have one block.
use Rattle.std.proofs.Common.{◌≡◌, ℕ, ◌<◌, List, length, refl, sym, ap₂, ◌∙◌, inl, inr, arith}
use Rattle.std.proofs.lemmas.Bool.{cases_lt}
use Rattle.als_record.specs.Spelling.{Image}
use Rattle.als_record.specs.Pages.{PageState, IsPageState}
use Rattle.als_page.specs.Block.{block_of}
use Rattle.als_page.proofs.BlockLaws.{big_number-block_of, block_of-lsn, block_of-above}
use Rattle.als_page.proofs.SlotsLaws.{flat-injective}

pub block_of-injective : (id : ℕ) (a b : PageState) → IsPageState a → IsPageState b → block_of id a ≡ block_of id b → a ≡ b
block_of-injective id a b ha hb same =
    let lsn : a.lsn ≡ b.lsn = block_of-lsn id a.lsn (block_of id a) b hb same (sym (big_number-block_of id a ha)) in
    elim (cases_lt a.lsn 16) [
      | inl below ↦
          let below_b : b.lsn < 16 = omega (arith, lsn, below) in
          ha.nothing below ∙ sym (hb.nothing below_b)
      | inr above ↦
          let here = block_of-above id a.lsn (block_of id a) a ha refl (sym (big_number-block_of id a ha)) above in
          let there = block_of-above id a.lsn (block_of id a) b hb same (sym (big_number-block_of id a ha)) above in
          let count : length a.slots ≡ length b.slots = ha.count ∙ sym hb.count in
          let slots : a.slots ≡ b.slots = flat-injective a.slots b.slots count ha.images hb.images (sym here.1 ∙ there.1) in
          let make : ℕ → List Image → PageState = λ n xs. record { lsn = n; slots = xs } in
          ap₂ make lsn slots
    ]
