-- What changing, writing and syncing pages does, by its parts.
use Rattle.std.proofs.Common.{◌≡◌, ◌≢◌, ℕ, ◌<◌, List, length, Option, Some, None, nat_eq, inl, inr, sym, ap, subst, ◌∙◌, arith}
use Rattle.std.specs.Map.{lookup}
use Rattle.std.proofs.lemmas.Bool.Decides.{eqb_tells}
use Rattle.als_disk.specs.Slot.{Slot, KeepsReadable, SameBlocksBut}
use Rattle.als_frames.specs.Frames.{Framed, Paged, slots_from, slot_in}
use Rattle.als_frames.specs.Kept.{IsKept}
use Rattle.als_frames.specs.Outcomes.{SetsFrame}
use Rattle.als_frames.specs.Table.{Puts}
use Rattle.als_frames.proofs.SlotsLaws.{slot_at, slot_others}

-- the frame of a page that has one is another one
pub kept-puts : (pages most blocks : ℕ) (old new : List (ℕ × Framed)) (page : ℕ) (f : Framed) → IsKept pages most blocks old → Puts old new page f → length new ≡ length old
    → f.id ≡ page → page < pages → IsKept pages most blocks new
kept-puts pages most blocks old new page f h puts len id lt = record {
  stored = h.stored;
  few = omega (arith, h.few, len);
  numbered = λ other found here.
      elim (eqb_tells other page) [
        | inl same ↦
            let is : found ≡ f = some-one found f (sym here ∙ ap (λ n. lookup (nat_eq n) new) same.1 ∙ puts.frame) in
            (ap (λ (x : Framed). x.id) is ∙ id ∙ sym same.1, omega (arith, same.1, lt))
        | inr apart ↦ h.numbered other found (sym (puts.others other apart.1) ∙ here)
      ];
}
  where
    get_or_it : Framed → Option Framed → Framed
    get_or_it d None = d
    get_or_it d (Some x) = x

    some-one : (a b : Framed) → Some a ≡ Some b → a ≡ b
    some-one a b e = ap (get_or_it a) e

pub sets : (old new : Paged) (page : ℕ) (f : Framed) → Puts old.frames new.frames page f → length new.frames ≡ length old.frames → SetsFrame old new page f
sets old new page f puts len = record { frame = puts.frame; others = puts.others; used = len }

-- a block is changed
pub changes_slot : (count page at : ℕ) (old new : ℕ → Slot) (changes : Slot → Slot → Type 0) → at ≡ page → page < count → changes (old at) (new at) → SameBlocksBut at old new
    → changes (slot_in (slots_from 0 count old) page) (slot_in (slots_from 0 count new) page)
    × ((other : ℕ) → other ≢ page → slot_in (slots_from 0 count new) other ≡ slot_in (slots_from 0 count old) other)
changes_slot count page at old new changes is lt change others =
    let before : slot_in (slots_from 0 count old) page ≡ old at = slot_at count page old lt ∙ ap old (sym is) in
    let after : slot_in (slots_from 0 count new) page ≡ new at = slot_at count page new lt ∙ ap new (sym is) in (
      subst (λ (s : Slot). changes s (slot_in (slots_from 0 count new) page)) (sym before) (subst (λ (s : Slot). changes (old at) s) (sym after) change),
      λ other ne. slot_others count at other old new others (λ e. ne (e ∙ is)),
    )

-- a sync leaves each block as the device says
pub keeps_slot : (count page : ℕ) (old new : ℕ → Slot) → page < count → KeepsReadable (old page) (new page)
    → KeepsReadable (slot_in (slots_from 0 count old) page) (slot_in (slots_from 0 count new) page)
keeps_slot count page old new lt keeps =
    subst (λ (s : Slot). KeepsReadable s (slot_in (slots_from 0 count new) page)) (sym (slot_at count page old lt))
    (subst (λ (s : Slot). KeepsReadable (old page) s) (sym (slot_at count page new lt)) keeps)
