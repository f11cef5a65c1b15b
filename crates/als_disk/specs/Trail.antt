-- What the writes and the syncs of a device make of its blocks.
use Rattle.std.specs.Prelude.{◌≡◌, nat_eq, ℕ, Bool, true, false, List, [], ◌∷◌, Contains, if◌then◌else◌}
use Rattle.std.proofs.Common.{arith, refl, subst, sym, ap, ◌∙◌}
use Rattle.std.proofs.lemmas.List.Elements.{Contains-push}
use Rattle.als_disk.specs.declared.trail.Trail.{Trail}
use Rattle.als_disk.specs.declared.trail.Trail.TheVariants.{Start, Wrote', Synced'}
use Rattle.als_disk.specs.Slot.{Slot, only, written, GivesCandidates, KeepsReadable}
use Rattle.als_disk.specs.SlotLaws.{Contains-one}
use Rattle.als_disk.specs.Store.{zeros}

-- the last content written to a block, zeros without one
unfoldable pub newest_in : Trail → ℕ → List ℕ
newest_in Start k = zeros
newest_in (Wrote' mark before at content) k = if nat_eq k at.value then content.value else newest_in before k
newest_in (Synced' mark before) k = newest_in before k

-- what stands in a block: a write adds its content to what a crash may leave, and a sync leaves the last one alone
unfoldable pub slot_in : Trail → ℕ → Slot
slot_in Start k = only zeros
slot_in (Wrote' mark before at content) k = if nat_eq k at.value then written (slot_in before k) content.value else slot_in before k
slot_in (Synced' mark before) k = only (newest_in before k)

-- ---- a read gives the last content written, which a crash may leave

if_readable : (here : Bool) (slot : Slot) (content last : List ℕ) → slot.readable ≡ last ∷ [] → (if here then written slot content else slot).readable ≡ (if here then content else last) ∷ []
if_readable true slot content last is = refl
if_readable false slot content last is = is

pub readable_in : (trail : Trail) (k : ℕ) → (slot_in trail k).readable ≡ newest_in trail k ∷ []
unfolding slot_in newest_in
readable_in Start k = refl
readable_in (Wrote' mark before at content) k = if_readable (nat_eq k at.value) (slot_in before k) content.value (newest_in before k) (readable_in before k)
readable_in (Synced' mark before) k = refl

if_candidate : (here : Bool) (slot : Slot) (content last : List ℕ) → Contains slot.candidates last → Contains (if here then written slot content else slot).candidates (if here then content else last)
if_candidate true slot content last is = Contains-push slot.candidates content
if_candidate false slot content last is = is

pub candidate_in : (trail : Trail) (k : ℕ) → Contains (slot_in trail k).candidates (newest_in trail k)
unfolding slot_in newest_in
candidate_in Start k = (0, omega arith, refl)
candidate_in (Wrote' mark before at content) k = if_candidate (nat_eq k at.value) (slot_in before k) content.value (newest_in before k) (candidate_in before k)
candidate_in (Synced' mark before) k = (0, omega arith, refl)

pub slot_in-gives_candidates : (trail : Trail) → GivesCandidates (slot_in trail)
slot_in-gives_candidates trail = record {
  gives = λ k. rw (readable_in trail k) (omega arith);
  candidates = λ k content has.
      let last : Contains (newest_in trail k ∷ []) content = subst (λ (xs : List (List ℕ)). Contains xs content) (readable_in trail k) has in
      subst (λ (x : List ℕ). Contains (slot_in trail k).candidates x) (Contains-one last) (candidate_in trail k);
}

-- a sync leaves what a read gives
pub KeepsReadable-last : (trail : Trail) (k : ℕ) (new : Slot) → new ≡ only (newest_in trail k) → KeepsReadable (slot_in trail k) new
KeepsReadable-last trail k new left = record { content = newest_in trail k; was_readable = rw (readable_in trail k) (0, omega arith, refl); left = left }

-- the last content of a block with one content
pub newest_of_only : (trail : Trail) (k : ℕ) (content : List ℕ) → slot_in trail k ≡ only content → newest_in trail k ≡ content
newest_of_only trail k content is =
    let one : newest_in trail k ∷ [] ≡ content ∷ [] = sym (readable_in trail k) ∙ ap (λ (s : Slot). s.readable) is in
    Contains-one (subst (λ (xs : List (List ℕ)). Contains xs content) (sym one) (0, omega arith, refl))
