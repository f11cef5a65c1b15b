-- What a device in memory keeps: the contents of the last sync, and what was written since.
use Rattle.std.specs.Prelude.{◌≡◌, ◌<◌, ℕ, List, [], ◌∷◌, replicate, length, slice_index_or, Contains, Option, Some, None}
use Rattle.std.proofs.Common.{arith, refl, subst, sym, ap, ◌∙◌}
use Rattle.std.proofs.lemmas.List.Elements.{Contains-push}
use Rattle.std.specs.Ordering.{nat_cmp}
use Rattle.std.specs.BTreeMap.{BTreeMap, get, ContainsKey}
use Rattle.als_disk.specs.declared.unsynced.Unsynced.{Unsynced}
use Rattle.als_disk.specs.Slot.{Slot, only, GivesCandidates, KeepsReadable}
use Rattle.als_disk.specs.SlotLaws.{Contains-one}
use Rattle.als_disk.specs.Unsynced.{contents}

-- a block of zeros
unfoldable pub zeros : List ℕ
zeros = replicate 512 0

-- the content of a block at the last sync: zeros, if none is kept
abbrev pub synced_content : List (List ℕ) → ℕ → List ℕ
synced_content synced k = slice_index_or synced k zeros

-- a block with this synced content, and with what was written since
abbrev pub slot_with : List ℕ → Option Unsynced → Slot
slot_with content None = only content
slot_with content (Some writes) = record { candidates = content ∷ contents writes; readable = writes.last ∷ [] }

-- what stands in each block
abbrev pub slot_of : List (List ℕ) → BTreeMap ℕ Unsynced → ℕ → Slot
slot_of synced unsynced k = slot_with (synced_content synced k) (get nat_cmp unsynced k)

-- the newest of a synced content and what was written since
abbrev pub newest : List ℕ → Option Unsynced → List ℕ
newest content None = content
newest content (Some writes) = writes.last

-- the newest content of each block
abbrev pub newest_of : List (List ℕ) → BTreeMap ℕ Unsynced → ℕ → List ℕ
newest_of synced unsynced k = newest (synced_content synced k) (get nat_cmp unsynced k)

-- each block that was written since the last sync has room for its next synced content
abbrev pub HasRoom : List (List ℕ) → BTreeMap ℕ Unsynced → Type 0
HasRoom synced unsynced = (k : ℕ) → ContainsKey nat_cmp unsynced k → k < length synced

-- each block that was written since the last sync is below this number
abbrev pub IsInRange : BTreeMap ℕ Unsynced → ℕ → Type 0
IsInRange unsynced blocks = (k : ℕ) → ContainsKey nat_cmp unsynced k → k < blocks

-- a read gives the newest content, which a crash may leave
newest_is_candidate : (content : List ℕ) (writes : Option Unsynced) → Contains (slot_with content writes).candidates (newest content writes)
newest_is_candidate content None = (0, omega arith, refl)
newest_is_candidate content (Some writes) = Contains-push (content ∷ writes.earlier.items) writes.last

pub readable_is_newest : (content : List ℕ) (writes : Option Unsynced) → (slot_with content writes).readable ≡ newest content writes ∷ []
readable_is_newest content None = refl
readable_is_newest content (Some writes) = refl

pub slot_of-gives_candidates : (synced : List (List ℕ)) (unsynced : BTreeMap ℕ Unsynced) → GivesCandidates (slot_of synced unsynced)
slot_of-gives_candidates synced unsynced = record {
  gives = λ k. rw (readable_is_newest (synced_content synced k) (get nat_cmp unsynced k)) (omega arith);
  candidates = λ k content has.
      let from_newest : Contains (newest_of synced unsynced k ∷ []) content = subst (λ (xs : List (List ℕ)). Contains xs content) (readable_is_newest (synced_content synced k) (get nat_cmp unsynced k)) has in
      subst (λ (x : List ℕ). Contains (slot_of synced unsynced k).candidates x) (Contains-one from_newest) (newest_is_candidate (synced_content synced k) (get nat_cmp unsynced k));
}

-- a settled block keeps the newest content, and that was the readable one
pub newest-readable : (synced : List (List ℕ)) (unsynced : BTreeMap ℕ Unsynced) (k : ℕ) → Contains (slot_of synced unsynced k).readable (newest_of synced unsynced k)
newest-readable synced unsynced k = rw (readable_is_newest (synced_content synced k) (get nat_cmp unsynced k)) (0, omega arith, refl)

pub only_newest-readable : (synced : List (List ℕ)) (unsynced : BTreeMap ℕ Unsynced) (k : ℕ) (new : Slot) → KeepsReadable (slot_of synced unsynced k) new → new ≡ only (newest_of synced unsynced k)
only_newest-readable synced unsynced k new keeps =
    let one : Contains (newest_of synced unsynced k ∷ []) keeps.content = subst (λ (xs : List (List ℕ)). Contains xs keeps.content) (readable_is_newest (synced_content synced k) (get nat_cmp unsynced k)) keeps.was_readable in
    keeps.left ∙ ap only (sym (Contains-one one))

pub KeepsReadable-newest : (synced : List (List ℕ)) (unsynced : BTreeMap ℕ Unsynced) (k : ℕ) (new : Slot) → new ≡ only (newest_of synced unsynced k) → KeepsReadable (slot_of synced unsynced k) new
KeepsReadable-newest synced unsynced k new left = record { content = newest_of synced unsynced k; was_readable = newest-readable synced unsynced k; left = left }
