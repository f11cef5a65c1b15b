-- What a change of what a device in memory keeps does to its blocks.
use Rattle.std.proofs.Common.{◌≡◌, ◌≢◌, ℕ, zero, suc, List, [], ◌∷◌, ◌++◌, Some, None, true, false, slice_index, Option, IsSome, length-append, refl, sym, ◌∙◌, ap, arith}
use Rattle.std.proofs.lemmas.Grind.{common_steps}
use Rattle.std.proofs.lemmas.Bool.{false≢true}
use Rattle.std.proofs.lemmas.Map.Keys.{le_from_not_gt}
use Rattle.std.specs.Ordering.{nat_cmp}
use Rattle.std.specs.BTreeMap.{BTreeMap, get, is_at, ContainsKey, Updates, IsLowerBound}
use Rattle.als_disk.specs.declared.unsynced.Unsynced.{Unsynced}
use Rattle.als_disk.specs.Crash.{has_choice, choices_below, pick_of, picked, picked_content}
use Rattle.als_disk.specs.Slot.{only}
use Rattle.als_disk.specs.Store.{synced_content, slot_with, slot_of, zeros}
use Rattle.als_disk.specs.Unsynced.{contents}
use Rattle.als_disk.proofs.Picks.{TakesFirst, choices_below-none, picked-no_choice}

-- zeros kept for one more block change nothing
pub synced_content-push : (xs : List (List ℕ)) (k : ℕ) → synced_content (xs ++ zeros ∷ []) k ≡ synced_content xs k
synced_content-push [] zero = refl
synced_content-push [] (suc k) = refl
synced_content-push (x ∷ xs) zero = refl
synced_content-push (x ∷ xs) (suc k) = synced_content-push xs k

-- a block that was written since the last sync has a choice
has_choice-unsynced : (content : List ℕ) (w : Unsynced) → has_choice (slot_with content (Some w)) ≡ true
has_choice-unsynced content w = grind (arith, length-append w.earlier.items (w.last ∷ []))

-- another key is not found
is_at-other : (i k : ℕ) → k ≢ i → is_at (nat_cmp i) k ≡ false
is_at-other i k apart = grind (arith, common_steps)

none_from_not_some : {X : Type 0} (found : Option X) → (IsSome found → ⊥) → found ≡ None
none_from_not_some None not_some = refl
none_from_not_some (Some x) not_some = absurd (not_some refl)

-- a key that is left was there before
pub ContainsKey-pop : (u v : BTreeMap ℕ Unsynced) (i k : ℕ) → Updates nat_cmp u v i None → ContainsKey nat_cmp v k → ContainsKey nat_cmp u k
ContainsKey-pop u v i k updates has = grind (arith, common_steps, updates.0 k)

module _ (s t : List (List ℕ)) (u v : BTreeMap ℕ Unsynced) (i : ℕ) (w : Unsynced) (picks : List ℕ) where
  -- block i, the first of the blocks written since the last sync, takes the first pick
  pub TakesFirst-pop : get nat_cmp u i ≡ Some w → IsLowerBound nat_cmp u i → Updates nat_cmp u v i None
      → synced_content t i ≡ picked (synced_content s i ∷ contents w) (slice_index picks 0)
      → ((k : ℕ) → k ≢ i → synced_content t k ≡ synced_content s k)
      → TakesFirst (slot_of s u) picks i (slot_of t v)
  TakesFirst-pop found least updates left others = record {
    first = record {
      none = λ j lt.
          let absent : get nat_cmp u j ≡ None = none_from_not_some (get nat_cmp u j) (λ has. omega (arith, le_from_not_gt i j (least j has))) in
          ap (λ o. has_choice (slot_with (synced_content s j) o)) absent;
    };
    had_choice = ap (λ o. has_choice (slot_with (synced_content s i) o)) found ∙ has_choice-unsynced (synced_content s i) w;
    left =
        ap (slot_with (synced_content t i)) updates.1
        ∙ ap only left
        ∙ ap (λ o. only (picked (slot_with (synced_content s i) o).candidates (slice_index picks 0))) (sym found);
    others = λ k apart.
        ap (slot_with (synced_content t k)) (updates.2 k (is_at-other i k apart))
        ∙ ap (λ content. slot_with content (get nat_cmp u k)) (others k apart);
  }

module _ (s : List (List ℕ)) (u : BTreeMap ℕ Unsynced) (empty : u.entries ≡ []) where
  -- with nothing written since the last sync, each block is as it was synced
  pub slot_of-empty : (k : ℕ) → slot_of s u k ≡ only (synced_content s k)
  slot_of-empty k = rw empty refl

  -- and has no choice
  pub choices_below-empty : (n : ℕ) → choices_below (slot_of s u) n ≡ 0
  choices_below-empty n = choices_below-none (slot_of s u) n (record { none = λ j lt. rw empty refl })

  -- and is left as it is, whatever the picks
  pub picked_content-empty : (picks : List ℕ) (k : ℕ) → picked_content (slot_of s u) picks k ≡ synced_content s k
  picked_content-empty picks k =
      ap (λ slot. picked slot.candidates (pick_of (slot_of s u) picks k)) (slot_of-empty k)
      ∙ picked-no_choice (only (synced_content s k)) refl (pick_of (slot_of s u) picks k) 0

-- no block is unsynced
pub ContainsKey-empty : (u : BTreeMap ℕ Unsynced) → u.entries ≡ [] → (k : ℕ) → ContainsKey nat_cmp u k → ⊥
ContainsKey-empty u empty k has = false≢true (rw empty at has)
