-- Which control state a crash leaves, by its picks.
use Rattle.std.proofs.Common.{◌≡◌, ℕ, zero, suc, ◌+◌, ◌-◌, ◌/◌, ◌<◌, ◌≤◌, Bool, true, false, cond}
use Rattle.std.proofs.Common.{List, [], ◌∷◌, length, min, drop, refl, ap, subst, ◌∙◌, arith, inl, inr}
use Rattle.std.specs.Prelude.{slice_index, slice_index_or}
use Rattle.std.proofs.lemmas.Bool.{cases_lt}
use Rattle.std.proofs.lemmas.List.{get_or-drop}
use Rattle.als_disk.specs.Slot.{Slot, only, IsSettled}
use Rattle.als_disk.specs.Crash.{has_choice, choices_below, picked}
use Rattle.als_ckpt.specs.declared.control_state.ControlState.{ControlState}
use Rattle.als_ckpt.specs.Control.{Spells, AreBlocks}
use Rattle.als_store.specs.Stopped.{Devices, CrashesTo, NamesState, choices_of}
use Rattle.als_store.specs.Stored.{Stored}

-- ---- how many blocks have a choice

no_choice : (slot : Slot) → IsSettled slot → has_choice slot ≡ false
no_choice slot is = ap has_choice is.1

one_at_most : (b : Bool) → cond b 1 0 ≤ 1
one_at_most true = omega arith
one_at_most false = omega arith

none : (slots : ℕ → Slot) → choices_below slots 0 ≡ 0
unfolding choices_below
none slots = refl

module _ (slots : ℕ → Slot) (low high : ℕ) (before : (k : ℕ) → k < low → IsSettled (slots k))
    (beyond : (k : ℕ) → high ≤ k → IsSettled (slots k)) where
  more : (k : ℕ) → choices_below slots (suc k) ≡ choices_below slots k + cond (has_choice (slots k)) 1 0
  unfolding choices_below
  more k = refl

  nothing : (k : ℕ) → IsSettled (slots k) → ◌≡◌ {A = ℕ} (cond (has_choice (slots k)) 1 0) 0
  nothing k is = ap (λ (b : Bool). cond b 1 0) (no_choice (slots k) is)

  pub few_choices : (n : ℕ) → choices_below slots n ≤ min n high - low
  few_choices zero = omega (arith, none slots)
  few_choices (suc n) =
      let rest : choices_below slots n ≤ min n high - low = few_choices n in
      let step = more n in
      elim (cases_lt n low) [
        | inl lt ↦ omega (arith, rest, step, nothing n (before n lt))
        | inr le ↦
            elim (cases_lt n high) [
              | inl inside ↦ omega (arith, rest, step, le, inside, one_at_most (has_choice (slots n)))
              | inr past ↦ omega (arith, rest, step, nothing n (beyond n past))
            ]
      ]

-- ---- the pick of the control block

-- the contents that spell states, by their places
blocks_len : (pages : ℕ) (states : List ControlState) (contents : List (List ℕ))
    → AreBlocks pages states contents → length contents ≡ length states
blocks_len pages [] [] are = refl
blocks_len pages [] (content ∷ contents) are = absurd are
blocks_len pages (state ∷ states) [] are = absurd are
blocks_len pages (state ∷ states) (content ∷ contents) are =
    let rest : length contents ≡ length states = blocks_len pages states contents are.1 in
    omega (arith, rest)

block_at : (pages : ℕ) (states : List ControlState) (contents : List (List ℕ))
    → AreBlocks pages states contents → (n : ℕ) (s : ControlState) → n < length states
    → Spells pages (slice_index_or states n s) (slice_index_or contents n [])
block_at pages [] contents are n s lt = absurd (omega (arith, lt))
block_at pages (state ∷ states) [] are n s lt = absurd are
block_at pages (state ∷ states) (content ∷ contents) are zero s lt = are.0
block_at pages (state ∷ states) (content ∷ contents) are (suc n) s lt =
    block_at pages states contents are.1 n s (omega (arith, lt))

-- the candidate that is picked spells the state of that number
block_picked : (pages : ℕ) (state : ControlState) (since : List ControlState)
    (contents : List (List ℕ)) → AreBlocks pages (state ∷ since) contents → (n : ℕ)
    → Spells pages (slice_index_or (state ∷ since) (min n (length since)) state) (picked contents n)
block_picked pages state since contents are n =
    let len : length contents ≡ length (state ∷ since) =
    blocks_len pages (state ∷ since) contents are in
    let last : length since ≡ length contents - 1 = omega (arith, len) in
    subst (λ (m : ℕ). Spells pages (slice_index_or (state ∷ since) (min n (length since)) state)
    (slice_index_or contents (min n m) [])) last
    (block_at pages (state ∷ since) contents are (min n (length since)) state (omega arith))

pub state_picked : (s : Stored) (picks : List ℕ) (left : Devices) (used : ℕ) → s.broken ≡ false
    → CrashesTo s picks left used → NamesState s picks left
state_picked s picks left used running c =
    let n = choices_of c.stopped.log in
    let few = few_choices c.stopped.log.slot (s.synced / 512) (s.written / 512 + 1)
    (λ k lt. c.stops.before k (omega (arith, lt))) (λ k le. c.stops.beyond k (omega (arith, le)))
    c.stopped.log.blocks in
    let at : n + 0 ≡ n = omega arith in
    record {
      place = n;
      few = omega (arith, few);
      names = record {
        content = picked (c.stopped.control.slot 0).candidates (slice_index picks n);
        block = c.picked.control 0
            ∙ ap (λ (i : ℕ). only (picked (c.stopped.control.slot 0).candidates (slice_index (drop n picks) i)))
            (none c.stopped.control.slot)
            ∙ ap (λ (p : ℕ). only (picked (c.stopped.control.slot 0).candidates p))
            (get_or-drop n picks 0 0 ∙ ap (λ (i : ℕ). slice_index picks i) at);
        spelled = block_picked s.pages s.control s.since (c.stopped.control.slot 0).candidates
            (c.stops.states running) (slice_index picks n);
      };
    }
