-- What is kept true of the disk, from one call to the next.
use Rattle.std.proofs.Common.{◌≡◌, Option, ℕ, ◌≤◌, Bool, true, false, IsTrue, List, [], ◌∷◌, ◌++◌, refl, sym, subst, inl, inr}
use Rattle.std.specs.Prelude.{Contains, ◌⊎◌}
use Rattle.std.proofs.lemmas.List.Elements.{Contains-append_left, Contains-push, Contains-push_cases}
use Rattle.als_disk.specs.Slot.{Slot, written, FailsToWrite, KeepsReadable}
use Rattle.als_disk.specs.SlotLaws.{Contains-one, candidates-write, readable-write, candidates-fail}
use Rattle.als_ckpt.specs.declared.control_state.ControlState.{ControlState}
use Rattle.als_ckpt.specs.Control.{control_block, Spells, HoldsState, AreBlocks, IsControlState, IsBlockOf, MarksRise, Continues, HistoriesGrow, IsControlled, IsApartIf}
use Rattle.als_ckpt.specs.Kept.{IsKept, IsKeeping}
use Rattle.als_ckpt.specs.Regions.{Held, Begun, IsPublished, held_at}
use Rattle.als_ckpt.specs.Holding.{LeavesOneOf}
use Rattle.als_ckpt.proofs.HeldLaws.{HoldsPublished-left}
use Rattle.als_ckpt.proofs.StateLaws.{last_state-push, MarksRise-push, MarksRise-from, MarksRise-to, HistoriesGrow-push, HistoriesGrow-from, HistoriesGrow-to, Contains-last_state}
use Rattle.als_ckpt.proofs.BlockLaws.{Spells-now}

-- a block of one of the states is a block of one of more states
IsBlockOf-push : (pages : ℕ) (states : List ControlState) (s : ControlState) (content : List ℕ) → IsBlockOf pages states content → IsBlockOf pages (states ++ s ∷ []) content
IsBlockOf-push pages states s content h = record { state = h.state; among = Contains-append_left states (s ∷ []) h.state h.among; spelled = h.spelled }

IsBlockOf-last : (pages : ℕ) (states : List ControlState) (s : ControlState) (content : List ℕ) → Spells pages s content → IsBlockOf pages (states ++ s ∷ []) content
IsBlockOf-last pages states s content is = record { state = s; among = Contains-push states s; spelled = is }

-- one state more, and its block
AreBlocks-push : (pages : ℕ) (states : List ControlState) (contents : List (List ℕ)) (s : ControlState) (content : List ℕ) → AreBlocks pages states contents → Spells pages s content
    → AreBlocks pages (states ++ s ∷ []) (contents ++ content ∷ [])
AreBlocks-push pages [] [] s content are is = (is, tt)
AreBlocks-push pages [] (x ∷ xs) s content are is = absurd are
AreBlocks-push pages (t ∷ ts) [] s content are is = absurd are
AreBlocks-push pages (t ∷ ts) (x ∷ xs) s content are is = (are.0, AreBlocks-push pages ts xs s content are.1 is)

module _ (pages log_bytes blocks : ℕ) where
  -- one state, which is synced
  pub IsKept-only : (slot : Slot) (s : ControlState) → 321 ≤ blocks → IsControlState log_bytes s → HoldsState pages slot s → IsKept slot pages log_bytes blocks s s [] true
  IsKept-only slot s room fits holds = record {
    room = room;
    last = refl;
    fits = λ t has. subst (IsControlState log_bytes) (Contains-one has) fits;
    rising = tt;
    growing = tt;
    candidates = λ content has.
        let same : holds.content ≡ content = Contains-one (subst (λ (x : Slot). Contains x.candidates content) holds.block has) in
        IsBlockOf-last pages [] s content (subst (Spells pages s) same holds.spelled);
    all = λ sure. subst (λ (x : Slot). AreBlocks pages (s ∷ []) x.candidates) (sym holds.block) (holds.spelled, tt);
    readable = λ sure content has. subst (Spells pages s) (Contains-one (subst (λ (x : Slot). Contains x.readable content) holds.block has)) holds.spelled;
  }

  pub IsKept-newest : (slot : Slot) (synced newest : ControlState) (since : List ControlState) (sure : Bool)
      → IsKept slot pages log_bytes blocks synced newest since sure → IsControlState log_bytes newest
  IsKept-newest slot synced newest since sure kept = kept.fits newest (subst (Contains (synced ∷ since)) (sym kept.last) (Contains-last_state synced since))

  -- a sync, where no write had failed
  pub IsKept-synced : (old new : Slot) (synced newest : ControlState) (since : List ControlState) (sure : Bool)
      → IsKept old pages log_bytes blocks synced newest since sure → IsTrue sure → KeepsReadable old new
      → IsKept new pages log_bytes blocks newest newest [] true
  IsKept-synced old new synced newest since sure kept is_sure keeps =
      let spelled : Spells pages newest keeps.content = kept.readable is_sure keeps.content keeps.was_readable in
      IsKept-only new newest kept.room (IsKept-newest old synced newest since sure kept) (record { content = keeps.content; block = keeps.left; spelled = spelled })

  module _ (old new : Slot) (synced newest s : ControlState) (since : List ControlState) (sure : Bool)
      (kept : IsKept old pages log_bytes blocks synced newest since sure) where
    fits-push : IsControlState log_bytes s → (t : ControlState) → Contains (synced ∷ (since ++ s ∷ [])) t → IsControlState log_bytes t
    fits-push fits t has =
        elim (Contains-push_cases (synced ∷ since) s t has) [
          | inl before ↦ kept.fits t before
          | inr same ↦ subst (IsControlState log_bytes) same fits
        ]

    rising-push : newest.mark.0 ≤ s.mark.0 → MarksRise synced (since ++ s ∷ [])
    rising-push rises = MarksRise-push synced since s kept.rising (subst (λ (t : ControlState). t.mark.0 ≤ s.mark.0) kept.last rises)

    growing-push : Continues newest s → HistoriesGrow synced (since ++ s ∷ [])
    growing-push grows = HistoriesGrow-push synced since s kept.growing (subst (λ (t : ControlState). Continues t s) kept.last grows)

    -- a write that succeeded
    pub IsKept-written : IsControlState log_bytes s → newest.mark.0 ≤ s.mark.0 → Continues newest s → new ≡ written old (control_block pages s)
        → IsKept new pages log_bytes blocks synced s (since ++ s ∷ []) sure
    IsKept-written fits rises grows is = record {
      room = kept.room;
      last = sym (last_state-push synced since s);
      fits = fits-push fits;
      rising = rising-push rises;
      growing = growing-push grows;
      candidates = λ content has.
          elim (candidates-write old new (control_block pages s) content is has) [
            | inl before ↦ IsBlockOf-push pages (synced ∷ since) s content (kept.candidates content before)
            | inr same ↦ IsBlockOf-last pages (synced ∷ since) s content (Spells-now pages s content same)
          ];
      all = λ is_sure.
          subst (λ (x : Slot). AreBlocks pages (synced ∷ (since ++ s ∷ [])) x.candidates) (sym is)
          (AreBlocks-push pages (synced ∷ since) old.candidates s (control_block pages s) (kept.all is_sure) (Spells-now pages s (control_block pages s) refl));
      readable = λ _ content has. Spells-now pages s content (readable-write old new (control_block pages s) content is has);
    }

    -- a write that failed
    pub IsKept-failed : IsControlState log_bytes s → newest.mark.0 ≤ s.mark.0 → Continues newest s → FailsToWrite old new (control_block pages s)
        → IsKept new pages log_bytes blocks synced s (since ++ s ∷ []) false
    IsKept-failed fits rises grows fails = record {
      room = kept.room;
      last = sym (last_state-push synced since s);
      fits = fits-push fits;
      rising = rising-push rises;
      growing = growing-push grows;
      candidates = λ content has.
          elim (candidates-fail old new (control_block pages s) content fails has) [
            | inl before ↦ IsBlockOf-push pages (synced ∷ since) s content (kept.candidates content before)
            | inr same ↦ IsBlockOf-last pages (synced ∷ since) s content (Spells-now pages s content same)
          ];
      all = λ never. absurd cc;
      readable = λ never content has. absurd cc;
    }

-- what the callers see
pub IsControlled-kept : (slots : ℕ → Slot) (pages log_bytes blocks : ℕ) (synced newest : ControlState) (since : List ControlState) (sure : Bool) (failures attempts : ℕ) (held : Held) (begun : Option Begun)
    → IsKeeping slots pages log_bytes blocks synced newest since sure held begun
    → IsControlled (record { pages = pages; log_bytes = log_bytes; synced = synced; since = since; sure = sure; blocks = blocks; failures = failures; attempts = attempts; held = held; begun = begun })
IsControlled-kept slots pages log_bytes blocks synced newest since sure failures attempts held begun h = record {
  room = h.states.room;
  fits = h.states.fits;
  rising = h.states.rising;
  from_synced = λ s has. MarksRise-from synced since s h.states.rising has;
  to_newest = λ s has. MarksRise-to synced since s h.states.rising has;
  growing = h.states.growing;
  grown_from = λ s has. HistoriesGrow-from synced since s h.states.rising h.states.growing has;
  grown_to = λ s has. HistoriesGrow-to synced since s h.states.rising h.states.growing has;
  named = h.checkpoints.named;
  places = λ s has. subst (λ (t : ControlState). (s.published ≡ synced.published) ⊎ (s.published ≡ t.published)) h.states.last (h.checkpoints.places s has);
  apart = subst (λ (t : ControlState). IsApartIf pages synced t held begun) h.states.last h.checkpoints.apart;
}

-- what a crash leaves
pub LeavesOneOf-kept : (slots : ℕ → Slot) (pages log_bytes blocks : ℕ) (synced newest : ControlState) (since : List ControlState) (sure : Bool) (failures attempts : ℕ) (held : Held) (begun : Option Begun)
    → IsKeeping slots pages log_bytes blocks synced newest since sure held begun
    → LeavesOneOf (record { pages = pages; log_bytes = log_bytes; synced = synced; since = since; sure = sure; blocks = blocks; failures = failures; attempts = attempts; held = held; begun = begun }) slots
LeavesOneOf-kept slots pages log_bytes blocks synced newest since sure failures attempts held begun h left keeps =
    let block : IsBlockOf pages (synced ∷ since) (keeps 0).content = h.states.candidates (keeps 0).content (keeps 0).was_candidate in
    record {
      state = block.state;
      among = block.among;
      holds = record {
        block = record { content = (keeps 0).content; block = (keeps 0).left; spelled = block.spelled };
        fits = h.states.fits block.state block.among;
        published = h.checkpoints.named block.state block.among;
        region = HoldsPublished-left slots left held block.state.published h.checkpoints.regions keeps;
      };
    }

-- what the newest state publishes
pub IsPublished-newest : (slots : ℕ → Slot) (pages log_bytes blocks : ℕ) (synced newest : ControlState) (since : List ControlState) (sure : Bool) (held : Held) (begun : Option Begun)
    → IsKeeping slots pages log_bytes blocks synced newest since sure held begun → IsPublished pages newest.published newest.position.0 (held_at held newest.published)
IsPublished-newest slots pages log_bytes blocks synced newest since sure held begun h =
    h.checkpoints.named newest (subst (Contains (synced ∷ since)) (sym h.states.last) (Contains-last_state synced since))
