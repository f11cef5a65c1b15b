-- Laws of a control state that is written in the place of another one.
use Rattle.std.proofs.Common.{◌≡◌, ◌≢◌, ℕ, ◌+◌, ◌<◌, ◌≤◌, ◌^◌, Bool, true, false, List, [], ◌∷◌, length, Option, None, Some, refl, sym, ap, subst, ◌∙◌, arith, inl, inr}
use Rattle.std.specs.Prelude.{Contains, ◌⊎◌, nat_lt, cond}
use Rattle.als_disk.specs.Slot.{Slot, only, written, FailsToWrite, KeepsReadable, KeepsCandidate, SameBlocks, SameBlocksBut, GivesCandidates}
use Rattle.als_disk.specs.SlotLaws.{Contains-one, candidates-fail}
use Rattle.als_epochs.specs.Histories.{IsHistory, RisesFrom, last_from}
use Rattle.als_epochs.specs.HistoryLaws.{RisesFrom-last}
use Rattle.als_ckpt_codec.specs.declared.checkpoint.Checkpoint.{Checkpoint}
use Rattle.als_ckpt.specs.declared.phase.Phase.{Phase}
use Rattle.als_ckpt.specs.declared.phase.Phase.TheVariants.{Following, Sealed, Primary}
use Rattle.als_ckpt.specs.declared.region.Region.{Region}
use Rattle.als_ckpt.specs.declared.unreached.Unreached.{Unreached}
use Rattle.als_ckpt.specs.declared.control_state.ControlState.{ControlState}
use Rattle.als_ckpt.specs.Regions.{Said, first_block, HoldsPublished}
use Rattle.als_ckpt.specs.Control.{Spells, HoldsState, control_block, IsLastSeal, IsControlState}
use Rattle.als_ckpt.specs.Holding.{HoldsControl}
use Rattle.als_ckpt.specs.Again.{seals_below, bound_of, history_left, forgetting, followed_by, followed, following_again, without_checkpoint, unpublished, saying, LeavesSaid, LeavesEither, MayRestate, Restates, RestatesOrNot}
use Rattle.als_ckpt.proofs.DeviceLaws.{only-synced, candidates-unsynced}
use Rattle.als_ckpt.proofs.RegionLaws.{block-above, HoldsContent-fewer}

-- ---- seals below a bound

module _ (bound : ℕ) where
  few-step : (x : ℕ) (xs ys : List ℕ) (b : Bool) → length ys ≤ length xs → length (cond b (x ∷ ys) []) ≤ length (x ∷ xs)
  few-step x xs ys true le = omega (arith, le)
  few-step x xs ys false le = omega arith

  pub seals_below-few : (xs : List ℕ) → length (seals_below bound xs) ≤ length xs
  seals_below-few [] = omega arith
  seals_below-few (x ∷ xs) = few-step x xs (seals_below bound xs) (nat_lt x bound) (seals_below-few xs)

  rises-step : (low x : ℕ) (ys : List ℕ) (b : Bool) → low ≤ x → RisesFrom x ys → RisesFrom low (cond b (x ∷ ys) [])
  rises-step low x ys true le rises = (le, rises)
  rises-step low x ys false le rises = tt

  pub seals_below-rises : (low : ℕ) (xs : List ℕ) → RisesFrom low xs → RisesFrom low (seals_below bound xs)
  seals_below-rises low [] h = tt
  seals_below-rises low (x ∷ xs) h = rises-step low x (seals_below bound xs) (nat_lt x bound) h.0 (seals_below-rises x xs h.1)

  last-step : (low x most : ℕ) (ys : List ℕ) (b : Bool) → low ≤ x → x ≤ most → last_from x ys ≤ most → last_from low (cond b (x ∷ ys) []) ≤ most
  last-step low x most ys true le to last = last
  last-step low x most ys false le to last = omega (arith, le, to)

  pub seals_below-last : (low : ℕ) (xs : List ℕ) → RisesFrom low xs → last_from low (seals_below bound xs) ≤ last_from low xs
  seals_below-last low [] h = omega arith
  seals_below-last low (x ∷ xs) h =
      last-step low x (last_from x xs) (seals_below bound xs) (nat_lt x bound) h.0 (RisesFrom-last x xs h.1) (seals_below-last x xs h.1)

  pub IsHistory-below : (xs : List ℕ) → IsHistory xs → IsHistory (seals_below bound xs)
  IsHistory-below xs h =
      let few : length (seals_below bound xs) ≤ length xs = seals_below-few xs in
      let most : length xs ≤ 32 = h.few in
      let last : last_from 0 (seals_below bound xs) ≤ last_from 0 xs = seals_below-last 0 xs h.rises in
      let wide : last_from 0 xs < 2 ^ 64 = h.wide in
      record {
        few = omega (arith, few, most);
        rises = seals_below-rises 0 xs h.rises;
        wide = omega (arith, last, wide);
      }

-- ---- the format admits what is written

history_left-fits : (phase : Phase) (bound : ℕ) (xs : List ℕ) → IsHistory xs → IsHistory (history_left phase bound xs)
history_left-fits Following bound xs h = IsHistory-below bound xs h
history_left-fits Sealed bound xs h = h
history_left-fits Primary bound xs h = h

history_left-lsns : (phase : Phase) (bound : ℕ) (xs : List ℕ) → RisesFrom 16 xs → RisesFrom 16 (history_left phase bound xs)
history_left-lsns Following bound xs h = seals_below-rises bound 16 xs h
history_left-lsns Sealed bound xs h = h
history_left-lsns Primary bound xs h = h

history_left-last : (phase : Phase) (bound : ℕ) (xs : List ℕ) (seal : ℕ) → IsLastSeal phase xs seal → IsLastSeal phase (history_left phase bound xs) seal
history_left-last Following bound xs seal h = tt
history_left-last Sealed bound xs seal h = h
history_left-last Primary bound xs seal h = h

pub forgetting-fits : (log_bytes : ℕ) (which : Unreached) (s : ControlState) → IsControlState log_bytes s → IsControlState log_bytes (forgetting which s)
forgetting-fits log_bytes which s h = record {
  begins = h.begins;
  in_log = h.in_log;
  position = h.position;
  seal = h.seal;
  history = history_left-fits s.phase (bound_of which s.mark.0) s.history h.history;
  lsns = history_left-lsns s.phase (bound_of which s.mark.0) s.history h.lsns;
  last = history_left-last s.phase (bound_of which s.mark.0) s.history s.seal.0 h.last;
}

pub following_again-fits : (log_bytes : ℕ) (s : ControlState) → IsControlState log_bytes s → IsControlState log_bytes (following_again s)
following_again-fits log_bytes s h = record {
  begins = h.begins;
  in_log = h.in_log;
  position = h.position;
  seal = refl;
  history = h.history;
  lsns = h.lsns;
  last = tt;
}

pub followed-fits : (log_bytes : ℕ) (phase : Phase) (s : ControlState) → IsControlState log_bytes s → IsControlState log_bytes (followed_by phase s)
followed-fits log_bytes Following s h = h
followed-fits log_bytes Sealed s h = h
followed-fits log_bytes Primary s h = following_again-fits log_bytes s h

pub without_checkpoint-fits : (log_bytes : ℕ) (s : ControlState) → IsControlState log_bytes s → IsControlState log_bytes (without_checkpoint s)
without_checkpoint-fits log_bytes s h = record {
  begins = h.begins;
  in_log = h.in_log;
  position = refl;
  seal = h.seal;
  history = h.history;
  lsns = h.lsns;
  last = h.last;
}

pub followed-published : (phase : Phase) (s : ControlState) → (followed_by phase s).published ≡ s.published
followed-published Following s = refl
followed-published Sealed s = refl
followed-published Primary s = refl

pub followed-position : (phase : Phase) (s : ControlState) → (followed_by phase s).position ≡ s.position
followed-position Following s = refl
followed-position Sealed s = refl
followed-position Primary s = refl

-- a history that stays leaves the state
pub forgetting-same : (which : Unreached) (s : ControlState) → (forgetting which s).history ≡ s.history → forgetting which s ≡ s
forgetting-same which s same = ap (λ (h : List ℕ). let t : ControlState = record s { history = h } in t) same

-- ---- what the blocks say

-- a region holds what it held where no candidate comes to its blocks
HoldsPublished-fewer : (old new : ℕ → Slot) (p : Option Region) (x : Option Checkpoint)
    → ((k : ℕ) → k ≢ 0 → (content : List ℕ) → Contains (new k).candidates content → Contains (old k).candidates content)
    → HoldsPublished old p x → HoldsPublished new p x
HoldsPublished-fewer old new None x fewer h = tt
HoldsPublished-fewer old new (Some r) x fewer h =
    HoldsContent-fewer old new r x (λ k below content has. fewer (first_block r + k) (block-above r k) content has) h

-- the candidates that a crash picks, and those that a sync keeps
picked-candidate : (old new : Slot) (content : List ℕ) → KeepsCandidate old new → Contains new.candidates content → Contains old.candidates content
picked-candidate old new content keeps has =
    subst (λ (x : List ℕ). Contains old.candidates x) (Contains-one (subst (λ (s : Slot). Contains s.candidates content) keeps.left has)) keeps.was_candidate

same-candidate : (old new : Slot) (content : List ℕ) → new ≡ old → Contains new.candidates content → Contains old.candidates content
same-candidate old new content same has = subst (λ (s : Slot). Contains s.candidates content) same has

module _ (pages log_bytes : ℕ) (old new : ℕ → Slot) (before : ControlState) (said told : Said) (may : MayRestate pages log_bytes before old said told)
    (fewer : (k : ℕ) → k ≢ 0 → (content : List ℕ) → Contains (new k).candidates content → Contains (old k).candidates content) where
  -- block 0 is as it was
  pub says-before : HoldsState pages (new 0) said.state → HoldsControl pages log_bytes new said
  says-before block = record {
    block = block;
    fits = may.holds.fits;
    published = may.holds.published;
    region = HoldsPublished-fewer old new said.state.published said.checkpoint fewer may.holds.region;
  }

  -- block 0 is that of the other state
  pub says-after : HoldsState pages (new 0) told.state → HoldsControl pages log_bytes new told
  says-after block = record {
    block = block;
    fits = may.fits;
    published = may.published;
    region = HoldsPublished-fewer old new told.state.published told.checkpoint fewer may.region;
  }

-- what a crash leaves of blocks that say something says it too
pub LeavesSaid-held : (pages log_bytes : ℕ) (slots : ℕ → Slot) (said : Said) → HoldsControl pages log_bytes slots said → LeavesSaid pages log_bytes slots said
LeavesSaid-held pages log_bytes slots said holds left keeps =
    let same : holds.block.content ≡ (keeps 0).content = Contains-one (subst (λ (s : Slot). Contains s.candidates (keeps 0).content) holds.block.block (keeps 0).was_candidate) in
    record {
      block = record { content = (keeps 0).content; block = (keeps 0).left; spelled = subst (Spells pages said.state) same holds.block.spelled };
      fits = holds.fits;
      published = holds.published;
      region = HoldsPublished-fewer slots left said.state.published said.checkpoint (λ k _ content has. picked-candidate (slots k) (left k) content (keeps k) has) holds.region;
    }

-- a read changes nothing
pub HoldsControl-same : (pages log_bytes : ℕ) (old new : ℕ → Slot) (said : Said) → SameBlocks old new → HoldsControl pages log_bytes old said → HoldsControl pages log_bytes new said
HoldsControl-same pages log_bytes old new said same holds = record {
  block = record { content = holds.block.content; block = same 0 ∙ holds.block.block; spelled = holds.block.spelled };
  fits = holds.fits;
  published = holds.published;
  region = HoldsPublished-fewer old new said.state.published said.checkpoint (λ k _ content has. same-candidate (old k) (new k) content (same k) has) holds.region;
}

-- a state is written in the place of another one
module _ (pages log_bytes : ℕ) (old new : ℕ → Slot) (before : ControlState) (said told : Said) (may : MayRestate pages log_bytes before old said told) where
  -- where it may have come to nothing, a crash leaves one of the two
  pub LeavesEither-tried : SameBlocksBut 0 old new → ((content : List ℕ) → Contains (new 0).candidates content → Contains (old 0).candidates content ⊎ (control_block pages told.state ≡ content))
      → LeavesEither pages log_bytes new said told
  LeavesEither-tried others either left keeps =
      elim (either (keeps 0).content (keeps 0).was_candidate) [
        | inl was ↦
            let same : may.holds.block.content ≡ (keeps 0).content = Contains-one (subst (λ (t : Slot). Contains t.candidates (keeps 0).content) may.holds.block.block was) in
            inl (says-before pages log_bytes old left before said told may fewer
            (record { content = (keeps 0).content; block = (keeps 0).left; spelled = subst (Spells pages said.state) same may.holds.block.spelled }))
        | inr now ↦
            inr (says-after pages log_bytes old left before said told may fewer
            (record { content = (keeps 0).content; block = (keeps 0).left; spelled = inl (sym now) }))
      ] where
        fewer : (k : ℕ) → k ≢ 0 → (content : List ℕ) → Contains (left k).candidates content → Contains (old k).candidates content
        fewer k other content has = same-candidate (old k) (new k) content (others k other) (picked-candidate (new k) (left k) content (keeps k) has)

  pub LeavesEither-failed : SameBlocksBut 0 old new → FailsToWrite (old 0) (new 0) (control_block pages told.state) → LeavesEither pages log_bytes new said told
  LeavesEither-failed others fails = LeavesEither-tried others (λ content has. candidates-fail (old 0) (new 0) (control_block pages told.state) content fails has)

  -- it is written, and the sync fails
  pub LeavesEither-unsynced : (after : ℕ → Slot) → SameBlocksBut 0 old new → new 0 ≡ written (old 0) (control_block pages told.state) → SameBlocks new after
      → LeavesEither pages log_bytes after said told
  LeavesEither-unsynced after others is same left keeps =
      LeavesEither-tried others (λ content has. candidates-unsynced (old 0) (new 0) (new 0) (control_block pages told.state) is refl content has) left
      (λ k. subst (λ (t : Slot). KeepsCandidate t (left k)) (same k) (keeps k))

  -- it is written and synced
  pub HoldsControl-restated : (after : ℕ → Slot) → SameBlocksBut 0 old new → new 0 ≡ written (old 0) (control_block pages told.state) → GivesCandidates new
      → ((k : ℕ) → KeepsReadable (new k) (after k)) → HoldsControl pages log_bytes after told
  HoldsControl-restated after others is gives keeps =
      says-after pages log_bytes old after before said told may fewer
      (record { content = control_block pages told.state; block = only-synced (old 0) (new 0) (after 0) (control_block pages told.state) is (keeps 0); spelled = inl refl }) where
        fewer : (k : ℕ) → k ≢ 0 → (content : List ℕ) → Contains (after k).candidates content → Contains (old k).candidates content
        fewer k other content has =
            let same : (keeps k).content ≡ content = Contains-one (subst (λ (t : Slot). Contains t.candidates content) (keeps k).left has) in
            same-candidate (old k) (new k) content (others k other) (gives.candidates k content (subst (λ (x : List ℕ). Contains (new k).readable x) same (keeps k).was_readable))

-- ---- a state that was read, and the one that takes its place

module _ (pages : ℕ) (before after : ControlState) (old new : ℕ → Slot) where
  -- where it is the same state, nothing is written
  pub Restates-same : after ≡ before → SameBlocks old new → Restates pages before after old new
  Restates-same same blocks log_bytes said told is may =
      HoldsControl-same pages log_bytes old new told blocks
      (record {
        block = subst (λ (s : ControlState). HoldsState pages (old 0) s) (sym may.says ∙ sym same ∙ is) may.holds.block;
        fits = may.fits;
        published = may.published;
        region = may.region;
      })

  pub Restates-synced : (between : ℕ → Slot) → SameBlocksBut 0 old between → between 0 ≡ written (old 0) (control_block pages after) → GivesCandidates between
      → ((k : ℕ) → KeepsReadable (between k) (new k)) → Restates pages before after old new
  Restates-synced between others is gives keeps log_bytes said told same may =
      HoldsControl-restated pages log_bytes old between before said told may new others
      (subst (λ (s : ControlState). between 0 ≡ written (old 0) (control_block pages s)) same is) gives keeps

  pub RestatesOrNot-failed : SameBlocksBut 0 old new → FailsToWrite (old 0) (new 0) (control_block pages after) → RestatesOrNot pages before after old new
  RestatesOrNot-failed others fails log_bytes said told same may =
      LeavesEither-failed pages log_bytes old new before said told may others
      (subst (λ (s : ControlState). FailsToWrite (old 0) (new 0) (control_block pages s)) same fails)

  pub RestatesOrNot-unsynced : (between : ℕ → Slot) → SameBlocksBut 0 old between → between 0 ≡ written (old 0) (control_block pages after) → SameBlocks between new
      → RestatesOrNot pages before after old new
  RestatesOrNot-unsynced between others is blocks log_bytes said told same may =
      LeavesEither-unsynced pages log_bytes old between before said told may new others
      (subst (λ (s : ControlState). between 0 ≡ written (old 0) (control_block pages s)) same is) blocks

-- the device was read before, and another state may be written
module _ (pages log_bytes : ℕ) (old read : ℕ → Slot) (blocks : SameBlocks old read) (before : ControlState) (said : Said) (holds : HoldsControl pages log_bytes old said) (says : before ≡ said.state) where
  same : HoldsControl pages log_bytes read said
  same = HoldsControl-same pages log_bytes old read said blocks holds

  may-forget : (which : Unreached) → MayRestate pages log_bytes before read said (saying said (forgetting which said.state))
  may-forget which = record {
    holds = same;
    says = says;
    fits = forgetting-fits log_bytes which said.state holds.fits;
    published = holds.published;
    region = same.region;
  }

  may-follow : MayRestate pages log_bytes before read said (saying said (followed said.state))
  may-follow = record {
    holds = same;
    says = says;
    fits = followed-fits log_bytes said.state.phase said.state holds.fits;
    published = rw (followed-published said.state.phase said.state, followed-position said.state.phase said.state) holds.published;
    region = rw (followed-published said.state.phase said.state) same.region;
  }

  may-unpublish : MayRestate pages log_bytes before read said (unpublished said)
  may-unpublish = record {
    holds = same;
    says = says;
    fits = without_checkpoint-fits log_bytes said.state holds.fits;
    published = refl;
    region = tt;
  }

  -- what a call writes in its place
  module _ (told : Said) (f : ControlState → ControlState) (is_told : told.state ≡ f said.state) (may : MayRestate pages log_bytes before read said told)
      (after : ControlState) (new : ℕ → Slot) (is : after ≡ f before) where
    after-is : after ≡ told.state
    after-is = is ∙ ap f says ∙ sym is_told

    restated_holds : Restates pages before after read new → HoldsControl pages log_bytes new told
    restated_holds restates = restates log_bytes said told after-is may

    restated_leaves : Restates pages before after read new → LeavesSaid pages log_bytes new told
    restated_leaves restates = LeavesSaid-held pages log_bytes new told (restated_holds restates)

    restated_or_not : RestatesOrNot pages before after read new → LeavesEither pages log_bytes new said told
    restated_or_not either = either log_bytes said told after-is may

  module _ (which : Unreached) (after : ControlState) (new : ℕ → Slot) (is : after ≡ forgetting which before) where
    pub forgets : Restates pages before after read new
        → (before ≡ said.state) × (after ≡ forgetting which said.state) × HoldsControl pages log_bytes new (saying said after)
    forgets restates =
        let same : after ≡ forgetting which said.state = is ∙ ap (forgetting which) says in (
          says,
          same,
          subst (λ (s : ControlState). HoldsControl pages log_bytes new (saying said s)) (sym same)
              (restated_holds (saying said (forgetting which said.state)) (forgetting which) refl (may-forget which) after new is restates),
        )

    pub forgets_leaves : Restates pages before after read new → LeavesSaid pages log_bytes new (saying said (forgetting which said.state))
    forgets_leaves restates = restated_leaves (saying said (forgetting which said.state)) (forgetting which) refl (may-forget which) after new is restates

    pub forgets_or_not : RestatesOrNot pages before after read new → LeavesEither pages log_bytes new said (saying said (forgetting which said.state))
    forgets_or_not either = restated_or_not (saying said (forgetting which said.state)) (forgetting which) refl (may-forget which) after new is either

  module _ (after : ControlState) (new : ℕ → Slot) (is : after ≡ followed before) where
    pub follows : Restates pages before after read new
        → (before ≡ said.state) × (after ≡ followed said.state) × HoldsControl pages log_bytes new (saying said after)
    follows restates =
        let same : after ≡ followed said.state = is ∙ ap followed says in (
          says,
          same,
          subst (λ (s : ControlState). HoldsControl pages log_bytes new (saying said s)) (sym same)
              (restated_holds (saying said (followed said.state)) followed refl may-follow after new is restates),
        )

    pub follows_leaves : Restates pages before after read new → LeavesSaid pages log_bytes new (saying said (followed said.state))
    follows_leaves restates = restated_leaves (saying said (followed said.state)) followed refl may-follow after new is restates

    pub follows_or_not : RestatesOrNot pages before after read new → LeavesEither pages log_bytes new said (saying said (followed said.state))
    follows_or_not either = restated_or_not (saying said (followed said.state)) followed refl may-follow after new is either

  module _ (after : ControlState) (new : ℕ → Slot) (is : after ≡ without_checkpoint before) where
    pub unpublishes : Restates pages before after read new
        → (before ≡ said.state) × (after ≡ without_checkpoint said.state) × HoldsControl pages log_bytes new (unpublished said)
    unpublishes restates = (says, is ∙ ap without_checkpoint says, restated_holds (unpublished said) without_checkpoint refl may-unpublish after new is restates)

    pub unpublishes_leaves : Restates pages before after read new → LeavesSaid pages log_bytes new (unpublished said)
    unpublishes_leaves restates = restated_leaves (unpublished said) without_checkpoint refl may-unpublish after new is restates

    pub unpublishes_or_not : RestatesOrNot pages before after read new → LeavesEither pages log_bytes new said (unpublished said)
    unpublishes_or_not either = restated_or_not (unpublished said) without_checkpoint refl may-unpublish after new is either

-- a read that fails changes nothing
pub unread_leaves : (pages log_bytes : ℕ) (old new : ℕ → Slot) (said after : Said) → SameBlocks old new → HoldsControl pages log_bytes old said → LeavesEither pages log_bytes new said after
unread_leaves pages log_bytes old new said after same holds left keeps =
    inl (LeavesSaid-held pages log_bytes new said (HoldsControl-same pages log_bytes old new said same holds) left keeps)

-- what was read is what the device says
pub read-is : (pages log_bytes : ℕ) (slots : ℕ → Slot) (said : Said) (before : ControlState) → HoldsControl pages log_bytes slots said
    → ((s : ControlState) → IsControlState log_bytes s → HoldsState pages (slots 0) s → before ≡ s) → before ≡ said.state
read-is pages log_bytes slots said before holds only = only said.state holds.fits holds.block
