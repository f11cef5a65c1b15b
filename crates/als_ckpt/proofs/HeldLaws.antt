-- What is kept true of the regions, from one call to the next.
use Rattle.std.proofs.Common.{◌≡◌, ◌≢◌, ℕ, ◌+◌, ◌<◌, ◌≤◌, List, [], ◌∷◌, ◌++◌, Option, None, Some, refl, sym, ap, subst, ◌∙◌, arith, inl, inr}
use Rattle.std.specs.Prelude.{Contains, ◌⊎◌}
use Rattle.std.proofs.lemmas.Bool.{cases_lt}
use Rattle.std.proofs.lemmas.List.Elements.{Contains-push_cases}
use Rattle.als_disk.specs.Slot.{Slot, written, KeepsReadable, KeepsCandidate, SameBlocksBut, GivesCandidates}
use Rattle.als_disk.specs.SlotLaws.{Contains-one, readable-write}
use Rattle.als_ckpt_codec.specs.declared.checkpoint.Checkpoint.{Checkpoint}
use Rattle.als_ckpt_codec.specs.Checkpoint.{checkpoint_bytes}
use Rattle.als_ckpt.specs.declared.region.Region.{Region}
use Rattle.als_ckpt.specs.declared.region.Region.TheVariants.{First, Second}
use Rattle.als_ckpt.specs.declared.control_state.ControlState.{ControlState}
use Rattle.als_ckpt.specs.Regions.{first_block, next_region, part_of, blocks_of, Held, nothing_held, held_in, held_at, with_held, with_block, blocks_synced, Begun, IsWhole, HasBlockLeft, HoldsContent, HoldsPublished, IsPublished}
use Rattle.als_ckpt.specs.Control.{last_state, IsApartIf, IsBeginning}
use Rattle.als_ckpt.specs.Kept.{AreHeld, IsBegunIf}
use Rattle.als_ckpt.proofs.PartLaws.{HasPart-part_of}
use Rattle.als_ckpt.proofs.StateLaws.{Contains-last_state}
use Rattle.als_ckpt.proofs.RegionLaws.{same_region, blocks-apart, block-above, next_region-apart, held_in-same, held_in-other, held_at-other, HoldsContent-fewer}

-- blocks that are as they were
candidates-same : (old new : Slot) (content : List ℕ) → new ≡ old → Contains new.candidates content → Contains old.candidates content
candidates-same old new content same has = subst (λ (s : Slot). Contains s.candidates content) same has

readable-same : (old new : Slot) (content : List ℕ) → new ≡ old → Contains new.readable content → Contains old.readable content
readable-same old new content same has = subst (λ (s : Slot). Contains s.readable content) same has

-- what a sync leaves was readable
readable-settled : (old new : Slot) (content : List ℕ) → KeepsReadable old new → Contains new.readable content → Contains old.readable content
readable-settled old new content keeps has =
    subst (λ (x : List ℕ). Contains old.readable x) (Contains-one (subst (λ (s : Slot). Contains s.readable content) keeps.left has)) keeps.was_readable

candidate-settled : (old new : Slot) (content : List ℕ) → KeepsReadable old new → Contains new.candidates content → Contains old.readable content
candidate-settled old new content keeps has =
    subst (λ (x : List ℕ). Contains old.readable x) (Contains-one (subst (λ (s : Slot). Contains s.candidates content) keeps.left has)) keeps.was_readable

-- what a crash leaves was a candidate
candidate-left : (old new : Slot) (content : List ℕ) → KeepsCandidate old new → Contains new.candidates content → Contains old.candidates content
candidate-left old new content keeps has =
    subst (λ (x : List ℕ). Contains old.candidates x) (Contains-one (subst (λ (s : Slot). Contains s.candidates content) keeps.left has)) keeps.was_candidate

pub HoldsPublished-left : (old new : ℕ → Slot) (held : Held) (p : Option Region) → ((r : Region) → HoldsContent old r (held_in held r)) → ((k : ℕ) → KeepsCandidate (old k) (new k))
    → HoldsPublished new p (held_at held p)
HoldsPublished-left old new held None regions keeps = tt
HoldsPublished-left old new held (Some r) regions keeps =
    HoldsContent-fewer old new r (held_in held r) (λ k below content has. candidate-left (old (first_block r + k)) (new (first_block r + k)) content (keeps (first_block r + k)) has) (regions r)

-- a new database, which has no checkpoint
pub AreHeld-none : (slots : ℕ → Slot) (pages : ℕ) (s : ControlState) → s.published ≡ None → AreHeld slots pages s s [] nothing_held None
AreHeld-none slots pages s none = record {
  regions = λ r. nothing r;
  named = λ t has. named-none t.published t.position.0 (ap (λ (x : ControlState). x.published) (sym (Contains-one has)) ∙ none);
  places = λ t has. inl (ap (λ (x : ControlState). x.published) (sym (Contains-one has)));
  apart = tt;
  begun_on = tt;
} where
  nothing : (r : Region) → HoldsContent slots r (held_in nothing_held r)
  nothing First = tt
  nothing Second = tt

  named-none : (p : Option Region) (position : ℕ) → p ≡ None → IsPublished pages p position (held_at nothing_held p)
  named-none None position e = refl
  named-none (Some r) position e = absurd (cc e)

module _ (old new : ℕ → Slot) (pages : ℕ) (synced newest : ControlState) (since : List ControlState) (held : Held) where
  -- ---- a write of the control block
  apart-written : (s : ControlState) (begun : Option Begun) → IsApartIf pages synced newest held begun
      → (s.published ≡ newest.published) ⊎ ((begun ≡ None) × (newest.published ≡ synced.published)) → IsApartIf pages synced s held begun
  apart-written s None was place = tt
  apart-written s (Some b) was (inl e) = (was.0, record { same = e ∙ was.1.same; apart = was.1.apart ∙ ap next_region (sym e); unknown = was.1.unknown; beginning = was.1.beginning })
  apart-written s (Some b) was (inr never) = absurd (cc (never.0))

  begun-same : (begun : Option Begun) → SameBlocksBut 0 old new → IsBegunIf old begun → IsBegunIf new begun
  begun-same None others was = tt
  begun-same (Some b) others was = record {
    written = λ k lt content has. was.written k lt content (readable-same (old (first_block b.region + k)) (new (first_block b.region + k)) content (others (first_block b.region + k) (block-above b.region k)) has);
    synced = λ k lt content has. was.synced k lt content (candidates-same (old (first_block b.region + k)) (new (first_block b.region + k)) content (others (first_block b.region + k) (block-above b.region k)) has);
  }

  -- nothing was written
  pub AreHeld-same : (begun : Option Begun) → AreHeld old pages synced newest since held begun → ((k : ℕ) → new k ≡ old k) → AreHeld new pages synced newest since held begun
  AreHeld-same begun kept same = record {
    regions = λ r. HoldsContent-fewer old new r (held_in held r) (λ k below content has. candidates-same (old (first_block r + k)) (new (first_block r + k)) content (same (first_block r + k)) has) (kept.regions r);
    named = kept.named;
    places = kept.places;
    apart = kept.apart;
    begun_on = begun-same begun (λ k other. same k) kept.begun_on;
  }

  pub AreHeld-written : (s : ControlState) (begun : Option Begun) → AreHeld old pages synced newest since held begun → SameBlocksBut 0 old new
      → IsPublished pages s.published s.position.0 (held_at held s.published)
      → (s.published ≡ newest.published) ⊎ ((begun ≡ None) × (newest.published ≡ synced.published))
      → AreHeld new pages synced s (since ++ s ∷ []) held begun
  AreHeld-written s begun kept others named place = record {
    regions = λ r. HoldsContent-fewer old new r (held_in held r)
        (λ k below content has. candidates-same (old (first_block r + k)) (new (first_block r + k)) content (others (first_block r + k) (block-above r k)) has) (kept.regions r);
    named = λ t has.
        elim (Contains-push_cases (synced ∷ since) s t has) [
          | inl before ↦ kept.named t before
          | inr same ↦ subst (λ (x : ControlState). IsPublished pages x.published x.position.0 (held_at held x.published)) same named
        ];
    places = λ t has.
        elim (Contains-push_cases (synced ∷ since) s t has) [
          | inl before ↦ place-before t (kept.places t before) place
          | inr same ↦ inr (ap (λ (x : ControlState). x.published) (sym same))
        ];
    apart = apart-written s begun kept.apart place;
    begun_on = begun-same begun others kept.begun_on;
  } where
    place-before : (t : ControlState) → (t.published ≡ synced.published) ⊎ (t.published ≡ newest.published)
        → (s.published ≡ newest.published) ⊎ ((begun ≡ None) × (newest.published ≡ synced.published)) → (t.published ≡ synced.published) ⊎ (t.published ≡ s.published)
    place-before t (inl e) to = inl e
    place-before t (inr e) (inl same) = inr (e ∙ sym same)
    place-before t (inr e) (inr settled) = inl (e ∙ settled.1)

  -- ---- a write of a checkpoint's next block
  module _ (b : Begun) (kept : AreHeld old pages synced newest since held (Some b)) (left : HasBlockLeft b) (others : SameBlocksBut (first_block b.region + b.written) old new) where
    within : b.written < 160
    within = let few : blocks_of b.checkpoint ≤ 160 = kept.apart.0.few in omega (arith, left, few)

    not_next : (k : ℕ) → k < b.written → first_block b.region + k ≢ first_block b.region + b.written
    not_next k lt = λ (e : first_block b.region + k ≡ first_block b.region + b.written). absurd (omega (arith, e, lt))

    regions-beside : (r : Region) → HoldsContent new r (held_in held r)
    regions-beside r =
        elim (same_region r b.region) [
          | inl same ↦ subst (λ (x : Option Checkpoint). HoldsContent new r x) (sym (ap (held_in held) same ∙ kept.apart.1.unknown)) tt
          | inr other ↦ HoldsContent-fewer old new r (held_in held r)
              (λ k below content has. candidates-same (old (first_block r + k)) (new (first_block r + k)) content
              (others (first_block r + k) (blocks-apart r b.region k b.written below within other)) has) (kept.regions r)
        ]

    on-synced : (k : ℕ) → k < b.synced → (content : List ℕ) → Contains (new (first_block b.region + k)).candidates content → content ≡ part_of (checkpoint_bytes b.checkpoint) k
    on-synced k lt content has =
        let order : b.synced ≤ b.written = kept.apart.0.order in
        kept.begun_on.synced k lt content (candidates-same (old (first_block b.region + k)) (new (first_block b.region + k)) content (others (first_block b.region + k) (not_next k (omega (arith, lt, order)))) has)

    on-written : (k : ℕ) → k < b.written → (content : List ℕ) → Contains (new (first_block b.region + k)).readable content → content ≡ part_of (checkpoint_bytes b.checkpoint) k
    on-written k lt content has =
        kept.begun_on.written k lt content (readable-same (old (first_block b.region + k)) (new (first_block b.region + k)) content (others (first_block b.region + k) (not_next k lt)) has)

    -- one that failed
    pub AreHeld-tried : AreHeld new pages synced newest since held (Some b)
    AreHeld-tried = record {
      regions = regions-beside;
      named = kept.named;
      places = kept.places;
      apart = kept.apart;
      begun_on = record { written = on-written; synced = on-synced };
    }

    -- one that succeeded
    pub AreHeld-block : new (first_block b.region + b.written) ≡ written (old (first_block b.region + b.written)) (part_of (checkpoint_bytes b.checkpoint) b.written)
        → AreHeld new pages synced newest since held (Some (with_block b))
    AreHeld-block is = record {
      regions = regions-beside;
      named = kept.named;
      places = kept.places;
      apart = (record { order = (let order : b.synced ≤ b.written = kept.apart.0.order in omega (arith, order)); within = omega (arith, left); few = kept.apart.0.few }, record { same = kept.apart.1.same; apart = kept.apart.1.apart; unknown = kept.apart.1.unknown; beginning = kept.apart.1.beginning });
      begun_on = record {
        written = λ k lt content has.
            elim (cases_lt k b.written) [
              | inl below ↦ on-written k below content has
              | inr le ↦
                  let last : k ≡ b.written = omega (arith, lt, le) in
                  let there : Contains (new (first_block b.region + b.written)).readable content = subst (λ (n : ℕ). Contains (new (first_block b.region + n)).readable content) last has in
                  sym (readable-write (old (first_block b.region + b.written)) (new (first_block b.region + b.written)) (part_of (checkpoint_bytes b.checkpoint) b.written) content is there)
                  ∙ ap (λ (n : ℕ). part_of (checkpoint_bytes b.checkpoint) n) (sym last)
            ];
        synced = on-synced;
      };
    }

  -- ---- a sync
  apart-synced : (begun : Option Begun) → IsApartIf pages synced newest held begun → IsApartIf pages newest newest held (blocks_synced begun)
  apart-synced None was = tt
  apart-synced (Some b) was = (record { order = omega arith; within = was.0.within; few = was.0.few }, record { same = refl; apart = was.1.apart; unknown = was.1.unknown; beginning = was.1.beginning })

  begun-synced : (begun : Option Begun) → ((k : ℕ) → KeepsReadable (old k) (new k)) → IsBegunIf old begun → IsBegunIf new (blocks_synced begun)
  begun-synced None keeps was = tt
  begun-synced (Some b) keeps was = record {
    written = λ k lt content has. was.written k lt content (readable-settled (old (first_block b.region + k)) (new (first_block b.region + k)) content (keeps (first_block b.region + k)) has);
    synced = λ k lt content has. was.written k lt content (candidate-settled (old (first_block b.region + k)) (new (first_block b.region + k)) content (keeps (first_block b.region + k)) has);
  }

  pub AreHeld-synced : (begun : Option Begun) → AreHeld old pages synced newest since held begun → newest ≡ last_state synced since → GivesCandidates old
      → ((k : ℕ) → KeepsReadable (old k) (new k)) → AreHeld new pages newest newest [] held (blocks_synced begun)
  AreHeld-synced begun kept last gives keeps = record {
    regions = λ r. HoldsContent-fewer old new r (held_in held r)
        (λ k below content has. gives.candidates (first_block r + k) content
        (candidate-settled (old (first_block r + k)) (new (first_block r + k)) content (keeps (first_block r + k)) has)) (kept.regions r);
    named = λ t has. subst (λ (x : ControlState). IsPublished pages x.published x.position.0 (held_at held x.published)) (Contains-one has)
        (kept.named newest (subst (Contains (synced ∷ since)) (sym last) (Contains-last_state synced since)));
    places = λ t has. inl (ap (λ (x : ControlState). x.published) (sym (Contains-one has)));
    apart = apart-synced begun kept.apart;
    begun_on = begun-synced begun keeps kept.begun_on;
  }

module _ (slots : ℕ → Slot) (pages : ℕ) (synced newest : ControlState) (since : List ControlState) (held : Held) where
  -- while all states name one region, none names the next one
  names-other : (r : Region) (t : ControlState) → newest.published ≡ synced.published → r ≡ next_region newest.published
      → (t.published ≡ synced.published) ⊎ (t.published ≡ newest.published) → t.published ≢ Some r
  names-other r t same next (inl e) = λ (h : t.published ≡ Some r). next_region-apart newest.published r next (same ∙ sym e ∙ h)
  names-other r t same next (inr e) = λ (h : t.published ≡ Some r). next_region-apart newest.published r next (sym e ∙ h)

  named-other : (r : Region) (x : Option Checkpoint) (t : ControlState) → t.published ≢ Some r → IsPublished pages t.published t.position.0 (held_at held t.published)
      → IsPublished pages t.published t.position.0 (held_at (with_held held r x) t.published)
  named-other r x t other was = subst (λ (y : Option Checkpoint). IsPublished pages t.published t.position.0 y) (sym (held_at-other held r x t.published other)) was

  region-changed : (r : Region) (x : Option Checkpoint) → HoldsContent slots r x → ((t : Region) → HoldsContent slots t (held_in held t)) → (t : Region) → HoldsContent slots t (held_in (with_held held r x) t)
  region-changed r x now was t =
      elim (same_region t r) [
        | inl same ↦ subst (λ (y : Region). HoldsContent slots y (held_in (with_held held r x) y)) (sym same) (subst (λ (y : Option Checkpoint). HoldsContent slots r y) (sym (held_in-same held r x)) now)
        | inr other ↦ subst (λ (y : Option Checkpoint). HoldsContent slots t y) (sym (held_in-other held r t x other)) (was t)
      ]

  -- a checkpoint is begun
  pub AreHeld-begun : (r : Region) (c : Checkpoint) → AreHeld slots pages synced newest since held None → newest.published ≡ synced.published → r ≡ next_region newest.published
      → blocks_of c ≤ 160 → IsBeginning pages c
      → AreHeld slots pages synced newest since (with_held held r None) (Some (record { region = r; checkpoint = c; written = 0; synced = 0 }))
  AreHeld-begun r c kept same next few beginning = record {
    regions = region-changed r None tt kept.regions;
    named = λ t has. named-other r None t (names-other r t same next (kept.places t has)) (kept.named t has);
    places = kept.places;
    apart = (record { order = omega arith; within = omega arith; few = few }, record { same = same; apart = next; unknown = held_in-same held r None; beginning = beginning });
    begun_on = record { written = λ k lt content has. absurd (omega (arith, lt)); synced = λ k lt content has. absurd (omega (arith, lt)) };
  }

  -- a checkpoint is whole
  pub AreHeld-whole : (b : Begun) → AreHeld slots pages synced newest since held (Some b) → IsWhole b → AreHeld slots pages synced newest since (with_held held b.region (Some b.checkpoint)) None
  AreHeld-whole b kept whole = record {
    regions = region-changed b.region (Some b.checkpoint)
        (record { few = kept.apart.0.few; parts = λ k below content has. HasPart-part_of (checkpoint_bytes b.checkpoint) k content (kept.begun_on.synced k (omega (arith, below, whole)) content has) }) kept.regions;
    named = λ t has. named-other b.region (Some b.checkpoint) t (names-other b.region t kept.apart.1.same kept.apart.1.apart (kept.places t has)) (kept.named t has);
    places = kept.places;
    apart = tt;
    begun_on = tt;
  }
