-- Laws of regions and of what they hold.
use Rattle.std.proofs.Common.{◌≡◌, ◌≢◌, ℕ, ◌+◌, ◌-◌, ◌*◌, ◌<◌, ◌≤◌, List, ◌++◌, length, take, drop, min, replicate, Option, None, Some, refl, sym, ap, subst, ◌∙◌, arith, inl, inr}
use Rattle.std.specs.Prelude.{Contains, ◌⊎◌}
use Rattle.std.proofs.lemmas.Bool.{cases_lt}
use Rattle.std.proofs.lemmas.List.{drop-replicate, take_all}
use Rattle.als_record.specs.declared.lsn.Lsn.{Lsn}
use Rattle.als_disk.specs.Slot.{Slot}
use Rattle.als_ckpt_codec.specs.declared.checkpoint.Checkpoint.{Checkpoint}
use Rattle.als_ckpt.specs.declared.region.Region.{Region}
use Rattle.als_ckpt.specs.declared.region.Region.TheVariants.{First, Second}
use Rattle.als_ckpt.specs.Regions.{first_block, next_region, padded, blocks_for, blocks_of, Held, held_in, held_at, with_held, IsBegun, HoldsContent}
use Rattle.als_ckpt.specs.Kept.{IsSpelled}

-- ---- blocks

pub blocks_for-few : (n : ℕ) → n ≤ 81920 → blocks_for n ≤ 160
unfolding blocks_for
blocks_for-few n le = omega (arith, le)

pub blocks_for-below : (n b : ℕ) → b < blocks_for n → 512 * b < n
unfolding blocks_for
blocks_for-below n b lt = omega (arith, lt)

-- the code's spelling of a block
pub padded-cut : (rest front : List ℕ) (n : ℕ) → n ≡ min (length rest) 512 → front ≡ take n rest → front ++ drop (length front) (replicate 512 0) ≡ padded (take 512 rest)
unfolding padded
padded-cut rest front n is cut =
    let same : take n rest ≡ take 512 rest =
    elim (cases_lt (length rest) 512) [
      | inl lt ↦ take_all n rest (omega (arith, is, lt)) ∙ sym (take_all 512 rest (omega (arith, lt)))
      | inr le ↦ let full : n ≡ 512 = omega (arith, is, le) in ap (λ (k : ℕ). take k rest) full
    ] in
    let whole : front ≡ take 512 rest = cut ∙ same in
    ap (λ (xs : List ℕ). front ++ xs) (drop-replicate (length front) 512 0) ∙ ap (λ (xs : List ℕ). xs ++ replicate (512 - length xs) 0) whole

-- ---- regions

pub same_region : (r t : Region) → (r ≡ t) ⊎ (r ≡ t → ⊥)
same_region First First = inl refl
same_region First Second = inr (λ e. absurd (cc e))
same_region Second First = inr (λ e. absurd (cc e))
same_region Second Second = inl refl

-- no block belongs to both regions, nor does block 0 to one
pub blocks-apart : (r t : Region) (k n : ℕ) → k < 160 → n < 160 → (r ≡ t → ⊥) → first_block r + k ≢ first_block t + n
blocks-apart First First k n lk ln other = absurd (other refl)
blocks-apart First Second k n lk ln other = λ (e : 1 + k ≡ 161 + n). absurd (omega (arith, e, lk))
blocks-apart Second First k n lk ln other = λ (e : 161 + k ≡ 1 + n). absurd (omega (arith, e, ln))
blocks-apart Second Second k n lk ln other = absurd (other refl)

pub first_block-few : (r : Region) → first_block r ≤ 161
first_block-few First = omega arith
first_block-few Second = omega arith

pub block-above : (r : Region) (k : ℕ) → first_block r + k ≢ 0
block-above First k = λ (e : 1 + k ≡ 0). absurd (omega (arith, e))
block-above Second k = λ (e : 161 + k ≡ 0). absurd (omega (arith, e))

pub block-below : (r : Region) (k : ℕ) → k < 160 → first_block r + k < 321
block-below First k lt = omega (arith, lt)
block-below Second k lt = omega (arith, lt)

-- the next region is not the one that is published
pub next_region-apart : (p : Option Region) (r : Region) → r ≡ next_region p → p ≢ Some r
next_region-apart None r e = λ (h : None ≡ Some r). absurd (cc h)
next_region-apart (Some First) r e = λ (h : Some First ≡ Some r). absurd (cc (h, e))
next_region-apart (Some Second) r e = λ (h : Some Second ≡ Some r). absurd (cc (h, e))

-- ---- what regions hold

pub held_in-same : (held : Held) (r : Region) (x : Option Checkpoint) → held_in (with_held held r x) r ≡ x
held_in-same held First x = refl
held_in-same held Second x = refl

pub held_in-other : (held : Held) (r t : Region) (x : Option Checkpoint) → (t ≡ r → ⊥) → held_in (with_held held r x) t ≡ held_in held t
held_in-other held First First x other = absurd (other refl)
held_in-other held First Second x other = refl
held_in-other held Second First x other = refl
held_in-other held Second Second x other = absurd (other refl)

pub held_at-other : (held : Held) (r : Region) (x : Option Checkpoint) (p : Option Region) → p ≢ Some r → held_at (with_held held r x) p ≡ held_at held p
held_at-other held r x None other = refl
held_at-other held r x (Some t) other = held_in-other held r t x (λ e. other (ap (λ (y : Region). Some y) e))

-- fewer candidates hold the same
pub HoldsContent-fewer : (old new : ℕ → Slot) (r : Region) (x : Option Checkpoint)
    → ((k : ℕ) → k < 160 → (content : List ℕ) → Contains (new (first_block r + k)).candidates content → Contains (old (first_block r + k)).candidates content)
    → HoldsContent old r x → HoldsContent new r x
HoldsContent-fewer old new r None fewer h = tt
HoldsContent-fewer old new r (Some c) fewer h = record {
  few = h.few;
  parts = λ b below content has. let few : blocks_of c ≤ 160 = h.few in h.parts b below content (fewer b (omega (arith, below, few)) content has);
}

-- ---- a checkpoint that is being written

pub IsBegun-spelled : (region : Region) (c : Checkpoint) (position : Lsn) (bytes : List ℕ) (written synced : ℕ) → IsSpelled c position bytes written synced
    → IsBegun (record { region = region; checkpoint = c; written = written; synced = synced })
IsBegun-spelled region c position bytes written synced h = record {
  order = h.order;
  within = subst (λ (xs : List ℕ). written ≤ blocks_for (length xs)) h.spelled h.within;
  few = subst (λ (xs : List ℕ). blocks_for (length xs) ≤ 160) h.spelled (blocks_for-few (length bytes) h.few);
}
