-- The events of a checkpoint, refused or not, and what they keep.
use Rattle.std.proofs.Common.{◌≡◌, ℕ, ◌<◌, ◌≤◌, ◌⊎◌, Bool, true, false, [], ◌∷◌, Option, Some, None}
use Rattle.std.proofs.Common.{Err, Ok, inl, inr, refl, arith}
use Rattle.std.proofs.lemmas.Bool.{lt-ltb, le-ltb}
use Rattle.std.specs.Prelude.{◌≢◌, not, is_some, is_none, ◌||◌, IsSomeAnd}
use Rattle.als_ckpt.specs.declared.region.Region.{Region}
use Rattle.als_ckpt.specs.declared.region.Region.TheVariants.{First, Second}
use Rattle.als_ckpt.specs.Regions.{Begun, HasBlockLeft, IsWhole, blocks_of, position_of}
use Rattle.als_store.specs.declared.fault.Fault.{Fault as StoreFault}
use Rattle.als_store.specs.declared.fault.Fault.TheVariants as store_fault
use Rattle.als_store.specs.Stored.{Stored, newest, acknowledged}
use Rattle.als_store.specs.CheckpointEvents.{IsBusy, BeginsCheckpoint, NotBegun, WritesBlock}
use Rattle.als_store.specs.CheckpointEvents.{NoBlock, CanPublish, Publishes, BreaksPublish}
use Rattle.als_store.specs.CheckpointEvents.{NotPublished}
use Rattle.als_engine.specs.declared.fault.Fault.{Fault}
use Rattle.als_engine.specs.declared.fault.Fault.TheVariants as fault
use Rattle.als_engine.specs.declared.step.Step.TheVariants as step
use Rattle.als_engine.specs.Faults.{from_store}
use Rattle.als_engine.specs.Machine.{Machine}
use Rattle.als_engine.specs.Refusals.{refusal, first_of, same_region, is_ckpt_busy, has_block}
use Rattle.als_engine.specs.Refusals.{is_partly_synced, is_ahead_of}
use Rattle.als_engine.specs.Checkpointing.{Begins, WritesNext, PublishesNext, CkptBegins}
use Rattle.als_engine.specs.Checkpointing.{CkptWrites, CkptPublishes}
use Rattle.als_engine.proofs.PageLaws.{acting, refusing, with_held, same_held}

-- ---- the tests

-- by the regions that two control states publish
regions_differ : (a b : Option Region) → a ≢ b → not (same_region a b) ≡ true
regions_differ None None h = absurd (h refl)
regions_differ None (Some First) h = refl
regions_differ None (Some Second) h = refl
regions_differ (Some First) None h = refl
regions_differ (Some Second) None h = refl
regions_differ (Some First) (Some First) h = absurd (h refl)
regions_differ (Some First) (Some Second) h = refl
regions_differ (Some Second) (Some First) h = refl
regions_differ (Some Second) (Some Second) h = absurd (h refl)

regions_agree : (a b : Option Region) → (a ≢ b → ⊥) → not (same_region a b) ≡ false
regions_agree None None h = refl
regions_agree None (Some First) h = absurd (h (λ e. cc e))
regions_agree None (Some Second) h = absurd (h (λ e. cc e))
regions_agree (Some First) None h = absurd (h (λ e. cc e))
regions_agree (Some Second) None h = absurd (h (λ e. cc e))
regions_agree (Some First) (Some First) h = refl
regions_agree (Some First) (Some Second) h = absurd (h (λ e. cc e))
regions_agree (Some Second) (Some First) h = absurd (h (λ e. cc e))
regions_agree (Some Second) (Some Second) h = refl

busy_of : (b : Option Begun) (x y : Option Region) → ((b ≢ None) ⊎ (x ≢ y))
    → (is_some b || not (same_region x y)) ≡ true
busy_of (Some b) x y h = refl
busy_of None x y (inl h) = absurd (h refl)
busy_of None x y (inr h) = regions_differ x y h

free_of : (b : Option Begun) (x y : Option Region) → (((b ≢ None) ⊎ (x ≢ y)) → ⊥)
    → (is_some b || not (same_region x y)) ≡ false
free_of (Some b) x y h = absurd (h (inl (λ e. cc e)))
free_of None x y h = regions_agree x y (λ d. h (inr d))

pub busy_is : (s : Stored) → IsBusy s → is_ckpt_busy s ≡ true
busy_is s h = busy_of s.begun (newest s).published s.control.published h

pub free_is : (s : Stored) → (IsBusy s → ⊥) → is_ckpt_busy s ≡ false
free_is s h = free_of s.begun (newest s).published s.control.published h

block_left : (b : Option Begun) → IsSomeAnd b HasBlockLeft → has_block b ≡ true
block_left None h = absurd h
block_left (Some b) h = lt-ltb b.written (blocks_of b.checkpoint) h

-- what is not below is at or above
not_below : (a b : ℕ) → (a < b → ⊥) → b ≤ a
not_below a b h = omega (arith, h)

no_block_left : (b : Option Begun) → (IsSomeAnd b HasBlockLeft → ⊥) → has_block b ≡ false
no_block_left None h = refl
no_block_left (Some b) h =
    le-ltb b.written (blocks_of b.checkpoint) (not_below b.written (blocks_of b.checkpoint) h)

whole_in : (b : Option Begun) → IsSomeAnd b IsWhole → is_partly_synced b ≡ false
whole_in None h = absurd h
whole_in (Some b) h = le-ltb b.synced (blocks_of b.checkpoint) h

partly_in : (b : Option Begun) → IsSomeAnd b (λ x. IsWhole x → ⊥) → is_partly_synced b ≡ true
partly_in None h = absurd h
partly_in (Some b) h = lt-ltb b.synced (blocks_of b.checkpoint) (omega (arith, h))

-- ---- refused, or not

pub begins : (m : Machine) (held : Stored) → m.held.broken ≡ false → BeginsCheckpoint m.held held
    → CkptBegins m (Ok tt) (record m { held = held })
begins m held running done =
    acting m step.CkptBegin (Begins m) (Ok tt) (with_held m held)
    (rw (running, free_is m.held done.free) refl)
    (record { held = held; becomes = done; after = refl })

pub not_begun : (m : Machine) (cause : StoreFault) (held : Stored) → m.held.broken ≡ false
    → NotBegun m.held cause held
    → CkptBegins m (Err (from_store cause)) (record m { held = held })
not_begun m store_fault.CkptBusy held running n =
    refusing m step.CkptBegin (Begins m) fault.CkptBusy (with_held m held)
    (rw (running, busy_is m.held n.0) refl) (same_held m held n.1)
not_begun m store_fault.Memory held running n =
    acting m step.CkptBegin (Begins m) (Err fault.Memory) (with_held m held)
    (rw (running, free_is m.held n.0) refl) (refl, same_held m held n.1)
not_begun m store_fault.NothingToDo held running n = absurd n
not_begun m (store_fault.Invalid c) held running n = absurd n
not_begun m store_fault.LogBehind held running n = absurd n
not_begun m store_fault.PoolFull held running n = absurd n
not_begun m store_fault.PageLent held running n = absurd n
not_begun m store_fault.NumbersSpent held running n = absurd n
not_begun m store_fault.LogFull held running n = absurd n
not_begun m store_fault.Device held running n = absurd n
not_begun m (store_fault.BadPage p) held running n = absurd n

pub writes : (m : Machine) (held : Stored) → m.held.broken ≡ false → WritesBlock m.held held
    → CkptWrites m (Ok tt) (record m { held = held })
writes m held running done =
    acting m step.CkptBlock (WritesNext m) (Ok tt) (with_held m held)
    (rw (running, block_left m.held.begun done.left) refl)
    (record { held = held; becomes = done; after = refl })

pub not_written : (m : Machine) (cause : StoreFault) (held : Stored) → m.held.broken ≡ false
    → NoBlock m.held cause held
    → CkptWrites m (Err (from_store cause)) (record m { held = held })
not_written m store_fault.NothingToDo held running n =
    refusing m step.CkptBlock (WritesNext m) fault.NothingToDo (with_held m held)
    (rw (running, no_block_left m.held.begun n.0) refl) (same_held m held n.1)
not_written m store_fault.Device held running n =
    acting m step.CkptBlock (WritesNext m) (Err fault.Device) (with_held m held)
    (rw (running, block_left m.held.begun n.0) refl)
    (refl, record { held = held; becomes = n.1; after = refl })
not_written m store_fault.CkptBusy held running n = absurd n
not_written m store_fault.Memory held running n = absurd n
not_written m (store_fault.Invalid c) held running n = absurd n
not_written m store_fault.LogBehind held running n = absurd n
not_written m store_fault.PoolFull held running n = absurd n
not_written m store_fault.PageLent held running n = absurd n
not_written m store_fault.NumbersSpent held running n = absurd n
not_written m store_fault.LogFull held running n = absurd n
not_written m (store_fault.BadPage p) held running n = absurd n

-- what a publish asks for, and what stands against it
can_publish : (b : Option Begun) (s new : Stored) → IsSomeAnd b (λ x. Publishes s x new)
    → IsSomeAnd b (λ x. CanPublish s x)
can_publish None s new h = absurd h
can_publish (Some b) s new h = h.can

could_publish : (b : Option Begun) (s new : Stored) → IsSomeAnd b (λ x. BreaksPublish s x new)
    → IsSomeAnd b (λ x. CanPublish s x)
could_publish None s new h = absurd h
could_publish (Some b) s new h = h.can

nothing_against : (b : Option Begun) (s : Stored) → IsSomeAnd b (λ x. CanPublish s x)
    → (is_none b ≡ false) × (is_partly_synced b ≡ false) × (is_ahead_of b s ≡ false)
nothing_against None s h = absurd h
nothing_against (Some b) s h = (
  refl,
  le-ltb b.synced (blocks_of b.checkpoint) h.0,
  le-ltb (acknowledged s) (position_of b)
      h.1,
)

partly : (b : Option Begun) → IsSomeAnd b (λ x. IsWhole x → ⊥)
    → (is_none b ≡ false) × (is_partly_synced b ≡ true)
partly None h = absurd h
partly (Some b) h = (refl, partly_in (Some b) h)

ahead : (b : Option Begun) (s : Stored)
    → IsSomeAnd b (λ x. IsWhole x × (acknowledged s < position_of x))
    → (is_none b ≡ false) × (is_partly_synced b ≡ false) × (is_ahead_of b s ≡ true)
ahead None s h = absurd h
ahead (Some b) s h = (
  refl,
  le-ltb b.synced (blocks_of b.checkpoint) h.0,
  lt-ltb (acknowledged s) (position_of b)
      h.1,
)

-- of four causes none stands, or the last one alone
none_stands : (a b c d : Bool) (v x y z : Fault) → a ≡ false → b ≡ false → c ≡ false → d ≡ false
    → first_of ((a, v) ∷ (b, x) ∷ (c, y) ∷ (d, z) ∷ []) ≡ None
none_stands a b c d v x y z p q r s = rw (p, q, r, s) refl

last_stands : (a b c d : Bool) (v x y z : Fault) → a ≡ false → b ≡ false → c ≡ false → d ≡ true
    → first_of ((a, v) ∷ (b, x) ∷ (c, y) ∷ (d, z) ∷ []) ≡ Some z
last_stands a b c d v x y z p q r s = rw (p, q, r, s) refl

-- no cause stands against a publish
publish_free : (m : Machine) → m.held.broken ≡ false
    → IsSomeAnd m.held.begun (λ b. CanPublish m.held b) → refusal m step.CkptPublish ≡ None
publish_free m running can =
    let free = nothing_against m.held.begun m.held can in
    none_stands m.held.broken (is_none m.held.begun) (is_partly_synced m.held.begun)
    (is_ahead_of m.held.begun m.held) fault.Stopped fault.NothingToDo fault.CkptBusy
    fault.LogBehind
    running free.0 free.1 free.2

publish_behind : (m : Machine) → m.held.broken ≡ false
    → IsSomeAnd m.held.begun (λ b. IsWhole b × (acknowledged m.held < position_of b))
    → refusal m step.CkptPublish ≡ Some fault.LogBehind
publish_behind m running h =
    let a = ahead m.held.begun m.held h in
    last_stands m.held.broken (is_none m.held.begun) (is_partly_synced m.held.begun)
    (is_ahead_of m.held.begun m.held) fault.Stopped fault.NothingToDo fault.CkptBusy
    fault.LogBehind
    running a.0 a.1 a.2

pub publishes : (m : Machine) (held : Stored) → m.held.broken ≡ false
    → IsSomeAnd m.held.begun (λ b. Publishes m.held b held)
    → CkptPublishes m (Ok tt) (record m { held = held })
publishes m held running done =
    acting m step.CkptPublish (PublishesNext m) (Ok tt) (with_held m held)
    (publish_free m running (can_publish m.held.begun m.held held done))
    (record { held = held; becomes = done; after = refl })

pub not_published : (m : Machine) (cause : StoreFault) (held : Stored) → m.held.broken ≡ false
    → NotPublished m.held cause held
    → CkptPublishes m (Err (from_store cause)) (record m { held = held })
not_published m store_fault.NothingToDo held running n =
    refusing m step.CkptPublish (PublishesNext m) fault.NothingToDo (with_held m held)
    (rw (running, n.0) refl) (same_held m held n.1)
not_published m store_fault.CkptBusy held running n =
    let p = partly m.held.begun n.0 in
    refusing m step.CkptPublish (PublishesNext m) fault.CkptBusy (with_held m held)
    (rw (running, p.0, p.1) refl) (same_held m held n.1)
not_published m store_fault.LogBehind held running n =
    refusing m step.CkptPublish (PublishesNext m) fault.LogBehind (with_held m held)
    (publish_behind m running n.0) (same_held m held n.1)
not_published m store_fault.Device held running n =
    acting m step.CkptPublish (PublishesNext m) (Err fault.Device) (with_held m held)
    (publish_free m running (could_publish m.held.begun m.held held n))
    (refl, record { held = held; becomes = n; after = refl })
not_published m store_fault.Memory held running n = absurd n
not_published m (store_fault.Invalid c) held running n = absurd n
not_published m store_fault.PoolFull held running n = absurd n
not_published m store_fault.PageLent held running n = absurd n
not_published m store_fault.NumbersSpent held running n = absurd n
not_published m store_fault.LogFull held running n = absurd n
not_published m (store_fault.BadPage p) held running n = absurd n
