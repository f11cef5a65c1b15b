use Rattle.std.proofs.Common.{arith, ◌≡◌, ◌<◌, ℕ, zero, suc, true, false, [], ◌∷◌, ◌∙◌, sym, ap, is_some, length-drop, refl}
use Rattle.std.proofs.lemmas.Bool.{false≢true}
use Rattle.std.proofs.lemmas.List.{nil_from_length}
use Rattle.als_disk.specs.Crash.{picked}
use Rattle.als_disk.specs.Slot.{only}
use Rattle.als_disk.specs.Store.{slot_of, synced_content}
use Rattle.als_disk.specs.Unsynced.{contents}
use Rattle.als_disk.proofs.Maps.{ContainsKey-pop, TakesFirst-pop, slot_of-empty, choices_below-empty, picked_content-empty}
use Rattle.als_disk.proofs.Picks.{TakesFirst, picked_content-rest, used_with_rest}
use Rattle.als_disk.proofs.store.settle_by.Goals as goal

pub loop-i-preserved : goal.loop-i-preserved
loop-i-preserved c =
    let stays = λ (k : ℕ). ContainsKey-pop c.loop-i.unsynced c.pop_first.new.self c.in-Some.i k c.in-Some.ensures.updates in
    let left = c.settle_one.ensures.picked ∙ ap (picked (synced_content c.loop-i.synced c.in-Some.i ∷ contents c.in-Some.writes)) c.first_pick-pick.ensures.pick in
    -- the block that is popped takes the first of the picks that are left
    let taken : TakesFirst (slot_of c.loop-i.synced c.loop-i.unsynced) c.loop-i.left.now c.in-Some.i (slot_of c.settle_one.new.synced c.pop_first.new.self)
    = TakesFirst-pop c.loop-i.synced c.settle_one.new.synced c.loop-i.unsynced c.pop_first.new.self c.in-Some.i c.in-Some.writes c.loop-i.left.now
    c.in-Some.ensures.value c.in-Some.ensures.least c.in-Some.ensures.updates left c.settle_one.ensures.others in
    record {
      picked = λ k. rw c.first_pick-pick.ensures.others (picked_content-rest _ _ c.loop-i.left.now c.in-Some.i taken k ∙ c.loop-i.invariant.picked k);
      room = λ k has. omega (arith, c.settle_one.ensures.kept, c.loop-i.invariant.room k (stays k has));
      in_range = λ blocks in_range k has. c.loop-i.invariant.in_range blocks in_range k (stays k has);
      used = λ blocks in_range.
          let below = c.loop-i.invariant.in_range blocks in_range c.in-Some.i (ap is_some c.in-Some.ensures.value) in
          rw c.first_pick-pick.ensures.others (omega (arith, used_with_rest _ _ c.loop-i.left.now c.in-Some.i taken blocks below, c.loop-i.invariant.used blocks in_range));
      shorter = rw c.first_pick-pick.ensures.others (omega (arith, length-drop 1 c.loop-i.left.now, c.loop-i.invariant.shorter));
    }

zero_from : (n : ℕ) → (0 < n → false ≡ true) → n ≡ 0
zero_from zero h = refl
zero_from (suc n) h = absurd (false≢true (h (omega arith)))

-- nothing is left to settle
empty : (c : goal.In_default) → c.loop-i.unsynced.entries ≡ []
empty c = nil_from_length c.loop-i.unsynced.entries (zero_from _ c.in_default.ensures.variant.1)

pub returns-clause-picked : goal.returns-clause-picked
returns-clause-picked c = λ k.
    slot_of-empty c.loop-i.synced c.pop_first.new.self (c.in_default.ensures.unchanged ∙ empty c) k
    ∙ ap only (sym (picked_content-empty c.loop-i.synced c.loop-i.unsynced (empty c) c.loop-i.left.now k) ∙ c.loop-i.invariant.picked k)

pub returns-clause-used : goal.returns-clause-used
returns-clause-used c = λ blocks in_range.
    omega (arith, c.loop-i.invariant.used blocks in_range, choices_below-empty c.loop-i.synced c.loop-i.unsynced (empty c) blocks)
