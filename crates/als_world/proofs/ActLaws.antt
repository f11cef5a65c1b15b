-- Each step of a world that stays up, by what carries it.
use Rattle.std.proofs.Common.{◌≡◌, ℕ, List, Option, refl}
use Rattle.als_record.specs.declared.key.Key.{Key}
use Rattle.als_lease.specs.Lease.{Leased}
use Rattle.als_engine.specs.declared.step.Step.{Step}
use Rattle.als_engine.specs.declared.step.Reply.{Reply}
use Rattle.als_engine.specs.Machine.{Machine}
use Rattle.als_engine.specs.Runs.{Steps as EngineSteps}
use Rattle.als_world.specs.declared.step.WorldStep.TheVariants as step
use Rattle.als_world.specs.declared.step.WorldReply.{WorldReply}
use Rattle.als_world.specs.declared.step.WorldReply.TheVariants as reply
use Rattle.als_world.specs.Leasing.{BySlot, LendsInto, RedoesIn, HandsOver, GivesFrom, DropsFrom}
use Rattle.als_world.specs.Runs.{Acts, AnswersRead}

module _ (old : Machine) (slots : List (Option Leased)) where
  pub acts_event : (event : Step) (answer : Reply) (new : Machine) → EngineSteps old event answer new → Acts old slots (step.Event event) (reply.Event answer) new slots
  unfolding Acts
  acts_event event answer new steps = (steps, refl)

  pub acts_read : (key : Key) (answer : WorldReply) → AnswersRead old key answer → Acts old slots (step.Read key) answer old slots
  unfolding Acts
  acts_read key answer reads = (reads, refl, refl)

  pub acts_lend : (page to : ℕ) (answer : WorldReply) (new : Machine) (after : List (Option Leased))
      → BySlot slots (step.Lend page to) answer (LendsInto old slots page to answer new after) ((new ≡ old) × (after ≡ slots)) → Acts old slots (step.Lend page to) answer new after
  unfolding Acts
  acts_lend page to answer new after lends = lends

  pub acts_redo : (at : ℕ) (answer : WorldReply) (after : List (Option Leased)) → BySlot slots (step.Redo at) answer (RedoesIn slots at answer after) (after ≡ slots)
      → Acts old slots (step.Redo at) answer old after
  unfolding Acts
  acts_redo at answer after redoes = (redoes, refl)

  pub acts_hand : (from to : ℕ) (answer : WorldReply) (after : List (Option Leased)) → BySlot slots (step.Hand from to) answer (HandsOver slots from to answer after) (after ≡ slots)
      → Acts old slots (step.Hand from to) answer old after
  unfolding Acts
  acts_hand from to answer after hands = (hands, refl)

  pub acts_give : (from : ℕ) (answer : WorldReply) (new : Machine) (after : List (Option Leased))
      → BySlot slots (step.Give from) answer (GivesFrom old slots from answer new after) ((new ≡ old) × (after ≡ slots)) → Acts old slots (step.Give from) answer new after
  unfolding Acts
  acts_give from answer new after gives = gives

  pub acts_drop : (from : ℕ) (answer : WorldReply) (after : List (Option Leased)) → BySlot slots (step.Drop from) answer (DropsFrom slots from answer after) (after ≡ slots)
      → Acts old slots (step.Drop from) answer old after
  unfolding Acts
  acts_drop from answer after drops = (drops, refl)
