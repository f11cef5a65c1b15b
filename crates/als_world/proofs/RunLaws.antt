-- A run that goes on by one step.
use Rattle.std.proofs.Common.{◌≡◌, ℕ, ◌+◌, ◌<◌, ◌≤◌, List, [], ◌∷◌, ◌++◌, length, take, get_or, refl, sym, subst}
use Rattle.std.proofs.lemmas.List.{take_more, take_all}
use Rattle.als_engine.specs.declared.config.Config.{Config}
use Rattle.als_disk.specs.Slot.{Slot}
use Rattle.als_world.specs.declared.step.WorldStep.{WorldStep}
use Rattle.als_world.specs.declared.step.WorldReply.{WorldReply}
use Rattle.als_world.specs.declared.world.World.{World}
use Rattle.als_world.specs.Standing.{Standing, Shows, Keeps, IsSteady, IsTrue}
use Rattle.als_world.specs.Runs.{Steps, Run}
use Rattle.als_world.proofs.KeepLaws.{keeps-same, keeps-both}

run-more : (config : Config) (old mid new : Standing) (steps : List WorldStep) (replies : List WorldReply) (step : WorldStep) (reply : WorldReply)
    → Run config old steps replies mid → Steps config mid step reply new → Run config old (steps ++ step ∷ []) (replies ++ reply ∷ []) new
unfolding Run
run-more config old mid new [] [] step reply run one = (new, subst (λ (s : Standing). Steps config s step reply new) run one, refl)
run-more config old mid new [] (r ∷ replies) step reply run one = absurd run
run-more config old mid new (s ∷ steps) [] step reply run one = absurd run
run-more config old mid new (s ∷ steps) (r ∷ replies) step reply run one = (run.0, run.1, run-more config run.0 mid new steps replies step reply run.2 one)

-- For each standing that a world showed there is one that it shows now, and a run from the one to the other.
abbrev pub Reaches : {D : Type 0} → (D → ℕ → Slot) → (D → ℕ) → World D → List WorldStep → List WorldReply → World D → Type 0
Reaches slot count before steps replies now =
    (old : Standing) → Shows slot count before old → (new : Standing) × Shows slot count now new × Run before.config old steps replies new × Keeps old new

-- the steps up to one are run, and there is room for the replies to the others
pub record IsUnderWay {D : Type 0} (slot : D → ℕ → Slot) (count : D → ℕ) (before : World D) (steps : List WorldStep) (i : ℕ) (replies : List WorldReply) (now : World D) (len capacity : ℕ) : Type 0 where
  pub reaches : Reaches slot count before (take i steps) replies now
  pub config : now.config ≡ before.config
  pub within : i ≤ length steps
  pub len_is : len ≡ i
  pub room : length steps ≤ capacity

-- one step over a world
abbrev pub Goes : {D : Type 0} → (D → ℕ → Slot) → (D → ℕ) → World D → WorldStep → WorldReply → World D → Type 0
Goes slot count before step reply after =
    (old : Standing) → Shows slot count before old → (new : Standing) × Shows slot count after new × Steps before.config old step reply new × Keeps old new

pub run-next : {D : Type 0} (slot : D → ℕ → Slot) (count : D → ℕ) (before now after : World D) (steps : List WorldStep) (i : ℕ) (d : WorldStep) (reply : WorldReply) (replies : List WorldReply)
    → i < length steps → now.config ≡ before.config → Reaches slot count before (take i steps) replies now → Goes slot count now (get_or steps i d) reply after
    → Reaches slot count before (take (i + 1) steps) (replies ++ reply ∷ []) after
run-next {D} slot count before now after steps i d reply replies lt config reaches goes = λ old shows.
    let mid = reaches old shows in
    let end = goes mid.0 mid.1 in (
      end.0,
      end.1,
      subst (λ (ss : List WorldStep). Run before.config old ss (replies ++ reply ∷ []) end.0) (sym (take_more steps i d lt))
          (run-more before.config old mid.0 end.0 (take i steps) replies (get_or steps i d) reply mid.2
          (subst (λ (c : Config). Steps c mid.0 (get_or steps i d) reply end.0) config end.2)),
      keeps-both old mid.0 end.0 mid.3 end.3,
    )

-- before the first step
pub reaches-none : {D : Type 0} (slot : D → ℕ → Slot) (count : D → ℕ) (world : World D) → ((s : Standing) → Shows slot count world s → IsSteady s) → Reaches slot count world [] [] world
unfolding Run
reaches-none {D} slot count world steady = λ old shows. (old, shows, refl, keeps-same old (steady old shows))

-- after the last one
pub run-done : {D : Type 0} (slot : D → ℕ → Slot) (count : D → ℕ) (before now : World D) (steps : List WorldStep) (i : ℕ) (replies : List WorldReply)
    → length steps ≤ i → Reaches slot count before (take i steps) replies now → ((s : Standing) → Shows slot count now s → IsTrue s)
    → (old : Standing) → Shows slot count before old → (new : Standing) × Shows slot count now new × Run before.config old steps replies new × Keeps old new × IsTrue new
run-done {D} slot count before now steps i replies end reaches whole old shows =
    let all : Reaches slot count before steps replies now = subst (λ (ss : List WorldStep). Reaches slot count before ss replies now) (take_all i steps end) reaches in
    let new = all old shows in
    (new.0, new.1, new.2, new.3, whole new.0 new.1)
