-- What the control block says of a node that was taken back.
use Rattle.std.proofs.Common.{◌≡◌, ℕ, ◌+◌, ◌≤◌, List, [], ◌∷◌, ◌++◌, Option, None, Some, refl, sym, ap, subst, ◌∙◌, arith}
use Rattle.std.specs.Prelude.{slice_get}
use Rattle.als_disk.specs.Slot.{Slot}
use Rattle.als_disk.specs.SlotLaws.{Contains-one}
use Rattle.als_epochs.specs.Histories.{IsHistory, RisesFrom, next_seal}
use Rattle.als_ckpt.specs.declared.control_state.ControlState.{ControlState}
use Rattle.als_ckpt.specs.Control.{IsControlState, Continues, Controlled, first_state, new_control, newest, settled, with_state, said_of}
use Rattle.als_ckpt.specs.Regions.{held_at, nothing_held}
use Rattle.als_ckpt.specs.Holding.{HoldsControl, HoldsOneOf}
use Rattle.als_rewind.specs.Fronts.{front_state, front_said}

pub fits : (log_bytes mark : ℕ) (seals : List ℕ) → 16 ≤ mark → mark ≤ log_bytes → IsHistory seals → RisesFrom 16 seals → IsControlState log_bytes (front_state seals mark)
fits log_bytes mark seals low within history rises = record {
  begins = low;
  in_log = within;
  position = refl;
  seal = refl;
  history = history;
  lsns = rises;
  last = tt;
}

first_low : (seals : List ℕ) (seal : ℕ) → RisesFrom 16 seals → next_seal [] seals ≡ Some seal → 16 ≤ seal
first_low [] seal rises e = absurd cc
first_low (x ∷ xs) seal rises e = let same : x ≡ seal = cc in omega (arith, rises.0, same)

pub continues : (seals : List ℕ) (mark : ℕ) → RisesFrom 16 seals → Continues first_state (front_state seals mark)
continues seals mark rises = record { history = (seals, refl); below = λ seal e. first_low seals seal rises e }

-- a device that says one state alone
pub says_one : (pages log_bytes blocks failures attempts : ℕ) (s : ControlState) (left : ℕ → Slot) → s.published ≡ None → HoldsOneOf (settled (with_state (new_control pages log_bytes first_state blocks failures attempts) s)) left
    → HoldsControl pages log_bytes left (record { state = s; checkpoint = None })
says_one pages log_bytes blocks failures attempts s left none o =
    let is : o.state ≡ s = sym (Contains-one o.among) in
    let said : said_of (settled (with_state (new_control pages log_bytes first_state blocks failures attempts) s)) s ≡ record { state = s; checkpoint = None } = ap (λ p. record { state = s; checkpoint = held_at nothing_held p }) none in
    subst (HoldsControl pages log_bytes left) (ap (said_of (settled (with_state (new_control pages log_bytes first_state blocks failures attempts) s))) is ∙ said) o.holds
