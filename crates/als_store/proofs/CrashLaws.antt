-- What a crash leaves of devices, by the picks that each of them takes.
use Rattle.std.proofs.Common.{◌≡◌, ℕ, ◌+◌, ◌-◌, List, ap, subst, ◌∙◌, arith}
use Rattle.std.specs.Prelude.{length, min, drop, Contains}
use Rattle.std.proofs.lemmas.List.{drop_min, drop-drop, length-drop}
use Rattle.als_disk.specs.Crash.{LeavesPicked}
use Rattle.als_disk.specs.Slot.{Slot}
use Rattle.als_disk.specs.SlotLaws.{Contains-one}
use Rattle.als_store.specs.Devices.{AreKept}
use Rattle.als_store.specs.Leaving.{IsCrashOf}
use Rattle.als_store.specs.Stopped.{Devices, LeavesByPicks, choices_of}
use Rattle.als_store.specs.Stored.{Stored}

-- what a device has taken of the picks is gone, whether or not there were enough
pub drop_used : (picks : List ℕ) (choices used : ℕ) → used ≡ min (length picks) choices
    → drop used picks ≡ drop choices picks
drop_used picks choices used is =
    let turned : used ≡ min choices (length picks) = omega (arith, is) in
    ap (λ (n : ℕ). drop n picks) turned ∙ drop_min choices picks

-- the one content that a crash leaves in a block was one of its candidates
pub left_was : (old left : ℕ → Slot) (k : ℕ) (x : List ℕ) → IsCrashOf old left
    → Contains (left k).candidates x → Contains (old k).candidates x
left_was old left k x crash has =
    let kept = crash k in
    let same : kept.content ≡ x =
    Contains-one (subst (λ (s : Slot). Contains s.candidates x) kept.left has) in
    subst (λ (y : List ℕ). Contains (old k).candidates y) same kept.was_candidate

-- what devices hold of all acknowledged bytes they hold after a crash
pub still_kept : (s : Stored) (log control left_log left_control : ℕ → Slot)
    → IsCrashOf log left_log → IsCrashOf control left_control → AreKept s log control
    → AreKept s left_log left_control
still_kept s log control left_log left_control log_left control_left k = record {
  text = λ b x has. k.text b x (left_was log left_log b x log_left has);
  marks = λ x has. k.marks x (left_was control left_control 0 x control_left has);
  valid = k.valid;
  room = k.room;
  fit = k.fit;
}

-- three devices that take the picks one after another
pub by_picks : (old left : Devices) (picks rest more : List ℕ) (first second third : ℕ)
    → LeavesPicked old.log.slot picks left.log.slot
    → first ≡ min (length picks) (choices_of old.log) → rest ≡ drop first picks
    → LeavesPicked old.control.slot rest left.control.slot
    → second ≡ min (length rest) (choices_of old.control) → more ≡ drop second rest
    → LeavesPicked old.pages.slot more left.pages.slot
    → third ≡ min (length more) (choices_of old.pages)
    → LeavesByPicks old picks left (first + second + third)
by_picks old left picks rest more first second third log took behind control took_too behind_too pages last =
    let a = choices_of old.log in
    let b = choices_of old.control in
    let rest_is : rest ≡ drop a picks = behind ∙ drop_used picks a first took in
    let more_is : more ≡ drop (a + b) picks =
    behind_too ∙ drop_used rest b second took_too ∙ ap (drop b) rest_is ∙ drop-drop b a picks in
    let len_rest : length rest ≡ length picks - a = ap length rest_is ∙ length-drop a picks in
    let len_more : length more ≡ length picks - (a + b) =
    ap length more_is ∙ length-drop (a + b) picks in
    record {
      log = log;
      control = subst (λ (xs : List ℕ). LeavesPicked old.control.slot xs left.control.slot) rest_is
          control;
      pages = subst (λ (xs : List ℕ). LeavesPicked old.pages.slot xs left.pages.slot) more_is pages;
      used = omega (arith, took, took_too, last, len_rest, len_more);
    }
