-- Devices that hold a node are taken up with it.
use Rattle.std.proofs.Common.{◌≡◌, ◌⊎◌, ℕ, ◌*◌, ◌<◌, ◌≤◌, List, Option, None, Some, refl, sym, ap, subst, ◌∙◌, inl, inr, arith}
use Rattle.std.specs.Prelude.{Contains, IfSome}
use Rattle.als_record.specs.LogText.{log_text, end_of}
use Rattle.als_disk.specs.Slot.{Slot}
use Rattle.als_log.specs.Texts.{AllHaveText}
use Rattle.als_scan.specs.Texts.{text_of}
use Rattle.als_ckpt_codec.specs.declared.checkpoint.Checkpoint.{Checkpoint}
use Rattle.als_ckpt.specs.declared.control_state.ControlState.{ControlState}
use Rattle.als_ckpt.specs.declared.region.Region.{Region}
use Rattle.als_ckpt.specs.declared.region.Region.TheVariants.{First, Second}
use Rattle.als_ckpt.specs.Regions.{Said, IsPublished, held_at, held_of}
use Rattle.als_ckpt.specs.Control.{Controlled}
use Rattle.als_ckpt.specs.Holding.{HoldsControl}
use Rattle.als_ckpt.specs.Reading.{taken_up}
use Rattle.als_tables.specs.Fronts.{IsOfFront}
use Rattle.als_reopen.specs.declared.fault.Fault.{Fault}
use Rattle.als_reopen.specs.declared.fault.Fault.TheVariants.{Shape, Invalid, BadControl, LogFull, Device, Memory}
use Rattle.als_reopen.specs.Node.{Node, HoldsLog, IsNode, position_in, rows_in}
use Rattle.als_reopen.specs.Outcomes.{AreSettled, IsSync, said_now, IsBare, RefusesOpen}
use Rattle.als_reopen.specs.Reading.{IsLogOn, CountsLog}
use Rattle.als_reopen.specs.Refusing.{MeetsFirst}
use Rattle.als_pool.specs.Restart.{HoldsImagesFrom}
use Rattle.als_reopen.proofs.Devices.{synced_same}
use Rattle.als_reopen.proofs.Texts.{length-text, text_stands}

-- ---- what a control device says

held_again : (pages position : ℕ) (published : Option Region) (checkpoint : Option Checkpoint) → IsPublished pages published position checkpoint → held_at (held_of published checkpoint) published ≡ checkpoint
held_again pages position None checkpoint is = sym is
held_again pages position (Some First) checkpoint is = refl
held_again pages position (Some Second) checkpoint is = refl

-- what a control block that was taken up says
pub said_again : (pages log_bytes blocks failures attempts : ℕ) (said : Said) (c : Controlled) → IsPublished pages said.state.published said.state.position.0 said.checkpoint
    → c ≡ taken_up pages log_bytes said blocks failures attempts → said_now c ≡ said
said_again pages log_bytes blocks failures attempts said c is up =
    ap said_now up ∙ ap (λ (o : Option Checkpoint). record { state = said.state; checkpoint = o }) (held_again pages said.state.position.0 said.state.published said.checkpoint is)

-- ---- a log that settled devices hold

pub log_on : (pages blocks : ℕ) (log_slots control_slots : ℕ → Slot) (n : Node) (state : ControlState) (checkpoint : Option Checkpoint) → AreSettled log_slots → HoldsLog pages blocks log_slots control_slots n → state ≡ n.said.state → checkpoint ≡ n.said.checkpoint
    → IsLogOn pages blocks state.mark.0 (text_of log_slots state.mark.0) checkpoint n.log
log_on pages blocks log_slots control_slots n state checkpoint settled h same_state same_checkpoint =
    let mark : end_of n.log ≡ state.mark.0 = h.ends ∙ ap (λ (s : ControlState). s.mark.0) (sym same_state) in
    let text : text_of log_slots (end_of n.log) ≡ log_text pages n.log = text_stands log_slots (log_text pages n.log) (end_of n.log) settled h.text (length-text pages n.log) in
    record {
      text_is = ap (text_of log_slots) (sym mark) ∙ text;
      valid = h.valid;
      ends = mark;
      fits = h.fits;
      front = subst (λ (o : Option Checkpoint). IfSome o (IsOfFront n.log)) (sym same_checkpoint) h.front;
    }

-- ---- devices that are handed back

-- the log of which the blocks are the same below their number
text_left : (blocks end : ℕ) (old new : ℕ → Slot) (text : List ℕ) → ((k : ℕ) → k < blocks → new k ≡ old k) → end ≤ 512 * blocks → AllHaveText (λ b. (new b).candidates) text end → AllHaveText (λ b. (old b).candidates) text end
text_left blocks end old new text same le h b x has o lt under =
    let inside : b < blocks = omega (arith, under, le) in
    h b x (subst (λ (s : Slot). Contains s.candidates x) (sym (same b inside)) has) o lt under

pub holds_left : (pages blocks : ℕ) (old new control control' : ℕ → Slot) (n : Node) → ((k : ℕ) → k < blocks → new k ≡ old k) → ((k : ℕ) → control' k ≡ control k) → HoldsLog pages blocks new control' n → HoldsLog pages blocks old control n
holds_left pages blocks old new control control' n same same_control h =
    let whole : control' ≡ control = λ j k. same_control k j in
    let under : end_of n.log ≤ 512 * blocks = omega (arith, h.fits) in
    record {
      count = h.count;
      control = subst (λ (slots : ℕ → Slot). HoldsControl pages (512 * blocks) slots n.said) whole h.control;
      text = text_left blocks (end_of n.log) old new (log_text pages n.log) same under h.text;
      ends = h.ends;
      valid = h.valid;
      fits = h.fits;
      front = h.front;
    }

-- devices that hold a log hold it when they are synced
pub holds_synced : (pages blocks blocks' : ℕ) (old new control control' : ℕ → Slot) (n : Node) → blocks' ≡ blocks → AreSettled old → AreSettled control → IsSync old new → IsSync control control' → HoldsLog pages blocks old control n → HoldsLog pages blocks' new control' n
holds_synced pages blocks blocks' old new control control' n count settled settled_control keeps keeps_control h =
    let first : HoldsLog pages blocks new control n = subst (λ (slots : ℕ → Slot). HoldsLog pages blocks slots control n) (sym (synced_same old new settled keeps)) h in
    let second : HoldsLog pages blocks new control' n = subst (λ (slots : ℕ → Slot). HoldsLog pages blocks new slots n) (sym (synced_same control control' settled_control keeps_control)) first in
    subst (λ k. HoldsLog pages k new control' n) (sym count) second

-- and so do those that hold a node
pub node_synced : (pages blocks blocks' : ℕ) (old new control control' page page' : ℕ → Slot) (n : Node) → blocks' ≡ blocks → AreSettled old → AreSettled control → AreSettled page → IsSync old new → IsSync control control' → IsSync page page'
    → IsNode pages blocks old control page n → IsNode pages blocks' new control' page' n
node_synced pages blocks blocks' old new control control' page page' n count settled settled_control settled_pages keeps keeps_control keeps_pages h = record {
  held = holds_synced pages blocks blocks' old new control control' n count settled settled_control keeps keeps_control h.held;
  taken = h.taken;
  images = subst (λ (slots : ℕ → Slot). HoldsImagesFrom n.log n.said.state.mark.0 pages (position_in n.said) (rows_in n.said) slots) (sym (synced_same page page' settled_pages keeps_pages)) h.images;
}

-- ---- why devices are not taken up

-- a failed device or want of memory, or what would only be refused for these is not there
pub bare_or : {X : Type 0} (fault : Fault) (x : X) (P : X → Node → Type 0) → ((n : Node) → P x n → IsBare fault) → IsBare fault ⊎ ((y : X) × ((n : Node) → P y n → ⊥))
bare_or Device x P bare = inl (inl refl)
bare_or Memory x P bare = inl (inr refl)
bare_or (Shape shape) x P bare = inr (x, λ n h. elim (bare n h) [ inl e ↦ absurd cc | inr e ↦ absurd cc ])
bare_or (Invalid cause) x P bare = inr (x, λ n h. elim (bare n h) [ inl e ↦ absurd cc | inr e ↦ absurd cc ])
bare_or BadControl x P bare = inr (x, λ n h. elim (bare n h) [ inl e ↦ absurd cc | inr e ↦ absurd cc ])
bare_or LogFull x P bare = inr (x, λ n h. elim (bare n h) [ inl e ↦ absurd cc | inr e ↦ absurd cc ])

pub refuses : (fault : Fault) (pages blocks : ℕ) (log_slots control_slots : ℕ → Slot) (before now : ℕ) → CountsLog fault before now → ((n : Node) → HoldsLog pages blocks log_slots control_slots n → IsBare fault)
    → MeetsFirst fault pages blocks log_slots control_slots
    → RefusesOpen fault pages blocks log_slots control_slots before now
refuses Device pages blocks log_slots control_slots before now counts bare first = counts
refuses Memory pages blocks log_slots control_slots before now counts bare first = counts
refuses (Shape shape) pages blocks log_slots control_slots before now counts bare first = (counts, record { none = λ n h. elim (bare n h) [ inl e ↦ absurd cc | inr e ↦ absurd cc ]; first = first })
refuses (Invalid cause) pages blocks log_slots control_slots before now counts bare first = (counts, record { none = λ n h. elim (bare n h) [ inl e ↦ absurd cc | inr e ↦ absurd cc ]; first = first })
refuses BadControl pages blocks log_slots control_slots before now counts bare first = (counts, record { none = λ n h. elim (bare n h) [ inl e ↦ absurd cc | inr e ↦ absurd cc ]; first = first })
refuses LogFull pages blocks log_slots control_slots before now counts bare first = (counts, record { none = λ n h. elim (bare n h) [ inl e ↦ absurd cc | inr e ↦ absurd cc ]; first = first })
