-- Devices that still hold a node.
use Rattle.std.proofs.Common.{◌≡◌, ℕ, ◌+◌, ◌<◌, ◌≤◌, List, Option, Some, None, inl, inr, sym, ap}
use Rattle.std.proofs.Common.{subst, ◌∙◌, arith}
use Rattle.std.specs.Prelude.{Contains}
use Rattle.als_disk.specs.Slot.{Slot, only, IsSettled, KeepsCandidate}
use Rattle.als_disk.specs.SlotLaws.{Contains-one}
use Rattle.als_ckpt_codec.specs.declared.checkpoint.Checkpoint.{Checkpoint}
use Rattle.als_ckpt.specs.declared.region.Region.{Region}
use Rattle.als_ckpt.specs.declared.region.Region.TheVariants.{First, Second}
use Rattle.als_ckpt.specs.Regions.{first_block, HoldsCheckpoint, HoldsPublished}
use Rattle.als_reopen.specs.Node.{Node, IsNode}
use Rattle.als_reopen.specs.Outcomes.{IsLeft}
use Rattle.als_store.specs.Leaving.{IsCrashOf}
use Rattle.als_store.specs.Staying.{StaysNode}

-- a settled block that is as it was, or keeps what a read gave, is as it was
pub left_same : (old new : Slot) → IsSettled old → IsLeft old new → new ≡ old
left_same old new s (inl same) = same
left_same old new s (inr k) =
    let is : s.0 ≡ k.content =
    Contains-one (subst (λ (x : Slot). Contains x.readable k.content) s.1 k.was_readable) in
    k.left ∙ ap (λ (x : List ℕ). only x) (sym is) ∙ sym s.1

-- so is one of which a crash leaves a candidate
crash_same : (old new : Slot) → IsSettled old → KeepsCandidate old new → new ≡ old
crash_same old new s k =
    let is : s.0 ≡ k.content =
    Contains-one (subst (λ (x : Slot). Contains x.candidates k.content) s.1 k.was_candidate) in
    k.left ∙ ap (λ (x : List ℕ). only x) (sym is) ∙ sym s.1

first_low : (region : Region) → first_block region ≤ 161
first_low First = omega arith
first_low Second = omega arith

same_region : (slots slots' : ℕ → Slot) → ((k : ℕ) → k < 321 → slots' k ≡ slots k)
    → (published : Option Region) (o : Option Checkpoint) → HoldsPublished slots published o
    → HoldsPublished slots' published o
same_region slots slots' same None o h = tt
same_region slots slots' same (Some region) None h = tt
same_region slots slots' same (Some region) (Some c) h =
    let held : HoldsCheckpoint slots region c = h in
    record {
      few = held.few;
      parts = λ b lt content has. held.parts b lt content
          (subst (λ (s : Slot). Contains s.candidates content)
          (same (first_block region + b) (omega (arith, first_low region, lt, held.few))) has);
    }

module _ (pages blocks : ℕ) (log control page_slots log' control' page_slots' : ℕ
    → Slot) (n : Node) (node : IsNode pages blocks log control page_slots n)
    (log_same : (k : ℕ) → k < blocks → log' k ≡ log k) (control_same : (k : ℕ) → k < 321
    → control' k ≡ control k) (pages_same : (k : ℕ) → k < pages
    → page_slots' k ≡ page_slots k) where
  pub node_same : IsNode pages blocks log' control' page_slots' n
  node_same = record {
    held = record {
      count = node.held.count;
      control = record {
        block = record {
          content = node.held.control.block.content;
          block = control_same 0 (omega arith) ∙ node.held.control.block.block;
          spelled = node.held.control.block.spelled;
        };
        fits = node.held.control.fits;
        published = node.held.control.published;
        region = same_region control control' control_same n.said.state.published n.said.checkpoint
            node.held.control.region;
      };
      text = λ b x has o lt below.
          node.held.text b x (subst (λ (s : Slot). Contains s.candidates x)
          (log_same b (omega (arith, below, node.held.fits))) has) o lt below;
      ends = node.held.ends;
      valid = node.held.valid;
      fits = node.held.fits;
      front = node.held.front;
    };
    taken = node.taken;
    images = record {
      is_log = node.images.is_log;
      reached = node.images.reached;
      listed = node.images.listed;
      settled = λ page lt. subst IsSettled (sym (pages_same page lt)) (node.images.settled page lt);
      images = λ page content lt has. node.images.images page content lt
          (subst (λ (s : Slot). Contains s.candidates content) (pages_same page lt) has);
    };
  }

-- a crash of devices that still hold a node
pub crash_keeps : (pages blocks : ℕ) (log control page_slots left_log left_control left_pages : ℕ
    → Slot) (n : Node) → StaysNode pages blocks log control page_slots n
    → IsCrashOf log left_log → IsCrashOf control left_control → IsCrashOf page_slots left_pages
    → IsNode pages blocks left_log left_control left_pages n
crash_keeps pages blocks log control page_slots left_log left_control left_pages n s log_left
    control_left pages_left =
    node_same pages blocks s.log_was s.control_was s.pages_were left_log left_control left_pages n
    s.node
    (λ k lt. crash_same (s.log_was k) (left_log k) (s.log_settled k)
    (subst (λ (x : Slot). KeepsCandidate x (left_log k)) (s.log_same k lt) (log_left k)))
    (λ k lt. crash_same (s.control_was k) (left_control k) (s.control_settled k)
    (subst (λ (x : Slot). KeepsCandidate x (left_control k)) (s.control_same k lt)
    (control_left k)))
    (λ k lt. crash_same (s.pages_were k) (left_pages k) (s.pages_settled k)
    (subst (λ (x : Slot). KeepsCandidate x (left_pages k)) (s.pages_same k lt) (pages_left k)))
