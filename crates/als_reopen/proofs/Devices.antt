-- Devices that are handed back.
use Rattle.std.proofs.Common.{◌≡◌, ℕ, zero, suc, ◌+◌, ◌<◌, [], sym, ap, subst, ◌∙◌, inr, arith}
use Rattle.std.specs.Prelude.{Contains}
use Rattle.als_disk.specs.Slot.{Slot, only, IsSettled, KeepsReadable}
use Rattle.als_disk.specs.SlotLaws.{Contains-one}
use Rattle.als_frames.specs.Frames.{Paged, without_frames}
use Rattle.als_frames.proofs.SlotsLaws.{slot_at}
use Rattle.als_scan.specs.Scanned.{Scanned, scanned}
use Rattle.als_scan.specs.Texts.{slots_from, slot_in}
use Rattle.als_reopen.specs.Outcomes.{AreSettled, IsLeft}
use Rattle.als_reopen.specs.Reading.{IsScanLeft, IsPoolLeft, IsDiskLeft}

-- ---- under a scan and under the frames

slots_from-at : (i count k : ℕ) (slots : ℕ → Slot) → k < count → slot_in (slots_from i count slots) k ≡ slots (i + k)
unfolding slots_from slot_in
slots_from-at i zero k slots lt = absurd (omega (arith, lt))
slots_from-at i (suc count) zero slots lt = ap slots (let e : i ≡ i + 0 = omega arith in e)
slots_from-at i (suc count) (suc k) slots lt = slots_from-at (suc i) count k slots (omega (arith, lt)) ∙ ap slots (let e : suc i + k ≡ i + suc k = omega arith in e)

scan_at : (count k : ℕ) (slots : ℕ → Slot) → k < count → slot_in (slots_from 0 count slots) k ≡ slots k
scan_at count k slots lt = slots_from-at 0 count k slots lt ∙ ap slots (let e : 0 + k ≡ k = omega arith in e)

pub scan_left : (pages mark blocks failures attempts count calls : ℕ) (old new : ℕ → Slot) (s : Scanned) → s ≡ scanned pages [] mark old blocks failures attempts → IsScanLeft s new count calls
    → IsDiskLeft blocks old new blocks attempts count calls
scan_left pages mark blocks failures attempts count calls old new s is left =
    let seen : IsScanLeft (scanned pages [] mark old blocks failures attempts) new count calls = subst (λ (x : Scanned). IsScanLeft x new count calls) is left in
    record { same = λ k lt. seen.same k lt ∙ scan_at blocks k old lt; count_is = seen.count; calls_are = seen.calls }

pub pool_left : (pages most : ℕ) (old new : ℕ → Slot) (blocks failures attempts count failed calls : ℕ) (v : Paged) → v ≡ without_frames pages most old blocks failures attempts → IsPoolLeft v new count failed calls
    → IsDiskLeft pages old new blocks attempts count calls
pool_left pages most old new blocks failures attempts count failed calls v is left =
    let seen : IsPoolLeft (without_frames pages most old blocks failures attempts) new count failed calls = subst (λ (x : Paged). IsPoolLeft x new count failed calls) is left in
    record { same = λ k lt. seen.same k lt ∙ slot_at pages k old lt; count_is = seen.count; calls_are = seen.calls }

-- ---- a sync

-- a settled block stays as it was
settled_kept : (old new : Slot) → IsSettled old → KeepsReadable old new → new ≡ old
settled_kept old new (content, is) keeps =
    let one : content ≡ keeps.content = Contains-one (subst (λ (s : Slot). Contains s.readable keeps.content) is keeps.was_readable) in
    keeps.left ∙ ap only (sym one) ∙ sym is

-- so settled devices stay as they were
pub synced_same : (old new : ℕ → Slot) → AreSettled old → ((k : ℕ) → KeepsReadable (old k) (new k)) → new ≡ old
synced_same old new settled keeps = λ j k. settled_kept (old k) (new k) (settled k) (keeps k) j

-- and after a sync each block is settled
pub settles : (old new : ℕ → Slot) → ((k : ℕ) → KeepsReadable (old k) (new k)) → AreSettled new
settles old new keeps k = ((keeps k).content, (keeps k).left)

-- what is left of a device after a sync and after reads alone
pub left_after : (below blocks attempts count calls : ℕ) (old mid new : ℕ → Slot) → ((k : ℕ) → KeepsReadable (old k) (mid k)) → IsDiskLeft below mid new blocks attempts count calls → (k : ℕ) → k < below → IsLeft (old k) (new k)
left_after below blocks attempts count calls old mid new keeps left k lt = inr (subst (λ (s : Slot). KeepsReadable (old k) s) (sym (left.same k lt)) (keeps k))
