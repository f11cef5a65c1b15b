-- The first fault that is met in reading devices.
use Rattle.std.proofs.Common.{◌≡◌, ℕ, zero, suc, ◌+◌, ◌*◌, ◌/◌, ◌%◌, ◌<◌, ◌≤◌, Bool, true, false, List, [], ◌∷◌, Option, Some, None, refl, sym, ap, subst, ◌∙◌, inl, inr, arith, append-nil}
use Rattle.std.specs.Prelude.{IfSome, IsSomeAnd, MatchBool, slice_index, slice_index_or}
use Rattle.als_record.specs.declared.record.Record.{Record}
use Rattle.als_record.specs.LogText.{end_of}
use Rattle.als_record.specs.Tail.{reserve_of}
use Rattle.als_disk.specs.Slot.{Slot}
use Rattle.als_scan.specs.declared.fault.Fault.{Fault as ScanFault}
use Rattle.als_scan.specs.declared.fault.Fault.TheVariants as scan
use Rattle.als_scan.specs.Scanned.{Scanned, IsScanned, IsWhole, RefusesNext, RefusesHeader}
use Rattle.als_scan.specs.Texts.{byte_at, text_from, text_of}
use Rattle.als_ckpt_codec.specs.declared.checkpoint.Checkpoint.{Checkpoint}
use Rattle.als_ckpt.specs.declared.fault.Fault.{Fault as ControlFault}
use Rattle.als_ckpt.specs.declared.fault.Fault.TheVariants as control
use Rattle.als_ckpt.specs.Regions.{Said}
use Rattle.als_ckpt.specs.Holding.{HoldsControl}
use Rattle.als_ckpt.specs.Reading.{RefusesToRead}
use Rattle.als_tables.specs.Fronts.{IsCheckpointOf, IsOfFront}
use Rattle.als_reopen.specs.declared.fault.Fault.{Fault}
use Rattle.als_reopen.specs.declared.fault.Fault.TheVariants.{Shape, Invalid, BadControl, LogFull, Device, Memory}
use Rattle.als_reopen.specs.FaultNames.{of_scan, of_control}
use Rattle.als_reopen.specs.Outcomes.{IsBare}
use Rattle.als_reopen.specs.Reading.{IsMetBefore, IsOneMore, ScansOn}
use Rattle.als_reopen.specs.Refusing.{IsChecked, IsUnmet, BeginsWith, RefusesText, RefusesScan, RefusesLogText, MeetsFirst}
use Rattle.als_reopen.proofs.Steps.{met_none, not_passed}

-- ---- the checkpoint, on the way

-- a checkpoint that was met is that of a front, and one that was not is not reached
pub checked : (met : Bool) (log : List Record) (o : Option Checkpoint) → IsMetBefore met log o → IsChecked o log
checked true log None h = tt
checked false log None h = tt
checked true log (Some c) h = λ reached. h
checked false log (Some c) h = λ reached. absurd (omega (arith, h, reached))

-- the checkpoint of which the position is met here, and which is not that of these records
pub unmet : (log : List Record) (o : Option Checkpoint) (c : Checkpoint) → o ≡ Some c → IfSome o (λ c. end_of log ≤ c.numbers.position.0) → c.numbers.position.0 ≤ end_of log → (IsCheckpointOf log c → ⊥) → IsUnmet o log
unmet log None c is low high differs = absurd cc
unmet log (Some d) c is low high differs =
    let same : d ≡ c = cc in
    let there : d.numbers.position.0 ≤ end_of log = subst (λ (x : Checkpoint). x.numbers.position.0 ≤ end_of log) (sym same) high in
    (there, λ f. met_none log log [] (Some d) c is (sym (append-nil log)) f low high differs)

-- the position is passed within a record
pub passed : (o : Option Checkpoint) (met more : Bool) (old new : List Record) (ended : Type 0) → IsMetBefore met old o → MatchBool more (IsOneMore old new) (ended × (new ≡ old))
    → IsSomeAnd o (λ c. (met ≡ false) × (c.numbers.position.0 < end_of new)) → IsUnmet o new
passed None met more old new ended before step past = absurd past
passed (Some c) met more old new ended before step past =
    (omega (arith, past.1), λ f. not_passed (Some c) met more old new new ended before step (record { rest = []; parts = sym (append-nil new) }) f past)

-- ---- the text

begins : (s : Scanned) → IsScanned s → BeginsWith s.pages s.text s.log
begins s facts = record { valid = facts.valid; rest = facts.rest; parts = facts.parts }

-- the record behind those handed out is refused
pub next_refused : (cause : ScanFault) (s new : Scanned) (o : Option Checkpoint) → IsScanned s → IsChecked o s.log → RefusesNext s cause new → RefusesScan (of_scan cause) s o
next_refused (scan.Shape shape) s new o facts met h = inr (record { front = s.log; begins = begins s facts; checked = met; reading = h.0 })
next_refused (scan.Invalid cause) s new o facts met h = record { front = s.log; begins = begins s facts; checked = met; bad = h.0.bad; reading = h.0.reading; cause_is = h.0.cause_is }
next_refused scan.BadControl s new o facts met h = inl (record { front = s.log; begins = begins s facts; checked = met; reading = h.0.reading; some = h.0.some })
next_refused scan.Device s new o facts met h = tt
next_refused scan.Memory s new o facts met h = tt

-- the header is refused
pub header_refused : (cause : ScanFault) (text : List ℕ) (pages blocks mark before now : ℕ) (o : Option Checkpoint) → RefusesHeader cause text pages before now → RefusesText (of_scan cause) pages blocks mark text o
header_refused (scan.Shape shape) text pages blocks mark before now o h = inl (h.0, h.1)
header_refused (scan.Invalid cause) text pages blocks mark before now o h = absurd h
header_refused scan.BadControl text pages blocks mark before now o h = absurd h
header_refused scan.Device text pages blocks mark before now o h = tt
header_refused scan.Memory text pages blocks mark before now o h = tt

-- the checkpoint is not that of a front
pub other_checkpoint : (s : Scanned) (o : Option Checkpoint) → IsScanned s → IsUnmet o s.log → RefusesScan BadControl s o
other_checkpoint s o facts h = inr (record { front = s.log; begins = begins s facts; unmet = h })

-- the log that was read whole has no room
pub too_long : (blocks : ℕ) (s : Scanned) (o : Option Checkpoint) → IsScanned s → IsWhole s → IfSome o (IsOfFront s.log) → 512 * blocks < end_of s.log + reserve_of s.log → blocks ≡ s.blocks → RefusesScan LogFull s o
too_long blocks s o facts whole front long same =
    record { log = s.log; text_is = whole.text_is; valid = facts.valid; ends = whole.end_is; of_front = front; long = omega (arith, long, same) }

-- of a failed device and of want of memory nothing is said
pub bare_text : (fault : Fault) (pages blocks mark : ℕ) (text : List ℕ) (o : Option Checkpoint) → IsBare fault → RefusesText fault pages blocks mark text o
bare_text fault pages blocks mark text o (inl e) = subst (λ (f : Fault). RefusesText f pages blocks mark text o) (sym e) tt
bare_text fault pages blocks mark text o (inr e) = subst (λ (f : Fault). RefusesText f pages blocks mark text o) (sym e) tt

-- what refuses a text refuses it from its beginning on
pub refused_before : (fault : Fault) (old new : Scanned) (o : Option Checkpoint) → ScansOn old new → RefusesScan fault new o → RefusesScan fault old o
refused_before fault old new o on h = subst (λ (s : Scanned). RefusesScan fault s o) on h

-- ---- the devices

-- the control device says nothing, or was not read
pub control_refused : (cause : ControlFault) (pages blocks before now : ℕ) (log_slots control_slots : ℕ → Slot) → RefusesToRead cause pages (512 * blocks) control_slots before now → MeetsFirst (of_control cause) pages blocks log_slots control_slots
control_refused control.Device pages blocks before now log_slots control_slots h = tt
control_refused control.Memory pages blocks before now log_slots control_slots h = tt
control_refused control.BadControl pages blocks before now log_slots control_slots h = inl h.0
control_refused control.NothingToDo pages blocks before now log_slots control_slots h = absurd h
control_refused control.CkptBusy pages blocks before now log_slots control_slots h = absurd h
control_refused control.LogBehind pages blocks before now log_slots control_slots h = absurd h

-- the text is refused
pub text_refused : (fault : Fault) (pages blocks : ℕ) (log_slots control_slots : ℕ → Slot) → RefusesLogText fault pages blocks log_slots control_slots → MeetsFirst fault pages blocks log_slots control_slots
text_refused (Shape shape) pages blocks log_slots control_slots h = h
text_refused (Invalid cause) pages blocks log_slots control_slots h = h
text_refused BadControl pages blocks log_slots control_slots h = inr h
text_refused LogFull pages blocks log_slots control_slots h = h
text_refused Device pages blocks log_slots control_slots h = tt
text_refused Memory pages blocks log_slots control_slots h = tt

-- ---- devices that are handed back

byte_same : (blocks o : ℕ) (old new : ℕ → Slot) → ((k : ℕ) → k < blocks → new k ≡ old k) → o < 512 * blocks → byte_at new o ≡ byte_at old o
unfolding byte_at
byte_same blocks o old new same lt =
    let inside : o / 512 < blocks = omega (arith, lt) in
    ap (λ (s : Slot). slice_index (slice_index_or s.readable 0 []) (o % 512)) (same (o / 512) inside)

text_from_same : (blocks at n : ℕ) (old new : ℕ → Slot) → ((k : ℕ) → k < blocks → new k ≡ old k) → at + n ≤ 512 * blocks → text_from new at n ≡ text_from old at n
unfolding text_from
text_from_same blocks at zero old new same le = refl
text_from_same blocks at (suc n) old new same le =
    let first : byte_at new at ≡ byte_at old at = byte_same blocks at old new same (omega (arith, le)) in
    let rest : text_from new (suc at) n ≡ text_from old (suc at) n = text_from_same blocks (suc at) n old new same (omega (arith, le)) in
    ap (λ (b : ℕ). b ∷ text_from new (suc at) n) first ∙ ap (λ (bytes : List ℕ). byte_at old at ∷ bytes) rest

log_text_same : (fault : Fault) (pages blocks : ℕ) (old new control control' : ℕ → Slot) → ((k : ℕ) → k < blocks → new k ≡ old k) → control' ≡ control → RefusesLogText fault pages blocks old control → RefusesLogText fault pages blocks new control'
log_text_same fault pages blocks old new control control' same same_control h =
    let mark = h.said.state.mark.0 in
    let text : text_of new mark ≡ text_of old mark = text_from_same blocks 0 mark old new same (omega (arith, h.says.fits.in_log)) in
    subst (λ (slots : ℕ → Slot). RefusesLogText fault pages blocks new slots) (sym same_control)
    (record { said = h.said; says = h.says; refuses = subst (λ (t : List ℕ). RefusesText fault pages blocks mark t h.said.checkpoint) (sym text) h.refuses })

-- what is met first in devices is met in those that are the same
pub first_left : (fault : Fault) (pages blocks : ℕ) (old new control control' : ℕ → Slot) → ((k : ℕ) → k < blocks → new k ≡ old k) → ((k : ℕ) → control' k ≡ control k) → MeetsFirst fault pages blocks old control → MeetsFirst fault pages blocks new control'
first_left (Shape shape) pages blocks old new control control' same same_control h = log_text_same (Shape shape) pages blocks old new control control' same (λ j k. same_control k j) h
first_left (Invalid cause) pages blocks old new control control' same same_control h = log_text_same (Invalid cause) pages blocks old new control control' same (λ j k. same_control k j) h
first_left LogFull pages blocks old new control control' same same_control h = log_text_same LogFull pages blocks old new control control' same (λ j k. same_control k j) h
first_left BadControl pages blocks old new control control' same same_control (inl h)
    = let whole : control' ≡ control = λ j k. same_control k j in
    inl (subst (λ (slots : ℕ → Slot). (said : Said) → HoldsControl pages (512 * blocks) slots said → ⊥) (sym whole) h)
first_left BadControl pages blocks old new control control' same same_control (inr h) = inr (log_text_same BadControl pages blocks old new control control' same (λ j k. same_control k j) h)
first_left Device pages blocks old new control control' same same_control h = tt
first_left Memory pages blocks old new control control' same same_control h = tt
