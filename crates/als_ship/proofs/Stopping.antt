-- Why a session stops at a frame, or before the first one.
use Rattle.std.proofs.Common.{◌≡◌, ℕ, List, length, Option, Ok, Err, refl, sym, subst, ap, inl, inr}
use Rattle.std.specs.Io.KnownBytes.{Consumes}
use Rattle.als_record.specs.declared.lsn.Lsn.{Lsn}
use Rattle.als_epochs.specs.Histories.{IsHistory}
use Rattle.als_engine.specs.declared.fault.Fault.{Fault as EngineFault}
use Rattle.als_engine.specs.Machine.{Machine}
use Rattle.als_wire.specs.declared.tag.Tag.TheVariants as tag
use Rattle.als_wire.specs.declared.fault.Fault.{Fault as WireFault}
use Rattle.als_wire.specs.declared.fault.Fault.TheVariants as wire
use Rattle.als_wire.specs.declared.frame.Frame.{Frame}
use Rattle.als_wire.specs.declared.frame.Frame.TheVariants.{Data, Acknowledged, Resume, Epochs}
use Rattle.als_wire.specs.Frames.{IsHead, IsFrame, tag_of, data_bytes, frame_bytes, epochs_bytes}
use Rattle.als_wire.specs.Reading.{FailsToRead}
use Rattle.als_ship.specs.declared.fault.Fault.{Fault}
use Rattle.als_ship.specs.declared.fault.Fault.TheVariants.{BadHeader, Memory, Gap, BadFrame, Diverged, Cut, Stream, OtherEpoch, Refused}
use Rattle.als_ship.specs.Faults.{of_wire}
use Rattle.als_ship.specs.Follows.{TakesUp, Handles, SameText, IsSaidOf, IsSaidOfData, IsOfEvent}
use Rattle.als_ship.specs.Forcing.{FailsToForce, IsOfForce}
use Rattle.als_ship.specs.Sessions.{Turns, Stops, FailsToJoin}

-- no frame was read
pub stops_read : (alone : Type 0) (refuses : EngineFault → Machine → Type 0) (old : Machine) (f : WireFault) (before behind : Option (List ℕ)) → FailsToRead tag.Data f before behind → Stops alone refuses old (of_wire f) old before behind
stops_read alone refuses old wire.BadHeader before behind fails = cc fails.1.for_resume
stops_read alone refuses old wire.Memory before behind fails = (fails, λ a. refl)
stops_read alone refuses old wire.BadFrame before behind fails = (fails, λ a. refl)
stops_read alone refuses old wire.Cut before behind fails = λ a. refl
stops_read alone refuses old wire.Stream before behind fails = inl (λ a. refl)

-- the frame was not taken
stops_taken : (alone : Type 0) (refuses : EngineFault → Machine → Type 0) (old new : Machine) (f : Fault) (epoch offset : ℕ) (bytes : List ℕ) (before behind : Option (List ℕ)) → IsHead epoch offset (length bytes) → Consumes before behind (data_bytes epoch offset bytes)
    → IsSaidOfData epoch offset (length bytes) f → (alone → Handles old (Data epoch offset bytes) (Err f) new) → Stops alone refuses old f new before behind
stops_taken alone refuses old new Gap epoch offset bytes before behind head read said handles = record { frame = Data epoch offset bytes; is = head; read = read; said = said; handles = handles }
stops_taken alone refuses old new (OtherEpoch other) epoch offset bytes before behind head read said handles = record { frame = Data epoch offset bytes; is = head; read = read; said = said; handles = handles }
stops_taken alone refuses old new (Refused cause) epoch offset bytes before behind head read said handles = record { frame = Data epoch offset bytes; is = head; read = read; came = λ a. inl (inl (handles a)) }
stops_taken alone refuses old new BadFrame epoch offset bytes before behind head read said handles = absurd (said head)
stops_taken alone refuses old new BadHeader epoch offset bytes before behind head read said handles = absurd said
stops_taken alone refuses old new Memory epoch offset bytes before behind head read said handles = absurd said
stops_taken alone refuses old new (Diverged seal) epoch offset bytes before behind head read said handles = absurd said
stops_taken alone refuses old new Cut epoch offset bytes before behind head read said handles = absurd said
stops_taken alone refuses old new Stream epoch offset bytes before behind head read said handles = absurd said

pub stops_handled : (alone : Type 0) (refuses : EngineFault → Machine → Type 0) (old new : Machine) (f : Fault) (frame : Frame) (before behind : Option (List ℕ)) → tag_of frame ≡ tag.Data → IsFrame frame → Consumes before behind (frame_bytes frame)
    → IsSaidOf frame f → (alone → Handles old frame (Err f) new) → Stops alone refuses old f new before behind
stops_handled alone refuses old new f (Data epoch offset bytes) before behind tagged is read said handles = stops_taken alone refuses old new f epoch offset bytes before behind is read said handles
stops_handled alone refuses old new f (Acknowledged lsn) before behind tagged is read said handles = cc tagged
stops_handled alone refuses old new f (Resume from header history) before behind tagged is read said handles = cc tagged
stops_handled alone refuses old new f (Epochs history) before behind tagged is read said handles = cc tagged

-- the log was not forced
pub stops_forced : (alone : Type 0) (refuses : EngineFault → Machine → Type 0) (old mid new : Machine) (f : Fault) (frame : Frame) (lsn : Lsn) (before behind : Option (List ℕ)) → IsFrame frame → Consumes before behind (frame_bytes frame)
    → (alone → Handles old frame (Ok lsn) mid) → (alone → SameText mid new) → (alone → FailsToForce f new) → IsOfForce f → Stops alone refuses old f new before behind
stops_forced alone refuses old mid new f frame lsn before behind is read handles same fails (inl e) =
    subst (λ (x : Fault). Stops alone refuses old x new before behind) (sym e) (inr (record { frame = frame; is = is; read = read; came = λ a. (lsn, mid, handles a, same a) }))
stops_forced alone refuses old mid new f frame lsn before behind is read handles same fails (inr (cause, e)) =
    subst (λ (x : Fault). Stops alone refuses old x new before behind) (sym e)
    (record { frame = frame; is = is; read = read; came = λ a. inl (inr (lsn, mid, handles a, same a, subst (λ (x : Fault). FailsToForce x new) e (fails a))) })

-- the answer was not written
pub stops_told : (alone : Type 0) (refuses : EngineFault → Machine → Type 0) (old mid new : Machine) (f : WireFault) (frame : Frame) (lsn : Lsn) (before behind : Option (List ℕ)) → IsFrame frame → Consumes before behind (frame_bytes frame)
    → (alone → Handles old frame (Ok lsn) mid) → (alone → SameText mid new) → f ≡ wire.Stream → Stops alone refuses old (of_wire f) new before behind
stops_told alone refuses old mid new f frame lsn before behind is read handles same e = stops_forced alone refuses old mid new (of_wire f) frame lsn before behind is read handles same (λ a. inl (ap of_wire e)) (inl (ap of_wire e))

-- the upkeep was refused
pub stops_kept : (alone : Type 0) (refuses : EngineFault → Machine → Type 0) (old new : Machine) (f : Fault) (cause : EngineFault) (frame : Frame) (answer : Lsn) (before behind : Option (List ℕ)) → IsFrame frame → Consumes before behind (frame_bytes frame)
    → (alone → Turns old frame answer new) → f ≡ Refused cause → (alone → refuses cause new) → Stops alone refuses old f new before behind
stops_kept alone refuses old new f cause frame answer before behind is read turns e refused =
    subst (λ (x : Fault). Stops alone refuses old x new before behind) (sym e) (record { frame = frame; is = is; read = read; came = λ a. inr (answer, turns a, refused a) })

-- no further frame is read
pub stops_at_once : (alone : Type 0) (refuses : EngineFault → Machine → Type 0) (m : Machine) (f : Fault) (rest : Option (List ℕ)) → f ≡ Stream → Stops alone refuses m f m rest rest
stops_at_once alone refuses m f rest e = subst (λ (x : Fault). Stops alone refuses m x m rest rest) (sym e) (inl (λ a. refl))

-- ---- before the first frame

-- no Epochs frame was read
pub joins_unread : (alone : Type 0) (old : Machine) (f : WireFault) (before behind : Option (List ℕ)) → FailsToRead tag.Epochs f before behind → FailsToJoin alone old (of_wire f) old before behind
joins_unread alone old wire.BadHeader before behind fails = cc fails.1.for_resume
joins_unread alone old wire.Memory before behind fails = cc fails.1.for_data
joins_unread alone old wire.BadFrame before behind fails = (fails, λ a. refl)
joins_unread alone old wire.Cut before behind fails = λ a. refl
joins_unread alone old wire.Stream before behind fails = λ a. refl

-- its history was not taken up
pub joins_refused : (alone : Type 0) (old new : Machine) (f : Fault) (offered : List ℕ) (before behind : Option (List ℕ)) → IsHistory offered → Consumes before behind (epochs_bytes offered) → (alone → TakesUp old offered (Err f) new) → IsOfEvent f
    → FailsToJoin alone old f new before behind
joins_refused alone old new f offered before behind is read takes (cause, e) =
    subst (λ (x : Fault). FailsToJoin alone old x new before behind) (sym e) (offered, is, read, λ a. subst (λ (x : Fault). TakesUp old offered (Err x) new) e (takes a))
