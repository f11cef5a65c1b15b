-- Sessions, one frame after another.
use Rattle.std.proofs.Common.{◌≡◌, ℕ, Bool, true, List, [], ◌∷◌, ◌++◌, ◌+◌, length, Option, Ok, refl, sym, ap, subst, ◌∙◌, append-nil, inl, inr}
use Rattle.std.specs.List.{flat_map, AllByRecursion}
use Rattle.std.proofs.lemmas.List.{length-append}
use Rattle.std.proofs.lemmas.List.Concat.{flat_map-cons, flat_map-append}
use Rattle.std.specs.Io.KnownBytes.{Consumes, Appends}
use Rattle.std.proofs.KnownBytes.{Consumes-trans, Consumes-nil, Appends-nil, Appends-trans}
use Rattle.als_record.specs.declared.lsn.Lsn.{Lsn}
use Rattle.als_record.specs.declared.header.LogHeader.{LogHeader}
use Rattle.als_record.specs.LogText.{end_of}
use Rattle.als_store.specs.Takeover.{history_of}
use Rattle.als_engine.specs.declared.fault.Fault.{Fault as EngineFault}
use Rattle.als_engine.specs.Machine.{Machine}
use Rattle.als_wire.specs.declared.frame.Frame.{Frame}
use Rattle.als_wire.specs.declared.frame.Frame.TheVariants.{Epochs}
use Rattle.als_wire.specs.Frames.{frame_bytes, epochs_bytes, acknowledged_bytes, answers_bytes, resume_bytes, IsFrame}
use Rattle.als_wire.specs.Sending.{Puts}
use Rattle.als_ship.specs.declared.fault.Fault.{Fault}
use Rattle.als_ship.specs.declared.fault.Fault.TheVariants.{BadHeader, Memory, Gap, BadFrame, Diverged, Cut, Stream, OtherEpoch, Refused}
use Rattle.als_ship.specs.Epochs.{AreEpochs}
use Rattle.als_ship.specs.Follows.{HoldsFront, IsTrueFrame, Handles, TakesUp, SameText}
use Rattle.als_ship.specs.Sessions.{frames_bytes, KeepsOver, KeepsFront, Turns, Session, TakesOne, Asks, Joins, Follows, Stops, TellsPart, StopsEarly, EndsAt, GivesUp}
use Rattle.als_ship.specs.Forcing.{Forces}
use Rattle.als_ship.proofs.LogForcing.{forces_text, same_refl}
use Rattle.als_ship.proofs.Fronts.{holds_equal, holds_same, resync_front}
use Rattle.als_ship.proofs.HistoryFronts.{takes_up_front}
use Rattle.als_ship.proofs.Schedules.{handles_front}

abbrev pub AreTrueFrames : (ℕ → List ℕ) → List ℕ → List Frame → Type 0
AreTrueFrames texts seals frames = AllByRecursion (IsTrueFrame texts seals) frames

pub flat_one : {X : Type 0} (f : X → List ℕ) (x : X) → flat_map f (x ∷ []) ≡ f x
flat_one f x = flat_map-cons f x [] ∙ append-nil (f x)

pub flat_push : {X : Type 0} (f : X → List ℕ) (xs : List X) (x : X) → flat_map f (xs ++ x ∷ []) ≡ flat_map f xs ++ f x
flat_push f xs x = flat_map-append f xs (x ∷ []) ∙ ap (λ (ys : List ℕ). flat_map f xs ++ ys) (flat_one f x)

true_parts : (texts : ℕ → List ℕ) (seals : List ℕ) (frames more : List Frame) → AreTrueFrames texts seals (frames ++ more) → AreTrueFrames texts seals frames × AreTrueFrames texts seals more
true_parts texts seals [] more t = (tt, t)
true_parts texts seals (f ∷ frames) more t = let rest = true_parts texts seals frames more t.1 in ((t.0, rest.0), rest.1)

pub session_push : (old mid new : Machine) (frames : List Frame) (answers : List Lsn) (frame : Frame) (answer : Lsn) → Session old frames answers mid → Turns mid frame answer new → Session old (frames ++ frame ∷ []) (answers ++ answer ∷ []) new
session_push old mid new [] [] frame answer s t = (new, subst (λ (m : Machine). Turns m frame answer new) s t, refl)
session_push old mid new (f ∷ frames) (a ∷ answers) frame answer s t = (s.0, s.1, session_push s.0 mid new frames answers frame answer s.2 t)
session_push old mid new [] (a ∷ answers) frame answer s t = absurd s
session_push old mid new (f ∷ frames) [] frame answer s t = absurd s

turns_front : (texts : ℕ → List ℕ) (seals : List ℕ) (old new : Machine) (frame : Frame) (answer : Lsn) → AreEpochs texts seals → Turns old frame answer new → IsTrueFrame texts seals frame → HoldsFront texts seals old → HoldsFront texts seals new
turns_front texts seals old new frame answer epochs t holds h =
    holds_same texts seals t.forced new t.keeps
    (holds_same texts seals t.taken t.forced (forces_text t.taken t.forced answer t.forces) (handles_front texts seals old t.taken frame (Ok t.position) epochs t.handles holds h))

pub session_front : (frames : List Frame) (answers : List Lsn) (old new : Machine) → Session old frames answers new → KeepsOver frames old new
session_front [] [] old new s texts seals epochs holds h = holds_equal texts seals old new s h
session_front (f ∷ frames) (a ∷ answers) old new s texts seals epochs holds h =
    session_front frames answers s.0 new s.2 texts seals epochs holds.1 (turns_front texts seals old s.0 f a epochs s.1 holds.0 h)
session_front [] (a ∷ answers) old new s texts seals epochs holds h = absurd s
session_front (f ∷ frames) [] old new s texts seals epochs holds h = absurd s

-- ---- what a session keeps, whatever ends it

pub keeps_nothing : (alone : Type 0) (before : Option (List ℕ)) (old new : Machine) → (alone → SameText old new) → KeepsFront alone before before old new
keeps_nothing alone before old new same = ([], Consumes-nil before, λ a texts seals epochs holds h. holds_same texts seals old new (same a) h)

-- one frame was taken, and the text stays
pub keeps_handled : (alone : Type 0) (before behind : Option (List ℕ)) (old mid new : Machine) (frame : Frame) → Consumes before behind (frame_bytes frame)
    → (alone → (texts : ℕ → List ℕ) (seals : List ℕ) → AreEpochs texts seals → IsTrueFrame texts seals frame → HoldsFront texts seals old → HoldsFront texts seals mid) → (alone → SameText mid new) → KeepsFront alone before behind old new
keeps_handled alone before behind old mid new frame read handled same =
    (frame ∷ [], subst (Consumes before behind) (sym (flat_one frame_bytes frame)) read, λ a texts seals epochs holds h. holds_same texts seals mid new (same a) (handled a texts seals epochs holds.0 h))

pub keeps_both : (alone : Type 0) (before between behind : Option (List ℕ)) (old mid new : Machine) → KeepsFront alone before between old mid → KeepsFront alone between behind mid new → KeepsFront alone before behind old new
keeps_both alone before between behind old mid new (frames, read, front) (more, reads, fronts) = (
  frames ++ more,
  subst (Consumes before behind) (sym (flat_map-append frame_bytes frames more)) (Consumes-trans before between behind (frames_bytes frames) (frames_bytes more) read reads),
  λ a texts seals epochs holds h. let parts = true_parts texts seals frames more holds in fronts a texts seals epochs parts.1 (front a texts seals epochs parts.0 h),
)

pub keeps_session : (alone : Type 0) (before behind : Option (List ℕ)) (old new : Machine) (frames : List Frame) (answers : List Lsn) → Consumes before behind (frames_bytes frames) → (alone → Session old frames answers new) → KeepsFront alone before behind old new
keeps_session alone before behind old new frames answers read session = (frames, read, λ a. session_front frames answers old new (session a))

-- the source's history was taken up
pub keeps_joined : (alone : Type 0) (before behind : Option (List ℕ)) (old new : Machine) → Joins alone old new before behind → KeepsFront alone before behind old new
keeps_joined alone before behind old new j =
    let handled : alone → (texts : ℕ → List ℕ) (seals : List ℕ) → AreEpochs texts seals → IsTrueFrame texts seals (Epochs j.offered) → HoldsFront texts seals old → HoldsFront texts seals new = λ a texts seals epochs holds h.
    let t = j.taken a in takes_up_front texts seals old new j.offered (Ok t.0) epochs holds t.1 h in
    keeps_handled alone before behind old new new (Epochs j.offered) j.read handled (λ a. same_refl new)

gives_up_front : (texts : ℕ → List ℕ) (seals : List ℕ) (old new : Machine) (f : Fault) → GivesUp old f new → HoldsFront texts seals old → HoldsFront texts seals new
gives_up_front texts seals old new BadFrame g h = resync_front texts seals old new g h
gives_up_front texts seals old new Cut g h = resync_front texts seals old new g h
gives_up_front texts seals old new Stream g h = resync_front texts seals old new g h
gives_up_front texts seals old new BadHeader g h = holds_equal texts seals old new g h
gives_up_front texts seals old new Memory g h = holds_equal texts seals old new g h
gives_up_front texts seals old new Gap g h = holds_equal texts seals old new g h
gives_up_front texts seals old new (Diverged seal) g h = holds_equal texts seals old new g h
gives_up_front texts seals old new (OtherEpoch epoch) g h = holds_equal texts seals old new g h
gives_up_front texts seals old new (Refused cause) g h = holds_equal texts seals old new g h

pub keeps_given_up : (alone : Type 0) (before behind : Option (List ℕ)) (old mid new : Machine) (f : Fault) → KeepsFront alone before behind old mid → (alone → GivesUp mid f new) → KeepsFront alone before behind old new
keeps_given_up alone before behind old mid new f (frames, read, front) given = (frames, read, λ a texts seals epochs holds h. gives_up_front texts seals mid new f (given a) (front a texts seals epochs holds h))

-- ---- the loop over the frames of a session

-- one more of each, and there are as many of both
one_more : {X Y : Type 0} (xs : List X) (ys : List Y) (x : X) (y : Y) → length xs ≡ length ys → length (xs ++ x ∷ []) ≡ length (ys ++ y ∷ [])
one_more xs ys x y e = length-append xs (x ∷ []) ∙ ap (λ (n : ℕ). n + 1) e ∙ sym (length-append ys (y ∷ []))

-- so far each frame that was read was taken and answered
abbrev pub SoFar : Type 0 → Option (List ℕ) → Option (List ℕ) → Option (List ℕ) → Option (List ℕ) → Machine → Machine → Type 0
SoFar alone before behind written more old new =
    (frames : List Frame) × (answers : List Lsn) × Consumes before behind (frames_bytes frames) × Appends written more (answers_bytes answers) × (alone → Session old frames answers new)
    × (length answers ≡ length frames)

pub nothing_so_far : (alone : Type 0) (before written : Option (List ℕ)) (m : Machine) → SoFar alone before before written written m m
nothing_so_far alone before written m = ([], [], Consumes-nil before, Appends-nil written, λ a. refl, refl)

pub more_so_far : (alone : Type 0) (last : Bool) (before between behind written then more : Option (List ℕ)) (old mid new : Machine) → SoFar alone before between written then old mid → TakesOne alone last mid new between behind then more → SoFar alone before behind written more old new
more_so_far alone last before between behind written then more old mid new (frames, answers, read, told, session, each) one = (
  frames ++ one.frame ∷ [],
  answers ++ one.answer ∷ [],
  subst (Consumes before behind) (sym (flat_push frame_bytes frames one.frame)) (Consumes-trans before between behind (frames_bytes frames) (frame_bytes one.frame) read one.read),
  subst (Appends written more) (sym (flat_push (λ lsn. acknowledged_bytes lsn.0) answers one.answer)) (Appends-trans written then more (answers_bytes answers) (acknowledged_bytes one.answer.0) told one.told),
  λ a. session_push old mid new frames answers one.frame one.answer (session a) (one.turns a),
  one_more answers frames one.answer one.frame each,
)

pub keeps_so_far : (alone : Type 0) (before behind written more : Option (List ℕ)) (old new : Machine) → SoFar alone before behind written more old new → KeepsFront alone before behind old new
keeps_so_far alone before behind written more old new (frames, answers, read, told, session, each) = keeps_session alone before behind old new frames answers read session

-- it asked from the end of the log, with the own history
pub asks_as : (alone : Type 0) (old : Machine) (from : Lsn) (seals : List ℕ) → (alone → from.0 ≡ end_of old.held.log) → (alone → seals ≡ history_of old.held) → Asks alone old from seals
asks_as alone old from seals end own = record { end = end; own = own }

-- the last frame ends the session
pub follows_all : (alone : Type 0) (header : LogHeader) (from : Lsn) (seals : List ℕ) (last : Bool) (first before between behind asking written then more : Option (List ℕ)) (start old mid new : Machine)
    → Appends asking written (resume_bytes from.0 header.pages seals) → Asks alone start from seals → Joins alone start old first before → SoFar alone before between written then old mid → last ≡ true → TakesOne alone last mid new between behind then more
    → Follows alone header start new first behind asking more
unfolding more_so_far
follows_all alone header from seals last first before between behind asking written then more start old mid new resume asks joins so_far ends one =
    let (frames, answers, read, told, session, each) = more_so_far alone last before between behind written then more old mid new so_far one in
    record {
      from = from;
      seals = seals;
      asks = asks;
      joined = old;
      between = before;
      joins = joins;
      frames = so_far.0;
      last = one.frame;
      answers = answers;
      ends = sym one.is_last ∙ ends;
      each = each;
      read = read;
      told = Appends-trans asking written more (resume_bytes from.0 header.pages seals) (answers_bytes answers) resume told;
      session = session;
    }

-- the next frame was not answered
pub stops_early : (alone : Type 0) (refuses : EngineFault → Machine → Type 0) (header : LogHeader) (from : Lsn) (seals : List ℕ) (first before between rest asking written then more : Option (List ℕ)) (start old mid new : Machine) (f : Fault)
    → Appends asking written (resume_bytes from.0 header.pages seals) → Asks alone start from seals → Joins alone start old first before → SoFar alone before between written then old mid → Stops alone refuses mid f new between rest → TellsPart alone mid new between rest then more
    → EndsAt alone refuses header f start new first asking more
stops_early alone refuses header from seals first before between rest asking written then more start old mid new f resume asks joins (frames, answers, read, told, session, each) stops part =
    inr (inr (record {
      from = from;
      seals = seals;
      asks = asks;
      joined = old;
      between = before;
      joins = joins;
      frames = frames;
      answers = answers;
      each = each;
      behind = between;
      read = read;
      then = then;
      told = Appends-trans asking written then (resume_bytes from.0 header.pages seals) (answers_bytes answers) resume told;
      taken = mid;
      session = session;
      rest = rest;
      stops = stops;
      part = part;
    }))

-- ---- what was told of the frame at which a session ends

pub tells_nothing : (alone : Type 0) (old new : Machine) (before behind written : Option (List ℕ)) → TellsPart alone old new before behind written written
tells_nothing alone old new before behind written = inl (Appends-nil written)

pub turned : (old taken forced new : Machine) (frame : Frame) (position answer : Lsn) → Handles old frame (Ok position) taken → Forces taken answer forced → SameText forced new → Turns old frame answer new
turned old taken forced new frame position answer handles forces keeps = record { position = position; taken = taken; forced = forced; handles = handles; forces = forces; keeps = keeps }

-- a front of the answer, or all of it
pub tells_part : (alone : Type 0) (old new : Machine) (before behind written more : Option (List ℕ)) (frame : Frame) (answer : Lsn) → IsFrame frame → Consumes before behind (frame_bytes frame) → Puts (acknowledged_bytes answer.0) written more → (alone → Turns old frame answer new)
    → TellsPart alone old new before behind written more
tells_part alone old new before behind written more frame answer is read puts turns = inr (answer, puts, record { frame = frame; is = is; read = read; came = turns })
