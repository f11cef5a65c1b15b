-- Frames of a source that are taken one after another.
use Rattle.std.proofs.Common.{◌≡◌, ℕ, ◌+◌, ◌-◌, ◌<◌, ◌≤◌, List, [], ◌∷◌, ◌++◌, length, take, drop, Option, refl, sym, ap, subst, ◌∙◌, append_assoc, append-nil, drop_of_length-le, inl, inr, arith}
use Rattle.std.specs.List.{AllByRecursion}
use Rattle.std.specs.Io.KnownBytes.{Consumes, Appends}
use Rattle.std.proofs.lemmas.List.{drop-drop, drop-take, drop_at, take-append-drop}
use Rattle.std.proofs.lemmas.Bool.{cases_lt}
use Rattle.std.proofs.KnownBytes.{Consumes-nil, Consumes-trans, Appends-nil, Appends-trans}
use Rattle.als_wire.specs.declared.frame.Frame.{Frame}
use Rattle.als_wire.specs.declared.frame.Frame.TheVariants.{Data}
use Rattle.als_wire.specs.Frames.{frame_bytes}
use Rattle.als_ship.specs.Wire.{bytes_at}
use Rattle.als_ship.specs.Follows.{IsFront, IsTrueFrame}
use Rattle.als_ship.specs.Sessions.{frames_bytes}
use Rattle.als_ship.specs.Vouching.{AnswersAll, AnswersPart}
use Rattle.als_ship.proofs.Fronts.{front_less, front_same}
use Rattle.als_ship.proofs.Sessions.{flat_push}
use Rattle.als_ship.proofs.Vouching.{answers_nothing}
use Rattle.als_lookback.specs.Judged.{Judged, position_of}
use Rattle.als_backup.specs.Texts.{held_in, Grows, TakesFrame, TakesFrames, AcknowledgesNothing}
use Rattle.als_backup.proofs.Texts.{length_held}

-- true bytes that begin at or below the end of a front make it longer, by what is past it
past_front : (held bytes text : List ℕ) (offset : ℕ) → bytes_at text offset (length bytes) ≡ bytes → offset ≤ length held → length held - offset < length bytes → IsFront held text
    → IsFront (held ++ drop (length held - offset) bytes) text
past_front held bytes text offset holds low some front =
    let k = length held - offset in
    let m = length bytes - k in
    let rest = front.0 in
    let split : k + m ≡ length bytes = omega (arith, some) in
    let past : drop k bytes ≡ take m rest =
    ap (drop k) (sym holds)
    ∙ ap (λ (n : ℕ). drop k (take n (drop offset text))) (sym split)
    ∙ drop-take k m (drop offset text)
    ∙ ap (take m) (drop-drop k offset text ∙ ap (λ (n : ℕ). drop n text) (omega (arith, low)) ∙ ap (drop (length held)) front.1 ∙ drop_at held rest (length held) refl) in (
      drop m rest,
      front.1 ∙ ap (λ (xs : List ℕ). held ++ xs) (sym (take-append-drop m rest)) ∙ sym (append_assoc held (take m rest) (drop m rest)) ∙ ap (λ (xs : List ℕ). (held ++ xs) ++ drop m rest) (sym past),
    )

-- so do the first of them
pub fresh_front : (held bytes text : List ℕ) (offset n : ℕ) → bytes_at text offset (length bytes) ≡ bytes → offset ≤ length held → IsFront held text → IsFront (held ++ take n (drop (length held - offset) bytes)) text
fresh_front held bytes text offset n holds low front =
    let k = length held - offset in
    let all : IsFront (held ++ drop k bytes) text =
    elim (cases_lt k (length bytes)) [
      | inl some ↦ past_front held bytes text offset holds low some front
      | inr none ↦ front_same held (held ++ drop k bytes) text (sym (ap (λ (xs : List ℕ). held ++ xs) (drop_of_length-le bytes {i = k} none) ∙ append-nil held)) front
    ] in
    let parts : held ++ drop k bytes ≡ (held ++ take n (drop k bytes)) ++ drop n (drop k bytes) =
    ap (λ (xs : List ℕ). held ++ xs) (sym (take-append-drop n (drop k bytes))) ∙ sym (append_assoc held (take n (drop k bytes)) (drop n (drop k bytes))) in
    front_less (held ++ take n (drop k bytes)) (drop n (drop k bytes)) text (front_same (held ++ drop k bytes) ((held ++ take n (drop k bytes)) ++ drop n (drop k bytes)) text parts all)

-- what is new of a frame was taken and written
pub frame_taken : (epoch of offset n at : ℕ) (bytes more : List ℕ) (old new : Judged) (before behind out more_out : Option (List ℕ)) → of ≡ epoch → at ≡ position_of old → offset ≤ at → more ≡ take n (drop (at - offset) bytes)
    → held_in new ≡ held_in old ++ more → Consumes before behind (frame_bytes (Data of offset bytes)) → Appends out more_out more → TakesFrame epoch old new before behind out more_out
frame_taken epoch of offset n at bytes more old new before behind out more_out own here low is held read written = (
  Data of offset bytes,
  read,
  record {
    more = more;
    held = held;
    written = written;
    true_front = λ texts seals holds front.
        let long : length (held_in old) ≡ at = length_held old ∙ sym here in
        let there : bytes_at (texts epoch) offset (length bytes) ≡ bytes = subst (λ (e : ℕ). bytes_at (texts e) offset (length bytes) ≡ bytes) own holds in
        let grown = fresh_front (held_in old) bytes (texts epoch) offset n there (omega (arith, long, low)) front in
        let same : held_in old ++ take n (drop (length (held_in old) - offset) bytes) ≡ held_in new =
        ap (λ (m : ℕ). held_in old ++ take n (drop (m - offset) bytes)) long ∙ ap (λ (xs : List ℕ). held_in old ++ xs) (sym is) ∙ sym held in
        front_same (held_in old ++ take n (drop (length (held_in old) - offset) bytes)) (held_in new) (texts epoch) same grown;
  },
)

-- ---- the loop over frames

all_push : {X : Type 0} (P : X → Type 0) (xs : List X) (x : X) → AllByRecursion P (xs ++ x ∷ []) → AllByRecursion P xs × P x
all_push P [] x all = (tt, all.0)
all_push P (y ∷ xs) x all = let rest = all_push P xs x all.1 in ((all.0, rest.0), rest.1)

pub frames_none : (epoch : ℕ) (j : Judged) (before out : Option (List ℕ)) → TakesFrames epoch j j before before out out
frames_none epoch j before out =
    ([], Consumes-nil before, record { more = []; held = sym (append-nil (held_in j)); written = Appends-nil out; true_front = λ texts seals holds front. front })

pub frames_more : (epoch : ℕ) (a b c : Judged) (before between behind out mid_out more_out : Option (List ℕ)) → TakesFrames epoch a b before between out mid_out → TakesFrame epoch b c between behind mid_out more_out
    → TakesFrames epoch a c before behind out more_out
frames_more epoch a b c before between behind out mid_out more_out (frames, read, g) (frame, one, h) = (
  frames ++ frame ∷ [],
  subst (Consumes before behind) (sym (flat_push frame_bytes frames frame)) (Consumes-trans before between behind (frames_bytes frames) (frame_bytes frame) read one),
  record {
    more = g.more ++ h.more;
    held = h.held ∙ ap (λ (xs : List ℕ). xs ++ h.more) g.held ∙ append_assoc (held_in a) g.more h.more;
    written = Appends-trans out mid_out more_out g.more h.more g.written h.written;
    true_front = λ texts seals holds front.
        let parts = all_push (IsTrueFrame texts seals) frames frame holds in
        h.true_front texts seals parts.1 (g.true_front texts seals parts.0 front);
  },
)

-- each answer so far, and none more
pub nothing_more : (told more_told : Option (List ℕ)) → AnswersAll 16 told more_told → AcknowledgesNothing told more_told
nothing_more told more_told all = record { mid = more_told; answers = all; part = answers_nothing 16 more_told }

-- and a front of one more
pub nothing_part : (told mid more_told : Option (List ℕ)) → AnswersAll 16 told mid → AnswersPart 16 mid more_told → AcknowledgesNothing told more_told
nothing_part told mid more_told all part = record { mid = mid; answers = all; part = part }
