-- Pieces of a text that follow one another.
use Rattle.std.proofs.Common.{◌≡◌, ℕ, ◌+◌, ◌-◌, ◌^◌, ◌<◌, ◌≤◌, List, [], ◌∷◌, ◌++◌, length, drop, Option, Some, None, suc, refl, subst, sym, ap, ◌∙◌, append_assoc, append-nil, arith, take-append-drop, drop_of_length-le, length-append}
use Rattle.std.proofs.lemmas.List.{length-take, length-drop, drop-drop, take_all}
use Rattle.std.specs.Io.KnownBytes.{Appends, Consumes}
use Rattle.std.proofs.KnownBytes.{Appends-trans, Appends-nil, Consumes-trans, Consumes-nil}
use Rattle.std.specs.List.{flat_map}
use Rattle.std.proofs.lemmas.List.Concat.{flat_map-cons, flat_map-append}
use Rattle.als_record.specs.declared.lsn.Lsn.{Lsn}
use Rattle.als_wire.specs.Frames.{data_bytes, acknowledged_bytes, answers_bytes}
use Rattle.als_wire.specs.declared.fault.Fault.TheVariants as wire
use Rattle.als_wire.specs.declared.tag.Tag.TheVariants as tag
use Rattle.als_wire.specs.Reading.{FailsToRead}
use Rattle.als_wire.specs.Sending.{Puts}
use Rattle.als_ship.specs.Wire.{bytes_at, pieces_bytes, ArePieces, joined, last_answer, AreLsns, HasNoAnswer, Pours, PoursPart}

pub pieces_push : (text : List ℕ) (at to end : ℕ) (pieces : List (List ℕ)) (piece : List ℕ) → ArePieces text at pieces to → 0 < length piece → length piece ≤ 65536 → piece ≡ bytes_at text to (length piece) → to + length piece ≡ end
    → ArePieces text at (pieces ++ piece ∷ []) end
pieces_push text at to end [] piece are some few is e = (some, few, subst (λ (k : ℕ). piece ≡ bytes_at text k (length piece)) (sym are) is, ap (λ (k : ℕ). k + length piece) are ∙ e)
pieces_push text at to end (p ∷ pieces) piece are some few is e = (are.0, are.1, are.2, pieces_push text (at + length p) to end pieces piece are.3 some few is e)

pub bytes_push : (text : List ℕ) (epoch at to : ℕ) (pieces : List (List ℕ)) (piece : List ℕ) → ArePieces text at pieces to → pieces_bytes epoch at (pieces ++ piece ∷ []) ≡ pieces_bytes epoch at pieces ++ data_bytes epoch to piece
bytes_push text epoch at to [] piece are = append-nil (data_bytes epoch at piece) ∙ ap (λ (k : ℕ). data_bytes epoch k piece) are
bytes_push text epoch at to (p ∷ pieces) piece are =
    ap (λ (xs : List ℕ). data_bytes epoch at p ++ xs) (bytes_push text epoch (at + length p) to pieces piece are.3) ∙ sym (append_assoc (data_bytes epoch at p) (pieces_bytes epoch (at + length p) pieces) (data_bytes epoch to piece))

long_enough : (text : List ℕ) (at len : ℕ) → at + len ≤ length text → length (bytes_at text at len) ≡ len
long_enough text at len h = omega (arith, length-take len (drop at text), length-drop at text)

-- ---- what was sent and answered so far

last_push : (answers : List Lsn) (lsn : Lsn) → last_answer (answers ++ lsn ∷ []) ≡ Some lsn
last_push [] lsn = refl
last_push (a ∷ []) lsn = refl
last_push (a ∷ b ∷ answers) lsn = last_push (b ∷ answers) lsn

answers_push : (answers : List Lsn) (lsn : Lsn) → answers_bytes (answers ++ lsn ∷ []) ≡ answers_bytes answers ++ acknowledged_bytes lsn.0
answers_push answers lsn =
    flat_map-append (λ (a : Lsn). acknowledged_bytes a.0) answers (lsn ∷ [])
    ∙ ap (λ (ys : List ℕ). answers_bytes answers ++ ys) (flat_map-cons (λ (a : Lsn). acknowledged_bytes a.0) lsn [] ∙ append-nil (acknowledged_bytes lsn.0))

-- each piece was answered
pub record Answered (text : List ℕ) (epoch from at : ℕ) (old new asked behind : Option (List ℕ)) (kept : Option Lsn) : Type 0 where
  pub pieces : List (List ℕ)
  pub answers : List Lsn
  pub are : ArePieces text from pieces at
  pub sent : Appends old new (pieces_bytes epoch from pieces)
  pub each : length answers ≡ length pieces
  pub fit : AreLsns answers
  pub heard : Consumes asked behind (answers_bytes answers)
  pub last : kept ≡ last_answer answers

pub answered_none : (text : List ℕ) (epoch from : ℕ) (old asked : Option (List ℕ)) (kept : Option Lsn) → kept ≡ None → Answered text epoch from from old old asked asked kept
answered_none text epoch from old asked kept none = record { pieces = []; answers = []; are = refl; sent = Appends-nil old; each = refl; fit = tt; heard = Consumes-nil asked; last = none }

heard_more : (asked between behind : Option (List ℕ)) (answers : List Lsn) (lsn : Lsn) → Consumes asked between (answers_bytes answers) → Consumes between behind (acknowledged_bytes lsn.0) → Consumes asked behind (answers_bytes (answers ++ lsn ∷ []))
heard_more asked between behind answers lsn so_far more =
    subst (Consumes asked behind) (sym (answers_push answers lsn)) (Consumes-trans asked between behind (answers_bytes answers) (acknowledged_bytes lsn.0) so_far more)

fit_push : (answers : List Lsn) (lsn : Lsn) → AreLsns answers → lsn.0 < 2 ^ 64 → AreLsns (answers ++ lsn ∷ [])
fit_push [] lsn all one = (one, tt)
fit_push (a ∷ answers) lsn all one = (all.0, fit_push answers lsn all.1 one)

length_push : {X : Type 0} (xs : List X) (x : X) → length (xs ++ x ∷ []) ≡ suc (length xs)
length_push xs x = omega (arith, length-append xs (x ∷ []))

pub answered_more : (text : List ℕ) (epoch from at len : ℕ) (old mid new asked between behind : Option (List ℕ)) (kept : Option Lsn) (lsn : Lsn)
    → Answered text epoch from at old mid asked between kept → 0 < len → len ≤ 65536 → at + len ≤ length text → Appends mid new (data_bytes epoch at (bytes_at text at len)) → lsn.0 < 2 ^ 64 → Consumes between behind (acknowledged_bytes lsn.0)
    → Answered text epoch from (at + len) old new asked behind (Some lsn)
answered_more text epoch from at len old mid new asked between behind kept lsn so_far some few inside more fits answer =
    let piece = bytes_at text at len in
    let long : length piece ≡ len = long_enough text at len inside in
    record {
      pieces = so_far.pieces ++ piece ∷ [];
      answers = so_far.answers ++ lsn ∷ [];
      are = pieces_push text from at (at + len) so_far.pieces piece so_far.are (omega (arith, long, some)) (omega (arith, long, few)) (ap (λ (k : ℕ). bytes_at text at k) (sym long)) (ap (λ (k : ℕ). at + k) long);
      sent = subst (Appends old new) (sym (bytes_push text epoch from at so_far.pieces piece so_far.are)) (Appends-trans old mid new (pieces_bytes epoch from so_far.pieces) (data_bytes epoch at piece) so_far.sent more);
      each = length_push so_far.answers lsn ∙ ap suc so_far.each ∙ sym (length_push so_far.pieces piece);
      fit = fit_push so_far.answers lsn so_far.fit fits;
      heard = heard_more asked between behind so_far.answers lsn so_far.heard answer;
      last = sym (last_push so_far.answers lsn);
    }

pub puts_all : (bytes : List ℕ) (old new : Option (List ℕ)) → Appends old new bytes → Puts bytes old new
puts_all bytes old new all = (bytes, [], sym (append-nil bytes), all)

pub puts_none : (bytes : List ℕ) (m : Option (List ℕ)) → Puts bytes m m
puts_none bytes m = ([], bytes, refl, Appends-nil m)

-- a front of the next frame, or all of it
pub pours_part : (text : List ℕ) (epoch from at len : ℕ) (old mid new asked behind : Option (List ℕ)) (kept : Option Lsn) → Answered text epoch from at old mid asked behind kept → Puts (data_bytes epoch at (bytes_at text at len)) mid new → PoursPart text epoch from asked old new kept
pours_part text epoch from at len old mid new asked behind kept a more = record {
  at = at;
  len = len;
  pieces = a.pieces;
  answers = a.answers;
  behind = behind;
  sent = mid;
  are = a.are;
  told = a.sent;
  more = more;
  each = a.each;
  fit = a.fit;
  heard = a.heard;
  last = a.last;
}

-- nothing was sent
pub pours_none : (text : List ℕ) (epoch from : ℕ) (old asked : Option (List ℕ)) (kept : Option Lsn) → kept ≡ None → PoursPart text epoch from asked old old kept
pours_none text epoch from old asked kept none =
    pours_part text epoch from from 0 old old old asked asked kept (answered_none text epoch from old asked kept none) (puts_none (data_bytes epoch from (bytes_at text from 0)) old)

-- all of it was sent, and the empty frame, and each frame answered
pub pours_all : (text : List ℕ) (epoch from end : ℕ) (old mid new asked between behind : Option (List ℕ)) (kept : Option Lsn) (lsn : Lsn)
    → end ≡ length text → Answered text epoch from end old mid asked between kept → Appends mid new (data_bytes epoch end []) → lsn.0 < 2 ^ 64 → Consumes between behind (acknowledged_bytes lsn.0) → Pours text epoch from asked behind old new (Some lsn)
pours_all text epoch from end old mid new asked between behind kept lsn whole a closing fits answer = record {
  pieces = a.pieces;
  answers = a.answers ++ lsn ∷ [];
  sent = mid;
  are = subst (ArePieces text from a.pieces) whole a.are;
  told = a.sent;
  closed = subst (λ (k : ℕ). Appends mid new (data_bytes epoch k [])) whole closing;
  each = length_push a.answers lsn ∙ ap suc a.each;
  fit = fit_push a.answers lsn a.fit fits;
  heard = heard_more asked between behind a.answers lsn a.heard answer;
  last = sym (last_push a.answers lsn);
}

-- no answer was read where one should be
pub no_answer : (text : List ℕ) (epoch from at : ℕ) (old mid asked between behind : Option (List ℕ)) (kept : Option Lsn) → Answered text epoch from at old mid asked between kept → FailsToRead tag.Acknowledged wire.BadFrame between behind → HasNoAnswer asked
no_answer text epoch from at old mid asked between behind kept a fails = record { answers = a.answers; between = between; behind = behind; heard = a.heard; fails = fails }

-- the rest of a text from an offset on
rest_is : (text : List ℕ) (at : ℕ) → bytes_at text at (length text - at) ≡ drop at text
rest_is text at = take_all (length text - at) (drop at text) (omega (arith, length-drop at text))

drop_further : (text : List ℕ) (at n : ℕ) → drop n (drop at text) ≡ drop (at + n) text
drop_further text at n = drop-drop n at text

drop_joined : (text : List ℕ) (at end : ℕ) (pieces : List (List ℕ)) → ArePieces text at pieces end → end ≡ length text → joined pieces ≡ drop at text
drop_joined text at end [] are whole = sym (drop_of_length-le text {i = at} (omega (arith, are, whole)))
drop_joined text at end (piece ∷ pieces) are whole =
    ap (λ (xs : List ℕ). piece ++ xs) (drop_joined text (at + length piece) end pieces are.3 whole ∙ sym (drop_further text at (length piece)))
    ∙ ap (λ (xs : List ℕ). xs ++ drop (length piece) (drop at text)) are.2
    ∙ take-append-drop (length piece) (drop at text)

pub joined_pieces : (text : List ℕ) (from : ℕ) (pieces : List (List ℕ)) → from ≤ length text → ArePieces text from pieces (length text) → joined pieces ≡ bytes_at text from (length text - from)
joined_pieces text from pieces within are = drop_joined text from (length text) pieces are refl ∙ sym (rest_is text from)
