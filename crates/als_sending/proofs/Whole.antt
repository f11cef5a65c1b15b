-- A whole session: what its parts make of it.
use Rattle.std.proofs.Common.{◌≡◌, ℕ, ◌-◌, ◌≤◌, suc, List, [], ◌∷◌, ◌++◌, length, Option, refl, subst, sym, ap, ◌∙◌, append-nil, arith, inr, length-append}
use Rattle.std.specs.Io.KnownBytes.{Appends, Keeps}
use Rattle.std.proofs.KnownBytes.{Appends-kept}
use Rattle.als_record.specs.declared.lsn.Lsn.{Lsn}
use Rattle.als_wire.specs.Frames.{data_bytes, epochs_bytes}
use Rattle.als_wire.specs.Sending.{Puts}
use Rattle.als_ship.specs.declared.fault.Fault.{Fault}
use Rattle.als_ship.specs.Wire.{FailsToPour}
use Rattle.als_ship.proofs.Beginning.{serves_unanswered}
use Rattle.als_sending.specs.declared.way.Way.{Way}
use Rattle.als_sending.specs.Reads.{Read, IsOf, AreOf}
use Rattle.als_sending.specs.Sent.{reads_bytes, SendsTrue}
use Rattle.als_sending.specs.Meeting.{IsAdmitted, FailsToSend}
use Rattle.als_sending.specs.Going.{numbers, Stops, Closes}
use Rattle.als_sending.specs.Session.{Hears, KeepsWindow, Begins, Sends}
use Rattle.als_sending.proofs.Going.{all-append, all-front, all-rest}

length-numbers : (answers : List Lsn) → length (numbers answers) ≡ length answers
length-numbers [] = refl
length-numbers (a ∷ answers) = ap suc (length-numbers answers)

-- the end rises
pub admitted_later : (pages end shown : ℕ) (own : List ℕ) (from : ℕ) (asked between old then : Option (List ℕ)) → IsAdmitted pages end own from asked between old then → end ≤ shown → IsAdmitted pages shown own from asked between old then
admitted_later pages end shown own from asked between old then a rises =
    record { theirs = a.theirs; history = a.history; step = a.step; judged = a.judged; fits = a.fits; range = a.range; within = omega (arith, a.within, rises); heard = a.heard; told = a.told }

-- of what was read, the last part may be what was sent last
pieces_of : (text : List ℕ) (reads reads_now pieces seen next : List Read) → reads_now ≡ reads ++ (pieces ++ seen) → (AreOf text seen → AreOf text next) → AreOf text reads_now → AreOf text (pieces ++ next)
pieces_of text reads reads_now pieces seen next is last are =
    let new : AreOf text (pieces ++ seen) = all-rest (IsOf text) reads (pieces ++ seen) (subst (λ (rs : List Read). AreOf text rs) is are) in
    all-append (IsOf text) pieces next (all-front (IsOf text) pieces seen new) (last (all-rest (IsOf text) pieces seen new))

-- ---- one that broke off

pub true_stops : (text own : List ℕ) (w : Way) (reads reads_now : List Read) (heard heard_now : List ℕ) (between old then new : Option (List ℕ)) → w.epoch ≡ length own → Appends old then (epochs_bytes own) → Stops w reads reads_now heard heard_now between then new
    → AreOf text reads_now → SendsTrue text own old new
true_stops text own w reads reads_now heard heard_now between old then new epoch told s are = inr (record {
  from = w.at;
  to = s.to;
  pieces = s.pieces;
  next = s.next;
  then = then;
  sent = s.sent;
  told = told;
  reach = s.reach;
  whole = subst (λ (e : ℕ). Appends then s.sent (reads_bytes e s.pieces)) epoch s.whole;
  one = s.one;
  follows = s.follows;
  more = subst (λ (e : ℕ). Puts (reads_bytes e s.next) s.sent new) epoch s.more;
  are = pieces_of text reads reads_now s.pieces s.seen s.next s.are (s.true_next text) are;
})

pub hears_stops : (pages shown : ℕ) (own : List ℕ) (w : Way) (reads reads_now : List Read) (heard heard_now : List ℕ) (asked between old then new : Option (List ℕ)) → IsAdmitted pages shown own w.at asked between old then → Stops w reads reads_now heard heard_now between then new
    → Hears pages shown own heard heard_now asked old
hears_stops pages shown own w reads reads_now heard heard_now asked between old then new admitted s =
    inr (record { from = w.at; between = between; then = then; behind = s.behind; admitted = admitted; answers = s.answers; fit = s.fit; read = s.read; kept = s.kept })

pub window_stops : (own : List ℕ) (w : Way) (reads reads_now : List Read) (heard heard_now : List ℕ) (between old then new : Option (List ℕ)) → w.epoch ≡ length own → w.ahead ≡ 0 → Appends old then (epochs_bytes own) → Stops w reads reads_now heard heard_now between then new
    → KeepsWindow w.window own heard heard_now old new
window_stops own w reads reads_now heard heard_now between old then new epoch none told s = inr (record {
  pieces = s.pieces;
  next = s.next;
  then = then;
  sent = s.sent;
  told = told;
  whole = subst (λ (e : ℕ). Appends then s.sent (reads_bytes e s.pieces)) epoch s.whole;
  one = s.one;
  more = subst (λ (e : ℕ). Puts (reads_bytes e s.next) s.sent new) epoch s.more;
  few = omega (arith, s.window, none, ap length s.kept, length-append heard (numbers s.answers), length-numbers s.answers);
})

-- ---- one that ended

closing : (own : List ℕ) (e end : ℕ) (sent new : Option (List ℕ)) → e ≡ length own → Appends sent new (data_bytes e end []) → Puts (reads_bytes (length own) (record { at = end; bytes = [] } ∷ [])) sent new
closing own e end sent new epoch closed =
    let bytes : List ℕ = data_bytes (length own) end [] in
    let here : Appends sent new bytes = subst (λ (k : ℕ). Appends sent new (data_bytes k end [])) epoch closed in
    (bytes, [], refl, here)

pub true_closes : (text own : List ℕ) (w : Way) (end : ℕ) (reads reads_now : List Read) (heard heard_now : List ℕ) (between behind old then new : Option (List ℕ)) → w.epoch ≡ length own → Appends old then (epochs_bytes own)
    → Closes w end reads reads_now heard heard_now between behind then new → AreOf text reads_now → SendsTrue text own old new
true_closes text own w end reads reads_now heard heard_now between behind old then new epoch told s are = inr (record {
  from = w.at;
  to = end;
  pieces = s.pieces;
  next = record { at = end; bytes = [] } ∷ [];
  then = then;
  sent = s.sent;
  told = told;
  reach = s.reach;
  whole = subst (λ (e : ℕ). Appends then s.sent (reads_bytes e s.pieces)) epoch s.whole;
  one = omega arith;
  follows = ((omega arith, omega arith), tt);
  more = closing own w.epoch end s.sent new epoch s.closed;
  are = pieces_of text reads reads_now s.pieces [] (record { at = end; bytes = [] } ∷ []) (s.are ∙ ap (λ (xs : List Read). reads ++ xs) (sym (append-nil s.pieces))) (λ none. (refl, tt)) are;
})

pub hears_closes : (pages end : ℕ) (own : List ℕ) (w : Way) (reads reads_now : List Read) (heard heard_now : List ℕ) (asked between behind old then new : Option (List ℕ)) → IsAdmitted pages end own w.at asked between old then
    → Closes w end reads reads_now heard heard_now between behind then new → Hears pages end own heard heard_now asked old
hears_closes pages end own w reads reads_now heard heard_now asked between behind old then new admitted s =
    inr (record { from = w.at; between = between; then = then; behind = behind; admitted = admitted; answers = s.answers; fit = s.fit; read = s.read; kept = s.kept })

pub window_closes : (own : List ℕ) (w : Way) (end : ℕ) (reads reads_now : List Read) (heard heard_now : List ℕ) (between behind old then new : Option (List ℕ)) → w.epoch ≡ length own → Appends old then (epochs_bytes own)
    → Closes w end reads reads_now heard heard_now between behind then new → KeepsWindow w.window own heard heard_now old new
window_closes own w end reads reads_now heard heard_now between behind old then new epoch told s = inr (record {
  pieces = s.pieces;
  next = record { at = end; bytes = [] } ∷ [];
  then = then;
  sent = s.sent;
  told = told;
  whole = subst (λ (e : ℕ). Appends then s.sent (reads_bytes e s.pieces)) epoch s.whole;
  one = omega arith;
  more = closing own w.epoch end s.sent new epoch s.closed;
  few = omega (arith, s.each, ap length s.kept, length-append heard (numbers s.answers), length-numbers s.answers);
})

pub sends_closes : (pages end : ℕ) (own : List ℕ) (w : Way) (n : ℕ) (reads reads_now : List Read) (heard heard_now : List ℕ) (asked between behind old then new : Option (List ℕ)) → w.epoch ≡ length own → w.ahead ≡ 0 → IsAdmitted pages end own w.at asked between old then
    → Closes w end reads reads_now heard heard_now between behind then new → n ≡ end - w.at → Sends pages end own reads reads_now heard heard_now asked behind old new n
sends_closes pages end own w n reads reads_now heard heard_now asked between behind old then new epoch none admitted s count = record {
  from = w.at;
  between = between;
  then = then;
  sent = s.sent;
  admitted = admitted;
  pieces = s.pieces;
  answers = s.answers;
  reach = s.reach;
  are = s.are;
  whole = subst (λ (e : ℕ). Appends then s.sent (reads_bytes e s.pieces)) epoch s.whole;
  closed = subst (λ (e : ℕ). Appends s.sent new (data_bytes e end [])) epoch s.closed;
  each = omega (arith, s.each, none);
  fit = s.fit;
  read = s.read;
  kept = s.kept;
  count = count;
}

-- ---- both

pub begins_at : (pages shown : ℕ) (own : List ℕ) (from : ℕ) (b0 b1 b2 : Option (List ℕ)) (heard heard_now : List ℕ) (asked between old then new : Option (List ℕ)) → IsAdmitted pages shown own from asked between old then → Appends b0 b1 (from ∷ []) → Keeps b1 b2
    → Begins pages shown own b0 b2 heard heard_now asked old new
begins_at pages shown own from b0 b1 b2 heard heard_now asked between old then new admitted began kept =
    inr (record { from = from; between = between; then = then; admitted = admitted; began = Appends-kept b0 b1 b2 (from ∷ []) began kept })

pub fails_later : (pages shown : ℕ) (own : List ℕ) (from : ℕ) (f : Fault) (asked between old then : Option (List ℕ)) → IsAdmitted pages shown own from asked between old then → FailsToPour f between → FailsToSend pages own shown f asked
fails_later pages shown own from f asked between old then a fails = serves_unanswered (record { pages = pages }) own a.theirs from shown f asked between a.history a.heard fails
