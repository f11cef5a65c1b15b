-- How a session goes on, step by step, and how its steps join.
use Rattle.std.proofs.Common.{◌≡◌, ℕ, ◌+◌, ◌^◌, ◌<◌, ◌≤◌, max, List, [], ◌∷◌, ◌++◌, length, Option, refl, subst, sym, ap, ◌∙◌, append_assoc, append-nil, arith, length-append}
use Rattle.std.specs.List.{AllByRecursion}
use Rattle.std.specs.Io.KnownBytes.{Appends, Consumes}
use Rattle.std.proofs.KnownBytes.{Appends-trans, Appends-nil, Consumes-trans, Consumes-nil}
use Rattle.std.proofs.lemmas.List.Concat.{flat_map-append, flat_map-cons}
use Rattle.als_record.specs.declared.lsn.Lsn.{Lsn}
use Rattle.als_wire.specs.Frames.{data_bytes, acknowledged_bytes, answers_bytes}
use Rattle.als_wire.specs.Sending.{Puts}
use Rattle.als_ship.specs.declared.fault.Fault.{Fault}
use Rattle.als_ship.specs.declared.fault.Fault.TheVariants.{BadHeader, Memory, Gap, BadFrame, Diverged, Cut, Stream, OtherEpoch, Refused}
use Rattle.als_ship.specs.Wire.{AreLsns, FailsToPour}
use Rattle.als_sending.specs.declared.way.Way.{Way}
use Rattle.als_sending.specs.Reads.{Read}
use Rattle.als_sending.specs.Sent.{reads_bytes, Reach, IsNext}
use Rattle.als_sending.specs.Going.{numbers, Goes, Stops, Closes}
use Rattle.als_sending.specs.Stepping.{IsReadAt, SendsOne, SendsPart}

-- ---- lists

pub all-append : {X : Type 0} (P : X → Type 0) (xs ys : List X) → AllByRecursion P xs → AllByRecursion P ys → AllByRecursion P (xs ++ ys)
all-append P [] ys front rest = rest
all-append P (x ∷ xs) ys front rest = (front.0, all-append P xs ys front.1 rest)

pub all-front : {X : Type 0} (P : X → Type 0) (xs ys : List X) → AllByRecursion P (xs ++ ys) → AllByRecursion P xs
all-front P [] ys all = tt
all-front P (x ∷ xs) ys all = (all.0, all-front P xs ys all.1)

pub all-rest : {X : Type 0} (P : X → Type 0) (xs ys : List X) → AllByRecursion P (xs ++ ys) → AllByRecursion P ys
all-rest P [] ys all = all
all-rest P (x ∷ xs) ys all = all-rest P xs ys all.1

pub reads_bytes-append : (epoch : ℕ) (xs ys : List Read) → reads_bytes epoch (xs ++ ys) ≡ reads_bytes epoch xs ++ reads_bytes epoch ys
reads_bytes-append epoch [] ys = refl
reads_bytes-append epoch (x ∷ xs) ys =
    ap (λ (bs : List ℕ). data_bytes epoch x.at x.bytes ++ bs) (reads_bytes-append epoch xs ys)
    ∙ sym (append_assoc (data_bytes epoch x.at x.bytes) (reads_bytes epoch xs) (reads_bytes epoch ys))

pub reach-append : (from mid to : ℕ) (xs ys : List Read) → Reach from xs mid → Reach mid ys to → Reach from (xs ++ ys) to
reach-append from mid to [] ys is more = subst (λ (k : ℕ). Reach k ys to) (sym is) more
reach-append from mid to (x ∷ xs) ys are more = (are.0, are.1, are.2, reach-append (max from (x.at + length x.bytes)) mid to xs ys are.3 more)

pub numbers-append : (xs ys : List Lsn) → numbers (xs ++ ys) ≡ numbers xs ++ numbers ys
numbers-append [] ys = refl
numbers-append (x ∷ xs) ys = ap (λ (ns : List ℕ). x.0 ∷ ns) (numbers-append xs ys)

pub answers-append : (xs ys : List Lsn) → answers_bytes (xs ++ ys) ≡ answers_bytes xs ++ answers_bytes ys
answers-append xs ys = flat_map-append (λ (a : Lsn). acknowledged_bytes a.0) xs ys

pub answers-one : (lsn : Lsn) → answers_bytes (lsn ∷ []) ≡ acknowledged_bytes lsn.0
answers-one lsn = flat_map-cons (λ (a : Lsn). acknowledged_bytes a.0) lsn [] ∙ append-nil (acknowledged_bytes lsn.0)

-- ---- parts of steps that join

kept_both : (h0 h1 h2 : List ℕ) (xs ys : List Lsn) → h1 ≡ h0 ++ numbers xs → h2 ≡ h1 ++ numbers ys → h2 ≡ h0 ++ numbers (xs ++ ys)
kept_both h0 h1 h2 xs ys first then =
    then ∙ ap (λ (ns : List ℕ). ns ++ numbers ys) first ∙ append_assoc h0 (numbers xs) (numbers ys) ∙ ap (λ (ns : List ℕ). h0 ++ ns) (sym (numbers-append xs ys))

read_both : (a0 a1 a2 : Option (List ℕ)) (xs ys : List Lsn) → Consumes a0 a1 (answers_bytes xs) → Consumes a1 a2 (answers_bytes ys) → Consumes a0 a2 (answers_bytes (xs ++ ys))
read_both a0 a1 a2 xs ys first then = subst (Consumes a0 a2) (sym (answers-append xs ys)) (Consumes-trans a0 a1 a2 (answers_bytes xs) (answers_bytes ys) first then)

sent_both : (e d : ℕ) (o0 o1 o2 : Option (List ℕ)) (xs ys : List Read) → d ≡ e → Appends o0 o1 (reads_bytes e xs) → Appends o1 o2 (reads_bytes d ys) → Appends o0 o2 (reads_bytes e (xs ++ ys))
sent_both e d o0 o1 o2 xs ys same first then =
    subst (Appends o0 o2) (sym (reads_bytes-append e xs ys))
    (Appends-trans o0 o1 o2 (reads_bytes e xs) (reads_bytes e ys) first (subst (λ (k : ℕ). Appends o1 o2 (reads_bytes k ys)) same then))

fit_both : (xs ys : List Lsn) → AreLsns xs → AreLsns ys → AreLsns (xs ++ ys)
fit_both xs ys first then = all-append (λ (lsn : Lsn). lsn.0 < 2 ^ 64) xs ys first then

-- ---- steps that join

pub goes_none : (w : Way) (reads : List Read) (heard : List ℕ) (asked old : Option (List ℕ)) → Goes w w reads reads heard heard asked asked old old
goes_none w reads heard asked old = record {
  pieces = [];
  answers = [];
  epoch = refl;
  window = refl;
  reach = refl;
  are = sym (append-nil reads);
  sent = Appends-nil old;
  ahead = omega arith;
  fit = tt;
  kept = sym (append-nil heard);
  read = Consumes-nil asked;
}

pub goes_both : (w v u : Way) (r0 r1 r2 : List Read) (h0 h1 h2 : List ℕ) (a0 a1 a2 o0 o1 o2 : Option (List ℕ)) → Goes w v r0 r1 h0 h1 a0 a1 o0 o1 → Goes v u r1 r2 h1 h2 a1 a2 o1 o2 → Goes w u r0 r2 h0 h2 a0 a2 o0 o2
goes_both w v u r0 r1 r2 h0 h1 h2 a0 a1 a2 o0 o1 o2 f s = record {
  pieces = f.pieces ++ s.pieces;
  answers = f.answers ++ s.answers;
  epoch = s.epoch ∙ f.epoch;
  window = s.window ∙ f.window;
  reach = reach-append w.at v.at u.at f.pieces s.pieces f.reach s.reach;
  are = s.are ∙ ap (λ (xs : List Read). xs ++ s.pieces) f.are ∙ append_assoc r0 f.pieces s.pieces;
  sent = sent_both w.epoch v.epoch o0 o1 o2 f.pieces s.pieces f.epoch f.sent s.sent;
  ahead = omega (arith, f.ahead, s.ahead, length-append f.pieces s.pieces, length-append f.answers s.answers);
  fit = fit_both f.answers s.answers f.fit s.fit;
  kept = kept_both h0 h1 h2 f.answers s.answers f.kept s.kept;
  read = read_both a0 a1 a2 f.answers s.answers f.read s.read;
}

pub stops_both : (w v : Way) (r0 r1 r2 : List Read) (h0 h1 h2 : List ℕ) (a0 a1 o0 o1 o2 : Option (List ℕ)) → Goes w v r0 r1 h0 h1 a0 a1 o0 o1 → Stops v r1 r2 h1 h2 a1 o1 o2 → Stops w r0 r2 h0 h2 a0 o0 o2
stops_both w v r0 r1 r2 h0 h1 h2 a0 a1 o0 o1 o2 f s = record {
  pieces = f.pieces ++ s.pieces;
  next = s.next;
  seen = s.seen;
  answers = f.answers ++ s.answers;
  to = s.to;
  sent = s.sent;
  behind = s.behind;
  reach = reach-append w.at v.at s.to f.pieces s.pieces f.reach s.reach;
  one = s.one;
  follows = s.follows;
  are = s.are ∙ ap (λ (xs : List Read). xs ++ (s.pieces ++ s.seen)) f.are ∙ append_assoc r0 f.pieces (s.pieces ++ s.seen) ∙ ap (λ (xs : List Read). r0 ++ xs) (sym (append_assoc f.pieces s.pieces s.seen));
  true_next = s.true_next;
  whole = sent_both w.epoch v.epoch o0 o1 s.sent f.pieces s.pieces f.epoch f.sent s.whole;
  more = subst (λ (k : ℕ). Puts (reads_bytes k s.next) s.sent o2) f.epoch s.more;
  window = omega (arith, f.ahead, f.window, s.window, length-append f.pieces s.pieces, length-append f.answers s.answers);
  fit = fit_both f.answers s.answers f.fit s.fit;
  kept = kept_both h0 h1 h2 f.answers s.answers f.kept s.kept;
  read = read_both a0 a1 s.behind f.answers s.answers f.read s.read;
}

-- it breaks off where it is
pub stops_here : (w v : Way) (r0 r1 : List Read) (h0 h1 : List ℕ) (a0 a1 o0 o1 : Option (List ℕ)) → Goes w v r0 r1 h0 h1 a0 a1 o0 o1 → v.ahead ≤ v.window → Stops w r0 r1 h0 h1 a0 o0 o1
stops_here w v r0 r1 h0 h1 a0 a1 o0 o1 g low = record {
  pieces = g.pieces;
  next = [];
  seen = [];
  answers = g.answers;
  to = v.at;
  sent = o1;
  behind = a1;
  reach = g.reach;
  one = omega arith;
  follows = tt;
  are = g.are ∙ ap (λ (xs : List Read). r0 ++ xs) (sym (append-nil g.pieces));
  true_next = λ text are. tt;
  whole = g.sent;
  more = ([], [], refl, Appends-nil o1);
  window = omega (arith, g.ahead, g.window, low);
  fit = g.fit;
  kept = g.kept;
  read = g.read;
}

pub stops_now : (w : Way) (reads : List Read) (heard : List ℕ) (asked old : Option (List ℕ)) → w.ahead ≤ w.window → Stops w reads reads heard heard asked old old
stops_now w reads heard asked old low = stops_here w w reads reads heard heard asked asked old old (goes_none w reads heard asked old) low

pub closes_both : (w v : Way) (end : ℕ) (r0 r1 r2 : List Read) (h0 h1 h2 : List ℕ) (a0 a1 a2 o0 o1 o2 : Option (List ℕ)) → Goes w v r0 r1 h0 h1 a0 a1 o0 o1 → Closes v end r1 r2 h1 h2 a1 a2 o1 o2 → Closes w end r0 r2 h0 h2 a0 a2 o0 o2
closes_both w v end r0 r1 r2 h0 h1 h2 a0 a1 a2 o0 o1 o2 f s = record {
  pieces = f.pieces ++ s.pieces;
  answers = f.answers ++ s.answers;
  sent = s.sent;
  reach = reach-append w.at v.at end f.pieces s.pieces f.reach s.reach;
  are = s.are ∙ ap (λ (xs : List Read). xs ++ s.pieces) f.are ∙ append_assoc r0 f.pieces s.pieces;
  whole = sent_both w.epoch v.epoch o0 o1 s.sent f.pieces s.pieces f.epoch f.sent s.whole;
  closed = subst (λ (k : ℕ). Appends s.sent o2 (data_bytes k end [])) f.epoch s.closed;
  each = omega (arith, f.ahead, s.each, length-append f.pieces s.pieces, length-append f.answers s.answers);
  fit = fit_both f.answers s.answers f.fit s.fit;
  kept = kept_both h0 h1 h2 f.answers s.answers f.kept s.kept;
  read = read_both a0 a1 a2 f.answers s.answers f.read s.read;
}

-- answers were read, and then none
pub fails_both : (f : Fault) (answers : List Lsn) (asked between : Option (List ℕ)) → Consumes asked between (answers_bytes answers) → FailsToPour f between → FailsToPour f asked
fails_both BadFrame answers asked between read fails =
    record { answers = answers ++ fails.answers; between = fails.between; behind = fails.behind; heard = read_both asked between fails.between answers fails.answers read fails.heard; fails = fails.fails }
fails_both Memory answers asked between read fails = tt
fails_both Cut answers asked between read fails = tt
fails_both Stream answers asked between read fails = tt
fails_both BadHeader answers asked between read fails = absurd fails
fails_both Gap answers asked between read fails = absurd fails
fails_both (Diverged seal) answers asked between read fails = absurd fails
fails_both (OtherEpoch epoch) answers asked between read fails = absurd fails
fails_both (Refused cause) answers asked between read fails = absurd fails

pub fails_stream : (f : Fault) (asked : Option (List ℕ)) → f ≡ Stream → FailsToPour f asked
fails_stream f asked is = subst (λ (x : Fault). FailsToPour x asked) (sym is) tt

-- ---- one step

pub goes_piece : (w v : Way) (at len : ℕ) (reads reads_now : List Read) (heard : List ℕ) (asked old new : Option (List ℕ)) → SendsOne w.epoch at len reads reads_now old new → at ≤ w.at → 0 < len → len ≤ 65536 → max w.at (at + len) ≡ v.at
    → v.epoch ≡ w.epoch → v.window ≡ w.window → v.ahead ≡ w.ahead + 1 → Goes w v reads reads_now heard heard asked asked old new
goes_piece w v at len reads reads_now heard asked old new s low some few to epoch window ahead =
    let r : Read = record { at = at; bytes = s.bytes } in
    record {
      pieces = r ∷ [];
      answers = [];
      epoch = epoch;
      window = window;
      reach = (low, omega (arith, s.long, some), omega (arith, s.long, few), ap (λ (k : ℕ). max w.at (at + k)) s.long ∙ to);
      are = s.are;
      sent = subst (Appends old new) (sym (append-nil (data_bytes w.epoch at s.bytes))) s.sent;
      ahead = omega (arith, ahead);
      fit = tt;
      kept = sym (append-nil heard);
      read = Consumes-nil asked;
    }

follows_at : (at to : ℕ) (next : List Read) → at ≤ to → AllByRecursion (IsReadAt at) next → AllByRecursion (IsNext to) next
follows_at at to [] low all = tt
follows_at at to (r ∷ next) low all = ((omega (arith, all.0.0, low), all.0.1), follows_at at to next low all.1)

pub stops_piece : (w : Way) (at : ℕ) (reads reads_now : List Read) (heard : List ℕ) (asked old new : Option (List ℕ)) → SendsPart w.epoch at reads reads_now old new → at ≤ w.at → w.ahead < w.window → Stops w reads reads_now heard heard asked old new
stops_piece w at reads reads_now heard asked old new s low free = record {
  pieces = [];
  next = s.next;
  seen = s.next;
  answers = [];
  to = w.at;
  sent = old;
  behind = asked;
  reach = refl;
  one = s.one;
  follows = follows_at at w.at s.next low s.there;
  are = s.are;
  true_next = λ text are. are;
  whole = Appends-nil old;
  more = s.more;
  window = omega (arith, s.one, free);
  fit = tt;
  kept = sym (append-nil heard);
  read = Consumes-nil asked;
}

pub goes_answer : (w v : Way) (lsn : Lsn) (reads : List Read) (heard heard_now : List ℕ) (asked behind written : Option (List ℕ)) → Consumes asked behind (acknowledged_bytes lsn.0) → lsn.0 < 2 ^ 64 → heard_now ≡ heard ++ lsn.0 ∷ []
    → v.at ≡ w.at → v.epoch ≡ w.epoch → v.window ≡ w.window → w.ahead ≡ v.ahead + 1 → Goes w v reads reads heard heard_now asked behind written written
goes_answer w v lsn reads heard heard_now asked behind written read fits kept at epoch window ahead = record {
  pieces = [];
  answers = lsn ∷ [];
  epoch = epoch;
  window = window;
  reach = sym at;
  are = sym (append-nil reads);
  sent = Appends-nil written;
  ahead = omega (arith, ahead);
  fit = (fits, tt);
  kept = kept;
  read = subst (Consumes asked behind) (sym (answers-one lsn)) read;
}

-- the empty frame, and its answer
pub closes_here : (w : Way) (lsn : Lsn) (reads : List Read) (heard heard_now : List ℕ) (asked behind old new : Option (List ℕ)) → w.ahead ≡ 0 → Appends old new (data_bytes w.epoch w.at []) → Consumes asked behind (acknowledged_bytes lsn.0) → lsn.0 < 2 ^ 64 → heard_now ≡ heard ++ lsn.0 ∷ []
    → Closes w w.at reads reads heard heard_now asked behind old new
closes_here w lsn reads heard heard_now asked behind old new none closing read fits kept = record {
  pieces = [];
  answers = lsn ∷ [];
  sent = old;
  reach = refl;
  are = sym (append-nil reads);
  whole = Appends-nil old;
  closed = closing;
  each = omega (arith, none);
  fit = (fits, tt);
  kept = kept;
  read = subst (Consumes asked behind) (sym (answers-one lsn)) read;
}

-- the empty frame or a front of it, and no answer
pub stops_closing : (w : Way) (reads : List Read) (heard : List ℕ) (asked old new : Option (List ℕ)) → w.ahead ≡ 0 → 1 ≤ w.window → Puts (data_bytes w.epoch w.at []) old new → Stops w reads reads heard heard asked old new
stops_closing w reads heard asked old new none some puts =
    let r : Read = record { at = w.at; bytes = [] } in
    record {
      pieces = [];
      next = r ∷ [];
      seen = [];
      answers = [];
      to = w.at;
      sent = old;
      behind = asked;
      reach = refl;
      one = omega arith;
      follows = ((omega arith, omega arith), tt);
      are = sym (append-nil reads);
      true_next = λ text are. (refl, tt);
      whole = Appends-nil old;
      more = subst (λ (bs : List ℕ). Puts bs old new) (sym (append-nil (data_bytes w.epoch w.at []))) puts;
      window = omega (arith, none, some);
      fit = tt;
      kept = sym (append-nil heard);
      read = Consumes-nil asked;
    }

-- ---- where only the log was looked at, or nothing was heard

pub goes_look : (w v : Way) (reads reads_now : List Read) (heard : List ℕ) (asked old : Option (List ℕ)) → reads_now ≡ reads → v.at ≡ w.at → v.epoch ≡ w.epoch → v.window ≡ w.window → v.ahead ≡ w.ahead → Goes w v reads reads_now heard heard asked asked old old
goes_look w v reads reads_now heard asked old same at epoch window ahead = record {
  pieces = [];
  answers = [];
  epoch = epoch;
  window = window;
  reach = sym at;
  are = same ∙ sym (append-nil reads);
  sent = Appends-nil old;
  ahead = omega (arith, ahead);
  fit = tt;
  kept = sym (append-nil heard);
  read = Consumes-nil asked;
}

pub stops_look : (w : Way) (reads reads_now : List Read) (heard heard_now : List ℕ) (asked old : Option (List ℕ)) → reads_now ≡ reads → heard_now ≡ heard → w.ahead ≤ w.window → Stops w reads reads_now heard heard_now asked old old
stops_look w reads reads_now heard heard_now asked old same none low =
    subst (λ (xs : List Read). Stops w reads xs heard heard_now asked old old) (sym same)
    (subst (λ (ns : List ℕ). Stops w reads reads heard ns asked old old) (sym none) (stops_now w reads heard asked old low))
