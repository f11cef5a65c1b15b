-- Leases lent and put, one after another.
use Rattle.std.proofs.Common.{◌≡◌, ℕ, zero, suc, ◌+◌, ◌≤◌, ◌/◌, List, [], ◌∷◌, ◌++◌, length, refl, sym, ap, ap₂, ◌∙◌, arith, append_assoc, append-nil}
use Rattle.std.specs.Prelude.{Result, Ok, Err}
use Rattle.std.proofs.lemmas.List.{length-append}
use Rattle.als_lease.specs.Lease.{Leased}
use Rattle.als_workers.specs.declared.rule.PassState.{PassState}
use Rattle.als_workers.specs.Pairs.{pair_of}
use Rattle.als_workers.specs.declared.job.Job.TheVariants.{Work, Stop}
use Rattle.als_workers.specs.Rule.{pass_state, has_put, was_refused}
use Rattle.als_engine.specs.declared.event.Event.TheVariants as event
use Rattle.als_engine.specs.Tally.{place_of, raised, TellsOk}
use Rattle.als_workers.specs.Dispatching.{AreFresh, Dispatches, HasStopped}

-- ---- raising

raised-none : (place : ℕ) (xs : List ℕ) → raised place 0 xs ≡ xs
raised-none place [] = refl
raised-none zero (x ∷ xs) = ap (λ (n : ℕ). n ∷ xs) (omega arith)
raised-none (suc place) (x ∷ xs) = ap (λ (ys : List ℕ). x ∷ ys) (raised-none place xs)

raised-twice : (place a b : ℕ) (xs : List ℕ) → raised place b (raised place a xs) ≡ raised place (a + b) xs
raised-twice place a b [] = refl
raised-twice zero a b (x ∷ xs) = ap (λ (n : ℕ). n ∷ xs) (omega arith)
raised-twice (suc place) a b (x ∷ xs) = ap (λ (ys : List ℕ). x ∷ ys) (raised-twice place a b xs)

raised-swap : (p q a b : ℕ) (xs : List ℕ) → raised p a (raised q b xs) ≡ raised q b (raised p a xs)
raised-swap p q a b [] = refl
raised-swap zero zero a b (x ∷ xs) = ap (λ (n : ℕ). n ∷ xs) (omega arith)
raised-swap zero (suc q) a b (x ∷ xs) = refl
raised-swap (suc p) zero a b (x ∷ xs) = refl
raised-swap (suc p) (suc q) a b (x ∷ xs) = ap (λ (ys : List ℕ). x ∷ ys) (raised-swap p q a b xs)

-- ---- one step, and two one after another

fresh-append : (ps qs : List (ℕ × ℕ)) → AreFresh ps → AreFresh qs → AreFresh (ps ++ qs)
fresh-append [] qs h k = k
fresh-append (p ∷ ps) qs h k = (h.0, fresh-append ps qs h.1 k)

-- what a pass is, number by number
same_state : (parts : ℕ) {put put' taken taken' : List (ℕ × ℕ)} {a a' b b' c c' : ℕ} → put ≡ put' → taken ≡ taken' → a ≡ a' → b ≡ b' → c ≡ c'
    → pass_state parts put taken a b c ≡ pass_state parts put' taken' a' b' c'
same_state parts {put} {put'} {taken} {taken'} {a} {a'} {b} {b'} {c} {c'} p t x y z =
    ap₂ (λ (i j : List (ℕ × ℕ)). pass_state parts i j a b c) p t ∙ ap₂ (λ (i j : ℕ). pass_state parts put' taken' i j c) x y
    ∙ ap (λ (i : ℕ). pass_state parts put' taken' a' b' i) z

-- nothing was lent
pub lends_none : (v w : PassState) (old new : List ℕ) → w ≡ v → new ≡ old → Dispatches v w old new 0 0
lends_none v w old new same same' = record {
  put = [];
  back = 0;
  given = 0;
  stops_back = 0;
  passes = same ∙ same_state v.parts (sym (append-nil v.put)) refl (omega arith) refl (omega arith);
  fresh = tt;
  few = omega arith;
  lent = same' ∙ sym (raised-none (place_of event.Give) (raised (place_of event.Lend) 0 old) ∙ raised-none (place_of event.Lend) old);
  each = refl;
}

-- one lease was lent and put
pub lends_one : (v w : PassState) (l : Leased) (old new : List ℕ) → l.done ≡ 0 → w ≡ has_put v (Work l)
    → new ≡ raised (place_of event.Lend) 1 old → Dispatches v w old new 0 0
lends_one v w l old new none put lent = record {
  put = pair_of l ∷ [];
  back = 0;
  given = 0;
  stops_back = 0;
  passes = put ∙ same_state v.parts refl refl refl refl (omega arith);
  fresh = (ap (λ (n : ℕ). n / 16) none, tt);
  few = omega arith;
  lent = lent ∙ sym (raised-none (place_of event.Give) (raised (place_of event.Lend) 1 old));
  each = refl;
}

came_back : (v w : PassState) (given : ℕ) (old mid new : List ℕ) → w ≡ was_refused v → given ≤ 1 → mid ≡ raised (place_of event.Lend) 1 old
    → new ≡ raised (place_of event.Give) given mid → Dispatches v w old new 0 0
came_back v w given old mid new back few lent gave = record {
  put = [];
  back = 1;
  given = given;
  stops_back = 0;
  passes = back ∙ same_state v.parts (sym (append-nil v.put)) refl (omega arith) refl refl;
  fresh = tt;
  few = few;
  lent = gave ∙ ap (raised (place_of event.Give) given) lent;
  each = refl;
}

-- one lease was lent and came back; it was taken in, or not
pub lends_back : {A B : Type 0} → (v w : PassState) (answer : Result A B) (old mid new : List ℕ) → w ≡ was_refused v
    → mid ≡ raised (place_of event.Lend) 1 old → TellsOk event.Give answer mid new → Dispatches v w old new 0 0
lends_back v w (Ok a) old mid new back lent gave = came_back v w 1 old mid new back (omega arith) lent gave
lends_back v w (Err b) old mid new back lent gave =
    came_back v w 0 old mid new back (omega arith) lent (gave ∙ sym (raised-none (place_of event.Give) mid))

pub lends_more : (u v w : PassState) (old mid new : List ℕ) → Dispatches u v old mid 0 0 → Dispatches v w mid new 0 0 → Dispatches u w old new 0 0
lends_more u v w old mid new a b =
    let g = place_of event.Give in
    let l = place_of event.Lend in
    let n = length a.put + a.back in
    let m = length b.put + b.back in
    let sum : n + m ≡ length (a.put ++ b.put) + (a.back + b.back) = omega (arith, length-append a.put b.put) in
    record {
      put = a.put ++ b.put;
      back = a.back + b.back;
      given = a.given + b.given;
      stops_back = 0;
      passes = b.passes ∙ ap (λ (h : PassState). pass_state h.parts (h.put ++ b.put) h.taken (h.stops_put + 0) h.stops_taken (h.handed_back + (b.back + b.stops_back))) a.passes
          ∙ same_state u.parts (append_assoc u.put a.put b.put) refl (omega arith) refl (omega (arith, a.each, b.each));
      fresh = fresh-append a.put b.put a.fresh b.fresh;
      few = omega (arith, a.few, b.few);
      lent = b.lent ∙ ap (λ (xs : List ℕ). raised g b.given (raised l m xs)) a.lent
          ∙ ap (raised g b.given) (raised-swap l g m a.given (raised l n old) ∙ ap (raised g a.given) (raised-twice l n m old))
          ∙ raised-twice g a.given b.given (raised l (n + m) old)
          ∙ ap (λ (k : ℕ). raised g (a.given + b.given) (raised l k old)) sum;
      each = refl;
    }

-- ---- stops

-- none yet
pub stopped_none : (v : PassState) → HasStopped v v 0 0
stopped_none v = record { back = 0; passes = same_state v.parts refl refl (omega arith) refl (omega arith); each = refl }

-- one was put
pub stopped_one : (v w : PassState) → w ≡ has_put v Stop → HasStopped v w 1 1
stopped_one v w put = record { back = 0; passes = put ∙ same_state v.parts (append-nil v.put) refl refl refl (omega arith); each = refl }

-- one came back
pub stopped_back : (v w : PassState) → w ≡ was_refused v → HasStopped v w 1 0
stopped_back v w back = record { back = 1; passes = back ∙ same_state v.parts refl refl (omega arith) refl refl; each = refl }

-- not more than there are workers
pub few_stops : (v w : PassState) (n stops : ℕ) → HasStopped v w n stops → stops ≤ n
few_stops v w n stops h = let e = h.each in omega arith

-- and the pass has its parts
pub stopped_parts : (v w : PassState) (n stops : ℕ) → HasStopped v w n stops → w.parts ≡ v.parts
stopped_parts v w n stops h = ap (λ (x : PassState). x.parts) h.passes

-- one more
pub stopped_more : (u v w : PassState) (n s t : ℕ) → HasStopped u v n s → HasStopped v w 1 t → HasStopped u w (n + 1) (s + t)
stopped_more u v w n s t a b = record {
  back = a.back + b.back;
  passes = b.passes ∙ ap (λ (x : PassState). pass_state x.parts x.put x.taken (x.stops_put + t) x.stops_taken (x.handed_back + b.back)) a.passes
      ∙ same_state u.parts refl refl (omega arith) refl (omega arith);
  each = let x = a.each in let y = b.each in omega arith;
}

-- stops after leases
pub then_stops : (u v w : PassState) (old new : List ℕ) (workers stops : ℕ) → Dispatches u v old new 0 0 → HasStopped v w workers stops
    → Dispatches u w old new workers stops
then_stops u v w old new workers stops a h = record {
  put = a.put;
  back = a.back;
  given = a.given;
  stops_back = h.back;
  passes = h.passes ∙ ap (λ (x : PassState). pass_state x.parts x.put x.taken (x.stops_put + stops) x.stops_taken (x.handed_back + h.back)) a.passes
      ∙ same_state u.parts refl refl (omega arith) refl (omega (arith, a.each));
  fresh = a.fresh;
  few = a.few;
  lent = a.lent;
  each = h.each;
}
