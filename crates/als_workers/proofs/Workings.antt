-- What a worker does in one step, and in two one after another.
use Rattle.std.proofs.Common.{◌≡◌, ℕ, ◌+◌, ◌*◌, ◌/◌, ◌<◌, ◌≤◌, List, [], ◌∷◌, ◌++◌, Option, Some, None, refl, sym, ap, ap₂, ◌∙◌, subst, inl, inr, ⊎_elim, arith, append_assoc, append-nil}
use Rattle.std.proofs.Common.{suc, lit<}
use Rattle.std.proofs.Math.Nat.{div-mul-le_self}
use Rattle.std.proofs.lemmas.Nat.{le-div}
use Rattle.als_lease.specs.Lease.{Leased}
use Rattle.als_workers.specs.declared.rule.PassState.{PassState}
use Rattle.als_workers.specs.Pairs.{pair_of}
use Rattle.als_workers.specs.declared.job.Job.TheVariants as job
use Rattle.als_workers.specs.Rule.{pass_state, has_put, has_taken, was_refused}
use Rattle.als_workers.proofs.Totals.{weigh-append}
use Rattle.als_workers.specs.declared.offer.Offer.{Offer}
use Rattle.als_workers.specs.declared.ended.Ended.{Ended}
use Rattle.als_workers.specs.declared.ended.Ended.TheVariants.{Stop, Empty, Gate, Back, Memory}
use Rattle.als_workers.specs.Offers.{offer_of}
use Rattle.als_workers.specs.Worked.{one_if, times, times_offered, TakenBelow, HaveRisen, HaveNotFallen, AreFinished, MayLeave, stops_for, returns_for, Worked, HasTaken}

-- ---- lists

below-left : (xs ys : List (ℕ × ℕ)) (number turn : ℕ) → TakenBelow xs number turn → TakenBelow (xs ++ ys) number turn
below-left [] ys number turn h = absurd h
below-left (x ∷ xs) ys number turn h = ⊎_elim (λ (a : (x.0 ≡ number) × (x.1 < turn)). inl a) (λ (b : TakenBelow xs number turn). inr (below-left xs ys number turn b)) h

below-right : (xs ys : List (ℕ × ℕ)) (number turn : ℕ) → TakenBelow ys number turn → TakenBelow (xs ++ ys) number turn
below-right [] ys number turn h = h
below-right (x ∷ xs) ys number turn h = inr (below-right xs ys number turn h)

risen-left : (xs ys ps : List (ℕ × ℕ)) → HaveRisen xs ps → HaveRisen (xs ++ ys) ps
risen-left xs ys [] h = tt
risen-left xs ys (p ∷ ps) h = (below-left xs ys p.0 p.1 h.0, risen-left xs ys ps h.1)

risen-right : (xs ys ps : List (ℕ × ℕ)) → HaveRisen ys ps → HaveRisen (xs ++ ys) ps
risen-right xs ys [] h = tt
risen-right xs ys (p ∷ ps) h = (below-right xs ys p.0 p.1 h.0, risen-right xs ys ps h.1)

risen-append : (xs ps qs : List (ℕ × ℕ)) → HaveRisen xs ps → HaveRisen xs qs → HaveRisen xs (ps ++ qs)
risen-append xs [] qs h k = k
risen-append xs (p ∷ ps) qs h k = (h.0, risen-append xs ps qs h.1 k)

kept-left : (xs ys : List (ℕ × ℕ)) (es : List Offer) → HaveNotFallen xs es → HaveNotFallen (xs ++ ys) es
kept-left xs ys [] h = tt
kept-left xs ys (e ∷ es) h = (below-left xs ys e.number (e.turn + 1) h.0, kept-left xs ys es h.1)

kept-right : (xs ys : List (ℕ × ℕ)) (es : List Offer) → HaveNotFallen ys es → HaveNotFallen (xs ++ ys) es
kept-right xs ys [] h = tt
kept-right xs ys (e ∷ es) h = (below-right xs ys e.number (e.turn + 1) h.0, kept-right xs ys es h.1)

kept-append : (xs : List (ℕ × ℕ)) (es fs : List Offer) → HaveNotFallen xs es → HaveNotFallen xs fs → HaveNotFallen xs (es ++ fs)
kept-append xs [] fs h k = k
kept-append xs (e ∷ es) fs h k = (h.0, kept-append xs es fs h.1 k)

finished-append : (es fs : List Offer) → AreFinished es → AreFinished fs → AreFinished (es ++ fs)
finished-append [] fs h k = k
finished-append (e ∷ es) fs h k = (h.0, finished-append es fs h.1 k)

times_offered-append : (number : ℕ) (es fs : List Offer) → times_offered number (es ++ fs) ≡ times_offered number es + times_offered number fs
times_offered-append number [] fs = omega arith
times_offered-append number (e ∷ es) fs = omega (arith, times_offered-append number es fs)

-- ---- turns

turn-more : (n : ℕ) → n / 16 < (n + 16) / 16
turn-more n = let less : n / 16 * 16 ≤ n = div-mul-le_self n 16 in le-div (suc (n / 16)) (n + 16) 16 (lit< tt) (omega arith)

turn-le : (m n : ℕ) → m ≤ n → m / 16 < n / 16 + 1
turn-le m n h =
    let less : m / 16 * 16 ≤ m = div-mul-le_self m 16 in
    let le : m / 16 ≤ n / 16 = le-div (m / 16) n 16 (lit< tt) (omega arith) in
    omega arith

-- ---- passes

-- what a pass is, number by number
same_state : (parts : ℕ) {put put' taken taken' : List (ℕ × ℕ)} {a a' b b' c c' : ℕ} → put ≡ put' → taken ≡ taken' → a ≡ a' → b ≡ b' → c ≡ c'
    → pass_state parts put taken a b c ≡ pass_state parts put' taken' a' b' c'
same_state parts {put} {put'} {taken} {taken'} {a} {a'} {b} {b'} {c} {c'} p t x y z =
    ap₂ (λ (i j : List (ℕ × ℕ)). pass_state parts i j a b c) p t ∙ ap₂ (λ (i j : ℕ). pass_state parts put' taken' i j c) x y
    ∙ ap (λ (i : ℕ). pass_state parts put' taken' a' b' i) z

-- a worker ends for this reason, or goes on, and so it took a stop or a lease came back
abbrev pub ends : Option Ended → PassState → PassState
ends why v = pass_state v.parts v.put v.taken v.stops_put (v.stops_taken + stops_for why) (v.handed_back + returns_for why)

-- neither
pub stays : (v w : PassState) → w ≡ v → w ≡ pass_state v.parts v.put v.taken v.stops_put (v.stops_taken + 0) (v.handed_back + 0)
stays v w same = same ∙ same_state v.parts refl refl refl (omega arith) (omega arith)

pub took_stop : (v w : PassState) → w ≡ has_taken v job.Stop → w ≡ ends (Some Stop) v
took_stop v w took = took ∙ same_state v.parts refl (append-nil v.taken) refl refl (omega arith)

pub came_back : (v w : PassState) → w ≡ was_refused v → w ≡ ends (Some Back) v
came_back v w back = back ∙ same_state v.parts refl refl refl (omega arith) refl

-- ---- one step

-- nothing was done
no_left : (why : Option Ended) → MayLeave why []
no_left None = refl
no_left (Some Stop) = refl
no_left (Some Empty) = refl
no_left (Some Memory) = refl
no_left (Some Gate) = omega arith
no_left (Some Back) = omega arith

pub idle : (v w : PassState) (before after : List Offer) (why : Option Ended) → w ≡ ends why v → after ≡ before → Worked v w before after why
idle v w before after why same same' =
    record {
      put = [];
      taken = [];
      finished = [];
      left = [];
      passes = same ∙ same_state v.parts (sym (append-nil v.put)) (sym (append-nil v.taken)) refl refl refl;
      offers = same' ∙ sym (append-nil before);
      balance = λ number. refl;
      rose = tt;
      kept = tt;
      whole = tt;
      may_leave = no_left why;
    }

-- a lease was taken, and then given as it is or with more redone
pub gave : (u v w : PassState) (l now : Leased) (before after : List Offer) (why : Option Ended) (finished left : List Offer)
    → HasTaken u l v → w ≡ ends why v → now.number ≡ l.number → l.done ≤ now.done → after ≡ before ++ offer_of now ∷ []
    → finished ++ left ≡ offer_of now ∷ [] → AreFinished finished → MayLeave why left
    → Worked u w before after why
gave u v w l now before after why finished left taken same number further after_is offer whole may =
    record {
      put = [];
      taken = pair_of l ∷ [];
      finished = finished;
      left = left;
      passes = same ∙ ap (ends why) taken ∙ same_state u.parts (sym (append-nil u.put)) refl refl (omega arith) refl;
      offers = after_is ∙ ap (λ es. before ++ es) (sym offer);
      balance = λ n.
          let given : times_offered n (finished ++ left) ≡ one_if n now.number + 0 = ap (times_offered n) offer in
          let one : one_if n now.number ≡ one_if n l.number = ap (one_if n) number in
          omega arith;
      rose = tt;
      kept = subst (λ es. HaveNotFallen (pair_of l ∷ []) es) (sym offer) (inl (sym number, turn-le l.done now.done further), tt);
      whole = whole;
      may_leave = may;
    }

-- a lease was taken, and put again with a turn more redone
pub put_again : (u v w : PassState) (l now : Leased) (before after : List Offer)
    → HasTaken u l v → w ≡ has_put v (job.Work now) → now.number ≡ l.number → now.done ≡ l.done + 16 → after ≡ before
    → Worked u w before after None
put_again u v w l now before after taken put number turn after_is =
    record {
      put = pair_of now ∷ [];
      taken = pair_of l ∷ [];
      finished = [];
      left = [];
      passes = put ∙ ap (λ (h : PassState). has_put h (job.Work now)) taken ∙ same_state u.parts refl refl (omega arith) (omega arith) (omega arith);
      offers = after_is ∙ sym (append-nil before);
      balance = λ n. let one : one_if n now.number ≡ one_if n l.number = ap (one_if n) number in omega arith;
      rose = (inl (sym number, subst (λ d. l.done / 16 < d / 16) (sym turn) (turn-more l.done)), tt);
      kept = tt;
      whole = tt;
      may_leave = refl;
    }

-- ---- two steps

pub then : (u v w : PassState) (before between after : List Offer) (why : Option Ended)
    → Worked u v before between None → Worked v w between after why → Worked u w before after why
then u v w before between after why a b =
    let none : a.left ≡ [] = a.may_leave in
    let whole : a.finished ++ a.left ≡ a.finished = ap (λ es. a.finished ++ es) none ∙ append-nil a.finished in
    let all : (a.finished ++ b.finished) ++ b.left ≡ a.finished ++ (b.finished ++ b.left) = append_assoc a.finished b.finished b.left in
    record {
      put = a.put ++ b.put;
      taken = a.taken ++ b.taken;
      finished = a.finished ++ b.finished;
      left = b.left;
      passes = b.passes ∙ ap (λ (h : PassState). pass_state h.parts (h.put ++ b.put) (h.taken ++ b.taken) h.stops_put (h.stops_taken + stops_for why) (h.handed_back + returns_for why)) a.passes
          ∙ same_state u.parts (append_assoc u.put a.put b.put) (append_assoc u.taken a.taken b.taken) refl (omega arith) (omega arith);
      offers = b.offers ∙ ap (λ es. es ++ (b.finished ++ b.left)) (a.offers ∙ ap (λ es. before ++ es) whole)
          ∙ append_assoc before a.finished (b.finished ++ b.left) ∙ ap (λ es. before ++ es) (sym all);
      balance = λ n.
          let one : times n a.taken ≡ times n a.put + times_offered n a.finished = a.balance n ∙ ap (λ es. times n a.put + times_offered n es) whole in
          let two = b.balance n in
          let given : times_offered n ((a.finished ++ b.finished) ++ b.left) ≡ times_offered n a.finished + times_offered n (b.finished ++ b.left)
          = ap (times_offered n) all ∙ times_offered-append n a.finished (b.finished ++ b.left) in
          omega (arith, weigh-append (λ p. one_if n p.0) a.taken b.taken, weigh-append (λ p. one_if n p.0) a.put b.put);
      rose = risen-append (a.taken ++ b.taken) a.put b.put (risen-left a.taken b.taken a.put a.rose) (risen-right a.taken b.taken b.put b.rose);
      kept = subst (λ es. HaveNotFallen (a.taken ++ b.taken) es) (sym all)
          (kept-append (a.taken ++ b.taken) a.finished (b.finished ++ b.left)
          (kept-left a.taken b.taken a.finished (subst (λ es. HaveNotFallen a.taken es) whole a.kept))
          (kept-right a.taken b.taken (b.finished ++ b.left) b.kept));
      whole = finished-append a.finished b.finished a.whole b.whole;
      may_leave = b.may_leave;
    }
