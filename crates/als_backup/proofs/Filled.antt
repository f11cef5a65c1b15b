-- A node that takes in a log text, piece by piece.
use Rattle.std.proofs.Common.{◌≡◌, ℕ, ◌+◌, List, [], ◌∷◌, ◌++◌, length, take, drop, refl, sym, ap, subst, ◌∙◌, append-nil, length-append, arith}
use Rattle.std.proofs.lemmas.List.{drop-drop, drop-take, drop_at, take-take, take_at, take_all}
use Rattle.als_record.specs.LogText.{log_text, end_of}
use Rattle.als_epochs.specs.Histories.{IsHistory, GoesOn}
use Rattle.als_engine.specs.Machine.{Machine}
use Rattle.als_ship.specs.Epochs.{AgreeBelow, AreEpochs}
use Rattle.als_ship.specs.Follows.{HoldsFront, IsFront, SameText}
use Rattle.als_ship.specs.Wire.{bytes_at}
use Rattle.als_ship.proofs.Fronts.{holds_same, text_end}
use Rattle.als_backup.specs.Filled.{KeepsFrontOf, Fills}

-- one text for all epochs
one_text : (text : List ℕ) (seals : List ℕ) → AgreeBelow (λ _. text) seals
one_text text [] = tt
one_text text (seal ∷ seals) = (refl, one_text text seals)

pub same_epochs : (text seals : List ℕ) → IsHistory seals → AreEpochs (λ _. text) seals
same_epochs text seals is = record { rising = is.rises; agree = one_text text seals }

pub keeps_none : (epoch at : ℕ) (m : Machine) → KeepsFrontOf epoch at [] m m
keeps_none epoch at m texts seals epochs holds h = h

pub keeps_same : (epoch at : ℕ) (bytes : List ℕ) (old mid new : Machine) → KeepsFrontOf epoch at bytes old mid → SameText mid new → KeepsFrontOf epoch at bytes old new
keeps_same epoch at bytes old mid new keeps same texts seals epochs holds h = holds_same texts seals mid new same (keeps texts seals epochs holds h)

-- bytes of a text are the front of them, and those behind it
front_at : (text xs ys : List ℕ) (at : ℕ) → bytes_at text at (length (xs ++ ys)) ≡ xs ++ ys → bytes_at text at (length xs) ≡ xs
front_at text xs ys at e =
    let d = drop at text in
    let n = length xs in
    let m = length ys in
    sym (take-take n (n + m) d (omega arith)) ∙ ap (λ (k : ℕ). take n (take k d)) (sym (length-append xs ys)) ∙ ap (take n) e ∙ take_at xs ys n refl

behind_at : (text xs ys : List ℕ) (at : ℕ) → bytes_at text at (length (xs ++ ys)) ≡ xs ++ ys → bytes_at text (at + length xs) (length ys) ≡ ys
behind_at text xs ys at e =
    let d = drop at text in
    let n = length xs in
    let m = length ys in
    ap (take m) (sym (drop-drop n at text))
    ∙ sym (drop-take n m d)
    ∙ ap (λ (k : ℕ). drop n (take k d)) (sym (length-append xs ys))
    ∙ ap (drop n) e
    ∙ drop_at xs ys n refl

pub keeps_more : (epoch : ℕ) (bytes piece : List ℕ) (at : ℕ) (old mid new : Machine) → at ≡ 16 + length bytes → KeepsFrontOf epoch 16 bytes old mid → KeepsFrontOf epoch at piece mid new → KeepsFrontOf epoch 16 (bytes ++ piece) old new
keeps_more epoch bytes piece at old mid new here first then texts seals epochs holds h =
    let low = front_at (texts epoch) bytes piece 16 holds in
    let high = behind_at (texts epoch) bytes piece 16 holds in
    then texts seals epochs (subst (λ (n : ℕ). bytes_at (texts epoch) n (length piece) ≡ piece) (sym here) high) (first texts seals epochs low h)

-- a front of a text that is as long is the text
whole_front : (xs text : List ℕ) → IsFront xs text → length xs ≡ length text → xs ≡ text
whole_front xs text (rest, e) long = sym (e ∙ ap (λ (ys : List ℕ). xs ++ ys) (none rest (omega (arith, long, ap length e, length-append xs rest))) ∙ append-nil xs)
  where
    none : (ys : List ℕ) → length ys ≡ 0 → ys ≡ []
    none [] e = refl
    none (y ∷ ys) e = absurd (omega (arith, e))

pub filled : (text history : List ℕ) (m : Machine) (end : ℕ) → HoldsFront (λ _. text) history m → end_of m.held.log ≡ end → length text ≡ end → log_text m.held.pages m.held.log ≡ text
filled text history m end h here long = whole_front (log_text m.held.pages m.held.log) text h.log (omega (arith, text_end m.held.pages m.held.log, here, long))

-- the history was taken up, then what stands behind the header, and the text stayed
pub fills_text : (history front rest : List ℕ) (epoch end : ℕ) (m0 m1 m2 m3 : Machine) → length front ≡ 16 → length rest + 16 ≡ end → IsHistory history
    → ((texts : ℕ → List ℕ) (seals : List ℕ) → AreEpochs texts seals → GoesOn history seals → HoldsFront texts seals m0 → HoldsFront texts seals m1)
    → KeepsFrontOf epoch 16 rest m1 m2 → SameText m2 m3 → end_of m3.held.log ≡ end → Fills history (front ++ rest) m0 m3
fills_text history front rest epoch end m0 m1 m2 m3 head long is joined kept same here h =
    let text = front ++ rest in
    let texts : ℕ → List ℕ = λ _. text in
    let epochs = same_epochs text history is in
    let there : bytes_at text 16 (length rest) ≡ rest = ap (take (length rest)) (drop_at front rest 16 head) ∙ take_all (length rest) rest (omega arith) in
    let first = joined texts history epochs ([], sym (append-nil history)) h in
    let then = holds_same texts history m2 m3 same (kept texts history epochs there first) in
    filled text history m3 end then here (omega (arith, length-append front rest, head, long))
