-- What the logs of several epochs have in common.
use Rattle.std.proofs.Common.{◌≡◌, ℕ, ◌+◌, ◌≤◌, suc, zero, List, [], ◌∷◌, ◌++◌, length, take, drop, refl, subst, sym, ap, ◌∙◌, append_assoc, append-nil, length-append, arith, take-append-drop}
use Rattle.std.proofs.lemmas.List.{take_at, take-take}
use Rattle.als_epochs.specs.Histories.{RisesFrom, GoesOn}
use Rattle.als_epochs.specs.HistoryLaws.{RisesFrom-lower}
use Rattle.als_ship.specs.Epochs.{AgreeBelow, AreEpochs}
use Rattle.als_ship.specs.Follows.{IsFront}

-- texts that agree below a seal agree below each offset that is not above it
take_less : (n seal : ℕ) (xs ys : List ℕ) → n ≤ seal → take seal xs ≡ take seal ys → take n xs ≡ take n ys
take_less n seal xs ys low same = sym (take-take n seal xs low) ∙ ap (take n) same ∙ take-take n seal ys low

-- each later text agrees with the first one below the first seal
later_same : (texts : ℕ → List ℕ) (seals : List ℕ) (n k : ℕ) → RisesFrom n seals → AgreeBelow texts seals → k ≤ length seals → take n (texts k) ≡ take n (texts 0)
later_same texts seals n zero rises agree within = refl
later_same texts [] n (suc k) rises agree within = absurd (omega (arith, within))
later_same texts (seal ∷ seals) n (suc k) rises agree within =
    let low : n ≤ seal = rises.0 in
    later_same (λ e. texts (suc e)) seals n k (RisesFrom-lower n seal seals low rises.1) agree.1 (omega (arith, within)) ∙ take_less n seal (texts 1) (texts 0) low agree.0

-- below a seal the text of its epoch and each later one agree
agree_from : (texts : ℕ → List ℕ) (low : ℕ) (front : List ℕ) (seal : ℕ) (rest : List ℕ) (k : ℕ) → RisesFrom low (front ++ seal ∷ rest) → AgreeBelow texts (front ++ seal ∷ rest) → length front ≤ k → k ≤ length (front ++ seal ∷ rest)
    → take seal (texts k) ≡ take seal (texts (length front))
agree_from texts low [] seal rest k rises agree above within = later_same texts (seal ∷ rest) seal k (omega arith, rises.1) agree within
agree_from texts low (f ∷ front) seal rest zero rises agree above within = absurd (omega (arith, above))
agree_from texts low (f ∷ front) seal rest (suc k) rises agree above within =
    agree_from (λ e. texts (suc e)) f front seal rest k rises.1 agree.1 (omega (arith, above)) (omega (arith, within))

-- bytes that a text begins with begin each text that agrees with it for their length
moved_front : (bytes one other : List ℕ) (seal : ℕ) → length bytes ≤ seal → take seal one ≡ take seal other → IsFront bytes one → IsFront bytes other
moved_front bytes one other seal short same (rest, is) =
    let n = length bytes in
    let begins : take n other ≡ bytes = sym (take_less n seal one other short same) ∙ ap (take n) is ∙ take_at bytes rest n refl in
    (drop n other, sym (take-append-drop n other) ∙ ap (λ (xs : List ℕ). xs ++ drop n other) begins)

-- where a history goes on with a seal, and a longer one is of the same seals
pub record Parts (seals front : List ℕ) (seal : ℕ) (later : List ℕ) : Type 0 where
  pub rest : List ℕ
  pub whole : seals ≡ front ++ seal ∷ rest
  pub within : length later ≤ length seals
  pub above : length front ≤ length later

pub parts_of : (seals front : List ℕ) (seal : ℕ) (more later : List ℕ) → later ≡ front ++ seal ∷ more → GoesOn later seals → Parts seals front seal later
parts_of seals front seal more later is (rest, whole) =
    let all : seals ≡ front ++ seal ∷ (more ++ rest) = whole ∙ ap (λ (xs : List ℕ). xs ++ rest) is ∙ append_assoc front (seal ∷ more) rest in
    let long : length later ≡ length front + length (seal ∷ more) = ap length is ∙ length-append front (seal ∷ more) in
    let longer : length seals ≡ length later + length rest = ap length whole ∙ length-append later rest in
    record { rest = more ++ rest; whole = all; within = omega (arith, longer); above = omega (arith, long) }

agreed : (texts : ℕ → List ℕ) (seals front : List ℕ) (seal : ℕ) (more later : List ℕ) → AreEpochs texts seals → later ≡ front ++ seal ∷ more → GoesOn later seals → take seal (texts (length later)) ≡ take seal (texts (length front))
agreed texts seals front seal more later epochs is on =
    let p : Parts seals front seal later = parts_of seals front seal more later is on in
    agree_from texts 0 front seal p.rest (length later) (subst (RisesFrom 0) p.whole epochs.rising) (subst (AgreeBelow texts) p.whole epochs.agree) p.above (omega (arith, p.within, ap length p.whole))

-- what ends at or below a seal, and begins the text of its epoch, begins that of a later one
pub front_later : (texts : ℕ → List ℕ) (seals front : List ℕ) (seal : ℕ) (more later bytes : List ℕ) → AreEpochs texts seals → later ≡ front ++ seal ∷ more → GoesOn later seals → length bytes ≤ seal → IsFront bytes (texts (length front))
    → IsFront bytes (texts (length later))
front_later texts seals front seal more later bytes epochs is on short begins =
    moved_front bytes (texts (length front)) (texts (length later)) seal short (sym (agreed texts seals front seal more later epochs is on)) begins

-- and the other way round
pub front_earlier : (texts : ℕ → List ℕ) (seals front : List ℕ) (seal : ℕ) (more later bytes : List ℕ) → AreEpochs texts seals → later ≡ front ++ seal ∷ more → GoesOn later seals → length bytes ≤ seal → IsFront bytes (texts (length later))
    → IsFront bytes (texts (length front))
front_earlier texts seals front seal more later bytes epochs is on short begins =
    moved_front bytes (texts (length later)) (texts (length front)) seal short (agreed texts seals front seal more later epochs is on) begins
