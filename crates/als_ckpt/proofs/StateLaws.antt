-- Laws of a state and those that follow it.
use Rattle.std.proofs.Common.{◌≡◌, ℕ, ◌≤◌, zero, suc, List, [], ◌∷◌, ◌++◌, refl, sym, ap, subst, ◌∙◌, arith, inl, inr, Option, None, Some}
use Rattle.std.specs.Prelude.{Contains, ◌⊎◌}
use Rattle.als_record.specs.declared.lsn.Lsn.{Lsn}
use Rattle.als_ckpt.specs.declared.phase.Phase.{Phase}
use Rattle.als_ckpt.specs.declared.phase.Phase.TheVariants.{Following, Sealed, Primary}
use Rattle.als_ckpt.specs.declared.region.Region.{Region}
use Rattle.als_ckpt.specs.declared.control_state.ControlState.{ControlState}
use Rattle.als_ckpt.specs.Control.{last_state, MarksRise, Continues, HistoriesGrow, IsPosition, IsSeal, IsControlState}
use Rattle.als_epochs.specs.Histories.{GoesOn, next_seal}
use Rattle.als_epochs.specs.HistoryLaws.{GoesOn-refl, GoesOn-trans, next_seal-behind, next_seal-whole, next_seal-longer}

-- the state written last is the last one
pub last_state-push : (s : ControlState) (xs : List ControlState) (y : ControlState) → last_state s (xs ++ y ∷ []) ≡ y
last_state-push s [] y = refl
last_state-push s (x ∷ xs) y = last_state-push x xs y

pub MarksRise-push : (s : ControlState) (xs : List ControlState) (y : ControlState) → MarksRise s xs → (last_state s xs).mark.0 ≤ y.mark.0 → MarksRise s (xs ++ y ∷ [])
MarksRise-push s [] y rise le = (le, tt)
MarksRise-push s (x ∷ xs) y rise le = (rise.0, MarksRise-push x xs y rise.1 le)

-- an element is the first or one of the others
Contains-cons_cases : {X : Type 0} (x : X) (xs : List X) (y : X) → Contains (x ∷ xs) y → (x ≡ y) ⊎ Contains xs y
Contains-cons_cases x xs y (zero, below, is) = inl is
Contains-cons_cases x xs y (suc k, below, is) = inr (k, omega (arith, below), is)

Contains-tail : {X : Type 0} (x : X) (xs : List X) (y : X) → Contains xs y → Contains (x ∷ xs) y
Contains-tail x xs y (k, below, is) = (suc k, omega (arith, below), is)

pub Contains-head : {X : Type 0} (x : X) (xs : List X) → Contains (x ∷ xs) x
Contains-head x xs = (0, omega arith, refl)

pub Contains-last_state : (s : ControlState) (xs : List ControlState) → Contains (s ∷ xs) (last_state s xs)
Contains-last_state s [] = Contains-head s []
Contains-last_state s (x ∷ xs) = Contains-tail s (x ∷ xs) (last_state x xs) (Contains-last_state x xs)

-- no mark is below the first one
pub MarksRise-from : (s : ControlState) (xs : List ControlState) (y : ControlState) → MarksRise s xs → Contains (s ∷ xs) y → s.mark.0 ≤ y.mark.0
MarksRise-from s [] y rise has =
    elim (Contains-cons_cases s [] y has) [
      | inl same ↦ let e : s.mark.0 ≡ y.mark.0 = ap (λ (t : ControlState). t.mark.0) same in omega (arith, e)
      | inr (k, below, is) ↦ absurd (omega (arith, below))
    ]
MarksRise-from s (x ∷ xs) y rise has =
    elim (Contains-cons_cases s (x ∷ xs) y has) [
      | inl same ↦ let e : s.mark.0 ≡ y.mark.0 = ap (λ (t : ControlState). t.mark.0) same in omega (arith, e)
      | inr later ↦ let le : x.mark.0 ≤ y.mark.0 = MarksRise-from x xs y rise.1 later in let step : s.mark.0 ≤ x.mark.0 = rise.0 in omega (arith, le, step)
    ]

-- no mark is above the last one
pub MarksRise-to : (s : ControlState) (xs : List ControlState) (y : ControlState) → MarksRise s xs → Contains (s ∷ xs) y → y.mark.0 ≤ (last_state s xs).mark.0
MarksRise-to s [] y rise has =
    elim (Contains-cons_cases s [] y has) [
      | inl same ↦ let e : s.mark.0 ≡ y.mark.0 = ap (λ (t : ControlState). t.mark.0) same in omega (arith, e)
      | inr (k, below, is) ↦ absurd (omega (arith, below))
    ]
MarksRise-to s (x ∷ xs) y rise has =
    elim (Contains-cons_cases s (x ∷ xs) y has) [
      | inl same ↦
          let e : s.mark.0 ≡ y.mark.0 = ap (λ (t : ControlState). t.mark.0) same in
          let le : x.mark.0 ≤ (last_state x xs).mark.0 = MarksRise-to x xs x rise.1 (Contains-head x xs) in
          let step : s.mark.0 ≤ x.mark.0 = rise.0 in
          omega (arith, e, le, step)
      | inr later ↦ MarksRise-to x xs y rise.1 later
    ]

-- ---- histories

-- a state with the same history
pub Continues-same : (s t : ControlState) → t.history ≡ s.history → Continues s t
Continues-same s t same = record {
  history = subst (GoesOn s.history) (sym same) (GoesOn-refl s.history);
  below = λ seal is.
      let none : next_seal s.history t.history ≡ None = ap (λ (h : List ℕ). next_seal s.history h) same ∙ next_seal-whole s.history in
      absurd (cc (none, is));
}

-- a state whose history goes on with a seal that is not below the mark
pub Continues-with : (s t : ControlState) (seal : ℕ) (rest : List ℕ) → t.history ≡ s.history ++ seal ∷ rest → s.mark.0 ≤ seal → Continues s t
Continues-with s t seal rest is low = record {
  history = (seal ∷ rest, is);
  below = λ other found.
      let next : next_seal s.history t.history ≡ Some seal = next_seal-behind s.history t.history (seal ∷ rest) is in
      let same : seal ≡ other = cc (next, found) in
      subst (λ (n : ℕ). s.mark.0 ≤ n) same low;
}

pub Continues-trans : (s t u : ControlState) → s.mark.0 ≤ t.mark.0 → Continues s t → Continues t u → Continues s u
Continues-trans s t u rises first then = record {
  history = GoesOn-trans s.history t.history u.history first.history then.history;
  below = λ seal is.
      elim (next_seal-longer s.history t.history u.history first.history then.history) [
        | inl same ↦
            let low : t.mark.0 ≤ seal = then.below seal (ap (λ (h : List ℕ). next_seal h u.history) same ∙ is) in
            omega (arith, rises, low)
        | inr same ↦ first.below seal (sym same ∙ is)
      ];
}

pub HistoriesGrow-push : (s : ControlState) (xs : List ControlState) (y : ControlState) → HistoriesGrow s xs → Continues (last_state s xs) y → HistoriesGrow s (xs ++ y ∷ [])
HistoriesGrow-push s [] y grow next = (next, tt)
HistoriesGrow-push s (x ∷ xs) y grow next = (grow.0, HistoriesGrow-push x xs y grow.1 next)

same-state : (s t : ControlState) → s ≡ t → Continues s t
same-state s t same = Continues-same s t (ap (λ (x : ControlState). x.history) (sym same))

-- each continues the first one
pub HistoriesGrow-from : (s : ControlState) (xs : List ControlState) (y : ControlState) → MarksRise s xs → HistoriesGrow s xs → Contains (s ∷ xs) y → Continues s y
HistoriesGrow-from s [] y rise grow has =
    elim (Contains-cons_cases s [] y has) [
      | inl same ↦ same-state s y same
      | inr (k, below, is) ↦ absurd (omega (arith, below))
    ]
HistoriesGrow-from s (x ∷ xs) y rise grow has =
    elim (Contains-cons_cases s (x ∷ xs) y has) [
      | inl same ↦ same-state s y same
      | inr later ↦ Continues-trans s x y rise.0 grow.0 (HistoriesGrow-from x xs y rise.1 grow.1 later)
    ]

-- and the last one continues each
pub HistoriesGrow-to : (s : ControlState) (xs : List ControlState) (y : ControlState) → MarksRise s xs → HistoriesGrow s xs → Contains (s ∷ xs) y → Continues y (last_state s xs)
HistoriesGrow-to s [] y rise grow has =
    elim (Contains-cons_cases s [] y has) [
      | inl same ↦ same-state y s (sym same)
      | inr (k, below, is) ↦ absurd (omega (arith, below))
    ]
HistoriesGrow-to s (x ∷ xs) y rise grow has =
    elim (Contains-cons_cases s (x ∷ xs) y has) [
      | inl same ↦
          subst (λ (t : ControlState). Continues t (last_state x xs)) same
          (Continues-trans s x (last_state x xs) rise.0 grow.0 (HistoriesGrow-to x xs x rise.1 grow.1 (Contains-head x xs)))
      | inr later ↦ HistoriesGrow-to x xs y rise.1 grow.1 later
    ]

-- position and seal go with a higher mark too
IsPosition-raised : (published : Option Region) (mark higher position : ℕ) → mark ≤ higher → IsPosition published mark position → IsPosition published higher position
IsPosition-raised None mark higher position le h = h
IsPosition-raised (Some region) mark higher position le h = let at : position ≤ mark = h.1 in (h.0, omega (arith, le, at))

IsSeal-raised : (phase : Phase) (mark higher seal : ℕ) → mark ≤ higher → IsSeal phase mark seal → IsSeal phase higher seal
IsSeal-raised Following mark higher seal le h = h
IsSeal-raised Sealed mark higher seal le h = let at : seal ≤ mark = h.1 in (h.0, omega (arith, le, at))
IsSeal-raised Primary mark higher seal le h = let at : seal ≤ mark = h.1 in (h.0, omega (arith, le, at))

pub IsControlState-raised : (log_bytes : ℕ) (s : ControlState) (mark : Lsn) → IsControlState log_bytes s → s.mark.0 ≤ mark.0 → mark.0 ≤ log_bytes
    → IsControlState log_bytes (record s { mark = mark })
IsControlState-raised log_bytes s mark h rises in_log = record {
  begins = let from : 16 ≤ s.mark.0 = h.begins in omega (arith, from, rises);
  in_log = in_log;
  position = IsPosition-raised s.published s.mark.0 mark.0 s.position.0 rises h.position;
  seal = IsSeal-raised s.phase s.mark.0 mark.0 s.seal.0 rises h.seal;
  history = h.history;
  lsns = h.lsns;
  last = h.last;
}
