-- What the control states say of the log, as the log grows and states are written.
use Rattle.std.proofs.Common.{◌≡◌, ℕ, zero, suc, ◌≤◌, ◌⊎◌, true, List, [], ◌∷◌, ◌++◌, length, take, drop, refl, sym, ap, subst, ◌∙◌, inl, inr, arith, append-nil, append_assoc, length-append}
use Rattle.std.specs.Prelude.{Contains, Bool, false}
use Rattle.als_record.specs.declared.lsn.Lsn.{Lsn}
use Rattle.als_record.specs.declared.record.Record.{Record}
use Rattle.als_record.specs.LogText.{end_of}
use Rattle.als_record.specs.Tail.{tail_of}
use Rattle.als_record.proofs.PageLaws.{end_of-push}
use Rattle.als_record.proofs.TailSteps.{tail_of-front}
use Rattle.als_ckpt.specs.declared.phase.Phase.{Phase}
use Rattle.als_ckpt.specs.declared.phase.Phase.TheVariants.{Following, Sealed, Primary}
use Rattle.als_ckpt.specs.declared.control_state.ControlState.{ControlState}
use Rattle.als_ckpt.specs.Control.{phase_byte, last_state, first_state}
use Rattle.als_epochs.specs.Histories.{GoesOn as HistoryGoesOn}
use Rattle.als_epochs.specs.HistoryLaws.{GoesOn-refl, GoesOn-trans}
use Rattle.als_reopen.specs.Taken.{IsSealed, Decides, IsNextOfTail, MayCome, AreDecided, IsTakenOver, IsTaken, IsTakenFrom, WasTakenFrom, IsUndecided}
use Rattle.als_store.specs.Takeover.{follows, is_done, GoesOn, PhasesRise, AreTaken}
use Rattle.als_store.proofs.Splits.{same_front}

-- ---- lists

contains_cases : {X : Type 0} (x : X) (xs : List X) (y : X) → Contains (x ∷ xs) y → (x ≡ y) ⊎ Contains xs y
contains_cases x xs y (zero, below, is) = inl is
contains_cases x xs y (suc k, below, is) = inr (k, omega (arith, below), is)

contains_none : {X : Type 0} (y : X) → Contains [] y → ⊥
contains_none y (k, below, is) = omega (arith, below)

contains_head : {X : Type 0} (x : X) (xs : List X) → Contains (x ∷ xs) x
contains_head x xs = (0, omega arith, refl)

contains_tail : {X : Type 0} (x : X) (xs : List X) (y : X) → Contains xs y → Contains (x ∷ xs) y
contains_tail x xs y (k, below, is) = (suc k, omega (arith, below), is)

pub contains_last : (s : ControlState) (since : List ControlState) → Contains (s ∷ since) (last_state s since)
contains_last s [] = contains_head s []
contains_last s (x ∷ since) = contains_tail s (x ∷ since) (last_state x since) (contains_last x since)

-- ---- control states

goes_on_same : (s : ControlState) → GoesOn s s
goes_on_same s = record { phase = omega arith; seal = λ past. refl; history = GoesOn-refl s.history }

goes_on_both : (a b c : ControlState) → GoesOn a b → GoesOn b c → GoesOn a c
goes_on_both a b c p q = record {
  phase = omega (arith, p.phase, q.phase);
  seal = λ past. q.seal (omega (arith, p.phase, past)) ∙ p.seal past;
  history = GoesOn-trans a.history b.history c.history p.history q.history;
}

pub phases_from : (s : ControlState) (since : List ControlState) → PhasesRise s since → GoesOn s (last_state s since)
phases_from s [] rise = goes_on_same s
phases_from s (x ∷ since) rise = goes_on_both s x (last_state x since) rise.0 (phases_from x since rise.1)

-- the newest state goes on from each of them
phases_to : (s : ControlState) (since : List ControlState) (c : ControlState) → PhasesRise s since → Contains (s ∷ since) c → GoesOn c (last_state s since)
phases_to s since c rise has = elim (contains_cases s since c has) [
  | inl same ↦ subst (λ (x : ControlState). GoesOn x (last_state s since)) same (phases_from s since rise)
  | inr later ↦ phases_later s since c rise later
]
  where
    phases_later : (s : ControlState) (since : List ControlState) (c : ControlState) → PhasesRise s since → Contains since c → GoesOn c (last_state s since)
    phases_later s [] c rise has = absurd (contains_none c has)
    phases_later s (x ∷ since) c rise has = elim (contains_cases x since c has) [
      | inl same ↦ subst (λ (y : ControlState). GoesOn y (last_state x since)) same (phases_from x since rise.1)
      | inr later ↦ phases_later x since c rise.1 later
    ]

-- each of them goes on from the first
pub phases_at : (s : ControlState) (since : List ControlState) (c : ControlState) → PhasesRise s since → Contains (s ∷ since) c → GoesOn s c
phases_at s [] c rise has = elim (contains_cases s [] c has) [
  | inl same ↦ subst (λ (x : ControlState). GoesOn s x) same (goes_on_same s)
  | inr none ↦ absurd (contains_none c none)
]
phases_at s (x ∷ since) c rise has = elim (contains_cases s (x ∷ since) c has) [
  | inl same ↦ subst (λ (y : ControlState). GoesOn s y) same (goes_on_same s)
  | inr later ↦ goes_on_both s x c rise.0 (phases_at x since c rise.1 later)
]

pub phases_push : (s : ControlState) (since : List ControlState) (t : ControlState) → PhasesRise s since → GoesOn (last_state s since) t → PhasesRise s (since ++ t ∷ [])
phases_push s [] t rise on = (on, tt)
phases_push s (x ∷ since) t rise on = (rise.0, phases_push x since t rise.1 on)

last_push : (s : ControlState) (since : List ControlState) (t : ControlState) → last_state s (since ++ t ∷ []) ≡ t
last_push s [] t = refl
last_push s (x ∷ since) t = last_push x since t

contains_push : (s : ControlState) (since : List ControlState) (t c : ControlState) → Contains (s ∷ (since ++ t ∷ [])) c → Contains (s ∷ since) c ⊎ (t ≡ c)
contains_push s [] t c has = elim (contains_cases s (t ∷ []) c has) [
  | inl same ↦ inl (subst (λ (x : ControlState). Contains (s ∷ []) x) same (contains_head s []))
  | inr later ↦ elim (contains_cases t [] c later) [
    | inl same ↦ inr same
    | inr none ↦ absurd (contains_none c none)
  ]
]
contains_push s (x ∷ since) t c has = elim (contains_cases s (x ∷ (since ++ t ∷ [])) c has) [
  | inl same ↦ inl (subst (λ (y : ControlState). Contains (s ∷ x ∷ since) y) same (contains_head s (x ∷ since)))
  | inr later ↦ elim (contains_push x since t c later) [
    | inl old ↦ inl (contains_tail s (x ∷ since) c old)
    | inr same ↦ inr same
  ]
]

-- a state that is not past Following says nothing of the log
taken_low : (p : Phase) (log : List Record) (mark seal : ℕ) → phase_byte p ≤ 1 → IsTaken p log mark seal
taken_low Following log mark seal low = tt
taken_low Sealed log mark seal low = absurd (omega (arith, low))
taken_low Primary log mark seal low = absurd (omega (arith, low))

pub follows_low : (p : Phase) → follows p ≡ true → phase_byte p ≤ 1
follows_low Following e = omega arith
follows_low Sealed e = absurd cc
follows_low Primary e = absurd cc

follows_not_done : (p : Phase) → follows p ≡ true → is_done p ≡ true → ⊥
follows_not_done Following e f = cc f
follows_not_done Sealed e f = cc e
follows_not_done Primary e f = cc e

pub done_primary : (p : Phase) → is_done p ≡ true → p ≡ Primary
done_primary Following e = absurd cc
done_primary Sealed e = absurd cc
done_primary Primary e = refl

-- ---- a log with a seal, as it goes on

-- the rest of the tail is the log's own tail
pub rest_is_tail : (log : List Record) (seal : ℕ) (s : IsSealed log seal) → tail_of log ≡ s.rest
rest_is_tail log seal s = go
  where
    take_front : (a b : List Record) → take (length a) (a ++ b) ≡ a
    take_front [] b = refl
    take_front (x ∷ a) b = ap (λ (xs : List Record). x ∷ xs) (take_front a b)

    drop_front : (a b : List Record) → drop (length a) (a ++ b) ≡ b
    drop_front [] b = refl
    drop_front (x ∷ a) b = drop_front a b

    front : s.undone ≡ take (length s.undone) (tail_of s.sealed)
    front = sym (take_front s.undone s.rest) ∙ ap (take (length s.undone)) s.tail

    go : tail_of log ≡ s.rest
    go =
        ap tail_of s.parts
        ∙ ap (λ (xs : List Record). tail_of (s.sealed ++ xs)) front
        ∙ tail_of-front s.sealed (length s.undone)
        ∙ sym (ap (drop (length s.undone)) s.tail)
        ∙ drop_front s.undone s.rest

-- with the next record of its tail
sealed_more : (log : List Record) (seal : ℕ) (r : Record) (rest : List Record) → tail_of log ≡ r ∷ rest → IsSealed log seal → IsSealed (log ++ r ∷ []) seal
sealed_more log seal r rest e s = record {
  sealed = s.sealed;
  undone = s.undone ++ r ∷ [];
  rest = rest;
  parts = ap (λ (xs : List Record). xs ++ r ∷ []) s.parts ∙ append_assoc s.sealed s.undone (r ∷ []);
  ends = s.ends;
  tail = append_assoc s.undone (r ∷ []) rest ∙ ap (λ (xs : List Record). s.undone ++ xs) (sym e ∙ rest_is_tail log seal s) ∙ s.tail;
}

-- with its whole tail there is no more of it
pub whole-no_tail : (log sealed : List Record) → log ≡ sealed ++ tail_of sealed → tail_of log ≡ []
whole-no_tail log sealed parts = rest_is_tail log (end_of sealed) (record {
  sealed = sealed;
  undone = tail_of sealed;
  rest = [];
  parts = parts;
  ends = refl;
  tail = append-nil (tail_of sealed);
})

-- ---- a log that was taken over, as it goes on

decided-push : (log more : List Record) (r : Record) → AreDecided log more → MayCome (log ++ more) r → AreDecided log (more ++ r ∷ [])
decided-push log [] r all may = (subst (λ (xs : List Record). MayCome xs r) (append-nil log) may, tt)
decided-push log (x ∷ more) r all may = (all.0, decided-push (log ++ x ∷ []) more r all.1 (subst (λ (xs : List Record). MayCome xs r) (sym (append_assoc log (x ∷ []) more)) may))

-- so are those of a front
pub decided-front : (log more rest : List Record) → AreDecided log (more ++ rest) → AreDecided log more
decided-front log [] rest all = tt
decided-front log (x ∷ more) rest all = (all.0, decided-front (log ++ x ∷ []) more rest all.1)

over_more : (log : List Record) (mark seal : ℕ) (r : Record) → MayCome log r → IsTakenOver log mark seal → IsTakenOver (log ++ r ∷ []) mark seal
over_more log mark seal r may t = record {
  sealed = t.sealed;
  more = t.more ++ r ∷ [];
  parts = ap (λ (xs : List Record). xs ++ r ∷ []) t.parts ∙ append_assoc (t.sealed ++ tail_of t.sealed) t.more (r ∷ []);
  ends = t.ends;
  whole = t.whole;
  decided = decided-push (t.sealed ++ tail_of t.sealed) t.more r t.decided (subst (λ (xs : List Record). MayCome xs r) t.parts may);
}

-- what may come next in a phase: a record of the tail; in Primary a decision too
abbrev pub ComesIn : Phase → List Record → Record → Type 0
ComesIn p log r = IsNextOfTail log r ⊎ ((is_done p ≡ true) × Decides log r)

may_come : (p : Phase) (log : List Record) (r : Record) → ComesIn p log r → MayCome log r
may_come p log r (inl next) = inr next
may_come p log r (inr d) = inl d.1

taken_more : (p : Phase) (log : List Record) (mark seal : ℕ) (r : Record) → ComesIn p log r → IsTaken p log mark seal → IsTaken p (log ++ r ∷ []) mark seal
taken_more Following log mark seal r next t = tt
taken_more Sealed log mark seal r (inl next) t = sealed_more log seal r next.rest next.first t
taken_more Sealed log mark seal r (inr d) t = absurd (cc d.0)
taken_more Primary log mark seal r next t = over_more log mark seal r (may_come Primary log r next) t

-- once it has gone on it is no more the sealed log and its tail
more_not_undecided : (log : List Record) (mark seal : ℕ) (r : Record) → IsTakenOver log mark seal → IsUndecided (log ++ r ∷ []) seal → ⊥
more_not_undecided log mark seal r t u =
    let parts : log ++ r ∷ [] ≡ t.sealed ++ (tail_of t.sealed ++ (t.more ++ r ∷ [])) =
    ap (λ (xs : List Record). xs ++ r ∷ []) t.parts ∙ append_assoc (t.sealed ++ tail_of t.sealed) t.more (r ∷ []) ∙ append_assoc t.sealed (tail_of t.sealed) (t.more ++ r ∷ []) in
    let same : t.sealed ≡ u.sealed = same_front (log ++ r ∷ []) t.sealed (tail_of t.sealed ++ (t.more ++ r ∷ [])) u.sealed (tail_of u.sealed) parts u.parts (t.ends ∙ sym u.ends) in
    let whole : length (u.sealed ++ tail_of u.sealed) ≡ length (t.sealed ++ tail_of t.sealed) = ap (λ (xs : List Record). length (xs ++ tail_of xs)) (sym same) in
    let longer : length (u.sealed ++ tail_of u.sealed) ≡ length (t.sealed ++ (tail_of t.sealed ++ (t.more ++ r ∷ []))) = ap length (sym u.parts ∙ parts) in
    let one : length (r ∷ []) ≡ 1 = refl in
    omega (
      arith,
      whole,
      longer,
      one,
      length-append t.sealed (tail_of t.sealed),
      length-append t.sealed (tail_of t.sealed ++ (t.more ++ r ∷ [])),
      length-append (tail_of t.sealed) (t.more ++ r ∷ []),
      length-append t.more (r ∷ []),
    )

-- ---- what older states say

pub was_now : (log : List Record) (c : ControlState) → IsTakenFrom log c → WasTakenFrom log c
was_now log c is = record { front = log; since = []; parts = sym (append-nil log); reaches = inl refl; taken = is }

was_more : (log : List Record) (r : Record) (c : ControlState) → c.mark.0 ≤ end_of log → WasTakenFrom log c → WasTakenFrom (log ++ r ∷ []) c
was_more log r c low w = record {
  front = w.front;
  since = w.since ++ r ∷ [];
  parts = ap (λ (xs : List Record). xs ++ r ∷ []) w.parts ∙ append_assoc w.front w.since (r ∷ []);
  reaches = inr (elim w.reaches [
    | inl none ↦ omega (arith, low, ap end_of (w.parts ∙ ap (λ (xs : List Record). w.front ++ xs) none ∙ append-nil w.front))
    | inr at ↦ at
  ]);
  taken = w.taken;
}

-- ---- the states of a store

module _ (log : List Record) (s : ControlState) (since : List ControlState) (recovering : Bool) (waiting : ℕ) (h : AreTaken log s since recovering waiting) where
  -- fewer changes wait
  pub taken_calm : (fewer : ℕ) → fewer ≤ waiting → AreTaken log s since recovering fewer
  taken_calm fewer le = record { now = h.now; each = h.each; below = h.below; phases = h.phases; drained = λ ready done undecided. omega (arith, le, h.drained ready done undecided) }

  -- nothing waits any more of what a restart found
  pub taken_ready : waiting ≡ 0 → AreTaken log s since false waiting
  taken_ready none = record { now = h.now; each = h.each; below = h.below; phases = h.phases; drained = λ ready done undecided. none }

  -- the newest state alone stays
  pub taken_settled : AreTaken log (last_state s since) [] recovering waiting
  taken_settled = record {
    now = h.now;
    each = λ c has. elim (contains_cases (last_state s since) [] c has) [
      | inl same ↦ subst (λ (x : ControlState). WasTakenFrom log x) same (was_now log (last_state s since) h.now)
      | inr none ↦ absurd (contains_none c none)
    ];
    below = λ c has. elim (contains_cases (last_state s since) [] c has) [
      | inl same ↦ subst (λ (x : ControlState). x.mark.0 ≤ end_of log) same (h.below (last_state s since) (contains_last s since))
      | inr none ↦ absurd (contains_none c none)
    ];
    phases = tt;
    drained = h.drained;
  }

  -- one more state
  pub taken_written : (t : ControlState) → GoesOn (last_state s since) t → IsTakenFrom log t → t.mark.0 ≤ end_of log → (recovering ≡ false → is_done t.phase ≡ true → IsUndecided log t.seal.0 → waiting ≡ 0) → AreTaken log s (since ++ t ∷ []) recovering waiting
  taken_written t on is low none = record {
    now = subst (λ (x : ControlState). IsTakenFrom log x) (sym (last_push s since t)) is;
    each = λ c has. elim (contains_push s since t c has) [
      | inl old ↦ h.each c old
      | inr same ↦ subst (λ (x : ControlState). WasTakenFrom log x) same (was_now log t is)
    ];
    below = λ c has. elim (contains_push s since t c has) [
      | inl old ↦ h.below c old
      | inr same ↦ subst (λ (x : ControlState). x.mark.0 ≤ end_of log) same low
    ];
    phases = phases_push s since t h.phases on;
    drained = λ ready done undecided. none ready (ap (λ (x : ControlState). is_done x.phase) (sym (last_push s since t)) ∙ done) (subst (λ (x : ControlState). IsUndecided log x.seal.0) (last_push s since t) undecided);
  }

  -- a mark at or below the log's end stays so
  below_more : (r : Record) (c : ControlState) → Contains (s ∷ since) c → c.mark.0 ≤ end_of (log ++ r ∷ [])
  below_more r c has = omega (arith, h.below c has, end_of-push log r)

  -- a record that the source sends
  pub taken_fed : (r : Record) (more : ℕ) → follows (last_state s since).phase ≡ true → AreTaken (log ++ r ∷ []) s since recovering more
  taken_fed r more on = record {
    now = fed (last_state s since) (contains_last s since);
    each = λ c has. was_now (log ++ r ∷ []) c (fed c has);
    below = below_more r;
    phases = h.phases;
    drained = λ ready done. absurd (follows_not_done (last_state s since).phase on done);
  }
    where
      fed : (c : ControlState) → Contains (s ∷ since) c → IsTakenFrom (log ++ r ∷ []) c
      fed c has = taken_low c.phase (log ++ r ∷ []) c.mark.0 c.seal.0 (omega (arith, (phases_to s since c h.phases has).phase, follows_low (last_state s since).phase on))

  -- the next record of the tail, or a decision
  pub taken_next : (r : Record) (more : ℕ) → ComesIn (last_state s since).phase log r → AreTaken (log ++ r ∷ []) s since recovering more
  taken_next r more next = record {
    now = taken_more (last_state s since).phase log (last_state s since).mark.0 (last_state s since).seal.0 r next h.now;
    each = λ c has. was_more log r c (h.below c has) (h.each c has);
    below = below_more r;
    phases = h.phases;
    drained = λ ready done undecided. absurd (more_not_undecided log (last_state s since).mark.0 (last_state s since).seal.0 r
        (subst (λ (p : Phase). IsTaken p log (last_state s since).mark.0 (last_state s since).seal.0) (done_primary (last_state s since).phase done) h.now)
        undecided);
  }

  -- a state with another mark, at or above the newest one and at or below the log's end, or with a history that goes on
  pub taken_marked : (t : ControlState) → t.phase ≡ (last_state s since).phase → t.seal ≡ (last_state s since).seal → HistoryGoesOn (last_state s since).history t.history → (last_state s since).mark.0 ≤ t.mark.0 → t.mark.0 ≤ end_of log → AreTaken log s (since ++ t ∷ []) recovering waiting
  taken_marked t same_phase same_seal grows rises within = taken_written t
      (record { phase = omega (arith, ap phase_byte same_phase); seal = λ past. same_seal; history = grows })
      (again t.phase same_phase)
      within
      (λ ready done undecided. h.drained ready (ap is_done (sym same_phase) ∙ done) (subst (λ (l : Lsn). IsUndecided log l.0) same_seal undecided))
    where
      moved : (p : Phase) (seal seal' : ℕ) → seal' ≡ seal → IsTaken p log (last_state s since).mark.0 seal → IsTaken p log t.mark.0 seal'
      moved Following seal seal' e is = tt
      moved Sealed seal seal' e is = subst (λ (n : ℕ). IsSealed log n) (sym e) is
      moved Primary seal seal' e is = record { sealed = is.sealed; more = is.more; parts = is.parts; ends = is.ends ∙ sym e; whole = omega (arith, is.whole, rises); decided = is.decided }

      again : (p : Phase) → p ≡ (last_state s since).phase → IsTaken p log t.mark.0 t.seal.0
      again p e = moved p (last_state s since).seal.0 t.seal.0 (ap (λ (l : Lsn). l.0) same_seal) (subst (λ (q : Phase). IsTaken q log (last_state s since).mark.0 (last_state s since).seal.0) (sym e) h.now)

-- of a log that was just formatted
pub taken_new : (recovering : Bool) → AreTaken [] first_state [] recovering 0
unfolding end_of
taken_new recovering = record {
  now = tt;
  each = λ c has. elim (contains_cases first_state [] c has) [
    | inl same ↦ subst (λ (x : ControlState). WasTakenFrom [] x) same (was_now [] first_state tt)
    | inr none ↦ absurd (contains_none c none)
  ];
  below = λ c has. elim (contains_cases first_state [] c has) [
    | inl same ↦ subst (λ (x : ControlState). x.mark.0 ≤ end_of []) same (omega arith)
    | inr none ↦ absurd (contains_none c none)
  ];
  phases = tt;
  drained = λ ready done. absurd cc;
}
