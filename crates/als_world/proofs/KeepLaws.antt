-- What is kept over events, crashes and restarts.
use Rattle.std.proofs.lemmas.Bool.{cases_Bool}
use Rattle.std.proofs.Common.{true, true≢false, ◌≡◌, ℕ, ◌≤◌, ◌⊎◌, List, [], ◌∷◌, ◌++◌, length, Option, Some, inl, inr, refl, sym, ap, subst, ◌∙◌, append_assoc, append-nil, arith}
use Rattle.als_record.specs.declared.record.Record.{Record}
use Rattle.als_record.specs.LogText.{end_of}
use Rattle.als_record.specs.Validity.{is_valid}
use Rattle.als_record.specs.Commits.{commits_of}
use Rattle.als_commits.specs.Counting.{ended_count}
use Rattle.als_commits.proofs.Counting.{count-kept, ended_count-rises}
use Rattle.als_lease.specs.Lease.{Leased}
use Rattle.als_ckpt.specs.declared.control_state.ControlState.{ControlState}
use Rattle.als_ckpt.specs.Control.{Continues}
use Rattle.als_ckpt.proofs.StateLaws.{Contains-head, Continues-same, Continues-trans}
use Rattle.als_store.specs.Stored.{acknowledged, newest}
use Rattle.als_epochs.specs.Histories.{next_seal}
use Rattle.als_epochs.specs.HistoryLaws.{GoesOn-refl, GoesOn-trans, next_seal-longer}
use Rattle.als_store.specs.Takeover.{GoesOn}
use Rattle.als_engine.specs.declared.config.Config.{Config}
use Rattle.als_engine.specs.Machine.{Machine, Keeps as EngineKeeps}
use Rattle.als_engine.specs.Readers.{ended_in}
use Rattle.als_engine.specs.Telling.{IsGrown}
use Rattle.als_reopen.specs.Node.{Node}
use Rattle.als_engine.specs.Restarts.{IsMadeWith, Leaves, IsStarted}
use Rattle.als_world.specs.declared.step.WorldReply.{WorldReply}
use Rattle.als_world.specs.declared.step.WorldReply.TheVariants as reply
use Rattle.als_world.specs.Standing.{Standing, Up, Down, Agree, Keeps, log_of, control_of, counted}
use Rattle.als_world.specs.Runs.{Opens, Crashes}

-- ---- fronts of one list

-- of two fronts of a list one is a front of the other
pub fronts-nest : {X : Type 0} (f m g l : List X) → f ++ m ≡ g ++ l → ((r : List X) × (f ≡ g ++ r)) ⊎ ((r : List X) × (g ≡ f ++ r))
fronts-nest {X} [] m g l e = inr (g, refl)
fronts-nest {X} (x ∷ f) m [] l e = inl (x ∷ f, refl)
fronts-nest {X} (x ∷ f) m (y ∷ g) l e =
    let heads : x ≡ y = cc e in
    let tails : f ++ m ≡ g ++ l = cc e in
    elim (fronts-nest f m g l tails) [
      | inl p ↦ inl (p.0, rw (heads, p.1) refl)
      | inr p ↦ inr (p.0, rw (heads, p.1) refl)
    ]

pub agree-same : (log : List Record) (offset : ℕ) → offset ≤ end_of log → Agree log log offset
agree-same log offset reaches = record { front = log; lost = []; more = []; old = sym (append-nil log); new = sym (append-nil log); reaches = reaches }

pub agree-both : (a b c : List Record) (x y : ℕ) → x ≤ y → Agree a b x → Agree b c y → Agree a c x
agree-both a b c x y le p q = elim (fronts-nest p.front p.more q.front q.lost (sym p.new ∙ q.old)) [
  | inl far ↦ record {
    front = q.front;
    lost = far.0 ++ p.lost;
    more = q.more;
    old = p.old ∙ ap (λ (l : List Record). l ++ p.lost) far.1 ∙ append_assoc q.front far.0 p.lost;
    new = q.new;
    reaches = omega (arith, le, q.reaches);
  }
  | inr near ↦ record {
    front = p.front;
    lost = p.lost;
    more = near.0 ++ q.more;
    old = p.old;
    new = q.new ∙ ap (λ (l : List Record). l ++ q.more) near.1 ∙ append_assoc p.front near.0 q.more;
    reaches = p.reaches;
  }
]

-- ---- phases

goes_on_same : (s : ControlState) → GoesOn s s
goes_on_same s = record { phase = omega arith; seal = λ past. refl; history = GoesOn-refl s.history }

goes_on_both : (a b c : ControlState) → GoesOn a b → GoesOn b c → GoesOn a c
goes_on_both a b c p q = record {
  phase = omega (arith, p.phase, q.phase);
  seal = λ past. q.seal (omega (arith, p.phase, past)) ∙ p.seal past;
  history = GoesOn-trans a.history b.history c.history p.history q.history;
}

-- ---- seals

-- the synced control state of the later standing continues that of the earlier one
continues : (a b : Standing) → Keeps a b → Continues (control_of a) (control_of b)
continues a b k = record { history = k.takeover.history; below = k.below }

-- the log that ends at the mark of the synced state ends at or below the next seal of a state that a crash may leave
below-left : (m : Machine) (n : Node) → IsGrown m → Leaves m n → (seal : ℕ) → next_seal m.held.control.history n.said.state.history ≡ Some seal → m.held.control.mark.0 ≤ seal
below-left m n grown l seal is =
    let left = grown n.said.state l.may.state in
    let synced = grown m.held.control (Contains-head m.held.control m.held.since) in
    elim (next_seal-longer m.held.control.history n.said.state.history (newest m.held).history l.may.goes_on.history left.history) [
      | inl same ↦ (Continues-same m.held.control n.said.state same).below seal is
      | inr same ↦ synced.below seal (same ∙ is)
    ]

-- ---- what is counted

-- what readers have seen of a log is acknowledged, and the history goes on from that of each state that a crash may leave
pub record IsCounted (m : Machine) : Type 0 where
  pub valid : is_valid m.held.log ≡ true
  pub stable : acknowledged m.held ≤ end_of m.held.log
  pub published : m.published ≤ ended_in m.held
  pub grown : IsGrown m

-- no more is counted than has ended at what is acknowledged
counted-ends : (m : Machine) (slots : List (Option Leased)) → m.published ≤ ended_in m.held → counted (Up m slots) ≤ ended_in m.held
counted-ends m slots le = elim (cases_Bool m.listed) [
  | inl y ↦ rw y le
  | inr n ↦ rw n (omega arith)
]

counted-event : (old new : Machine) (slots after : List (Option Leased)) → IsCounted old → is_valid new.held.log ≡ true → EngineKeeps old new
    → counted (Up old slots) ≤ counted (Up new after)
counted-event old new slots after c valid k = elim (cases_Bool old.listed) [
  | inl y ↦ rw (y, k.listed y) k.published
  | inr n ↦ elim (cases_Bool new.listed) [
    | inl y ↦ rw (n, y) (k.shown n y)
    | inr m ↦
        let same : ended_count (acknowledged old.held) (commits_of new.held.log) ≡ ended_in old.held =
        ap (λ (l : List Record). ended_count (acknowledged old.held) (commits_of l)) k.log
        ∙ count-kept old.held.log k.more (acknowledged old.held) (sym (ap is_valid k.log) ∙ valid) c.stable in
        let more = ended_count-rises (acknowledged old.held) (acknowledged new.held) k.acknowledged (commits_of new.held.log) in
        rw (n, m) (omega (arith, same, more))
  ]
]

counted-left : (old : Machine) (slots : List (Option Leased)) (n : Node) (workers : ℕ) → IsCounted old → Leaves old n → counted (Up old slots) ≤ counted (Down n workers)
counted-left old slots n workers c l =
    let reaches : acknowledged old.held ≤ end_of n.log = omega (arith, l.may.above, l.ends) in
    let same : ended_in old.held ≡ ended_count (acknowledged old.held) (commits_of n.log) =
    ap (λ (x : List Record). ended_count (acknowledged old.held) (commits_of x)) l.may.front
    ∙ count-kept n.log l.may.rest (acknowledged old.held) (sym (ap is_valid l.may.front) ∙ c.valid) reaches in
    let more = ended_count-rises (acknowledged old.held) n.said.state.mark.0 l.may.above (commits_of n.log) in
    let ends = counted-ends old slots c.published in
    omega (arith, same, more, ends)

counted-started : (config : Config) (n : Node) (workers : ℕ) (new : Machine) (slots : List (Option Leased)) → IsStarted config n new → counted (Down n workers) ≤ counted (Up new slots)
counted-started config n workers new slots s = rw (s.listed, s.control, s.log) (omega arith)

-- ---- what is kept

pub keeps-both : (a b c : Standing) → Keeps a b → Keeps b c → Keeps a c
keeps-both a b c p q = record {
  acknowledged = omega (arith, p.acknowledged, q.acknowledged);
  text = agree-both (log_of a) (log_of b) (log_of c) (control_of a).mark.0 (control_of b).mark.0 p.acknowledged p.text q.text;
  takeover = goes_on_both (control_of a) (control_of b) (control_of c) p.takeover q.takeover;
  counted = omega (arith, p.counted, q.counted);
  below = (Continues-trans (control_of a) (control_of b) (control_of c) p.acknowledged (continues a b p) (continues b c q)).below;
}

pub keeps-same : (s : Standing) → (control_of s).mark.0 ≤ end_of (log_of s) → Keeps s s
keeps-same s reaches = record { acknowledged = omega arith; text = agree-same (log_of s) (control_of s).mark.0 reaches; takeover = goes_on_same (control_of s); counted = omega arith; below = (Continues-same (control_of s) (control_of s) refl).below }

-- an engine on which nothing was done
pub stays : (m : Machine) → EngineKeeps m m
stays m = record {
  acknowledged = omega arith;
  more = [];
  log = sym (append-nil m.held.log);
  stopped = λ s. s;
  takeover = goes_on_same m.held.control;
  pages = refl;
  limit = refl;
  warm = λ w. w;
  ready = λ r. r;
  listed = λ l. l;
  published = omega arith;
  shown = λ n y. absurd (true≢false (sym y ∙ n));
  below = (Continues-same m.held.control m.held.control refl).below;
}

pub keeps-event : (old new : Machine) (slots after : List (Option Leased)) → IsCounted old → is_valid new.held.log ≡ true → EngineKeeps old new → Keeps (Up old slots) (Up new after)
keeps-event old new slots after c valid k = record {
  acknowledged = k.acknowledged;
  text = record { front = old.held.log; lost = []; more = k.more; old = sym (append-nil old.held.log); new = k.log; reaches = c.stable };
  takeover = k.takeover;
  counted = counted-event old new slots after c valid k;
  below = k.below;
}

pub made-still : (config : Config) (old new : Machine) → EngineKeeps old new → IsMadeWith config old → IsMadeWith config new
made-still config old new k made = record { numbers = made.numbers; pages = k.pages ∙ made.pages; limit = k.limit ∙ made.limit }

keeps-left : (old : Machine) (slots : List (Option Leased)) (n : Node) (workers : ℕ) → IsCounted old → Leaves old n → Keeps (Up old slots) (Down n workers)
keeps-left old slots n workers c l = record {
  acknowledged = l.may.above;
  text = record { front = n.log; lost = l.may.rest; more = []; old = l.may.front; new = sym (append-nil n.log); reaches = omega (arith, l.may.above, l.ends) };
  takeover = l.may.goes_on;
  counted = counted-left old slots n workers c l;
  below = below-left old n c.grown l;
}

keeps-started : (config : Config) (n : Node) (workers : ℕ) (new : Machine) (slots : List (Option Leased)) → end_of n.log ≡ n.said.state.mark.0 → IsStarted config n new
    → Keeps (Down n workers) (Up new slots)
keeps-started config n workers new slots ends s = record {
  acknowledged = omega (arith, ap (λ (c : ControlState). c.mark.0) s.control);
  text = record { front = n.log; lost = []; more = []; old = sym (append-nil n.log); new = s.log ∙ sym (append-nil n.log); reaches = omega (arith, ends) };
  takeover = subst (λ (c : ControlState). GoesOn n.said.state c) (sym s.control) (goes_on_same n.said.state);
  counted = counted-started config n workers new slots s;
  below = (Continues-same n.said.state new.held.control (ap (λ (c : ControlState). c.history) s.control)).below;
}

pub keeps-opened : (config : Config) (n : Node) (workers : ℕ) (answer : WorldReply) (new : Standing) → end_of n.log ≡ n.said.state.mark.0 → Opens config n workers answer new
    → Keeps (Down n workers) new
unfolding Opens
keeps-opened config n workers (reply.Restarted end) (Up new slots) ends o = keeps-started config n workers new slots ends o.1
keeps-opened config n workers (reply.Refused cause) (Down left still) ends o =
    subst (λ (l : Node). Keeps (Down n workers) (Down l still)) (sym o.1)
    (subst (λ (w : ℕ). Keeps (Down n workers) (Down n w)) (sym o.2) (keeps-same (Down n workers) (omega (arith, ends))))
keeps-opened config n workers (reply.Event answer) new ends o = absurd o
keeps-opened config n workers (reply.Lent number batch) new ends o = absurd o
keeps-opened config n workers (reply.Redone lsn) new ends o = absurd o
keeps-opened config n workers reply.Done new ends o = absurd o
keeps-opened config n workers (reply.Answered answer) new ends o = absurd o
keeps-opened config n workers (reply.Restarted end) (Down left still) ends o = absurd o
keeps-opened config n workers (reply.Refused cause) (Up new slots) ends o = absurd o

pub keeps-crash : (config : Config) (old : Machine) (slots : List (Option Leased)) (picks : List ℕ) (answer : WorldReply) (new : Standing) → IsCounted old
    → Crashes config old slots picks answer new → Keeps (Up old slots) new
keeps-crash config old slots picks answer new counts c =
    keeps-both (Up old slots) (Down c.left (length slots)) new (keeps-left old slots c.left (length slots) counts c.leaves)
    (keeps-opened config c.left (length slots) answer new c.leaves.ends c.opens)
