-- What is reached, and what is kept on the way.
use Rattle.std.proofs.Common.{◌≡◌, ℕ, ◌≤◌, Result, Option, Some, None, true, false, List, [], ◌∷◌, ◌++◌}
use Rattle.std.proofs.Common.{inl, inr, refl, sym, ap, subst, ◌∙◌, append_assoc, append-nil, arith}
use Rattle.std.proofs.lemmas.Bool.{cases_Bool, true≢false}
use Rattle.als_record.specs.declared.record.Record.{Record}
use Rattle.als_record.specs.Commits.{commits_of}
use Rattle.als_record.specs.Validity.{is_valid}
use Rattle.als_commits.specs.Counting.{ended_count}
use Rattle.als_commits.proofs.Counting.{count-kept, ended_count-rises}
use Rattle.als_ckpt.specs.declared.control_state.ControlState.{ControlState}
use Rattle.als_ckpt.specs.Control.{Continues}
use Rattle.als_ckpt.proofs.StateLaws.{Continues-same, Continues-trans}
use Rattle.als_store.specs.Stored.{acknowledged}
use Rattle.als_epochs.specs.HistoryLaws.{GoesOn-refl, GoesOn-trans}
use Rattle.als_store.specs.Takeover.{GoesOn}
use Rattle.als_lease.specs.Lease.{Leased}
use Rattle.als_engine.specs.declared.fault.Fault.{Fault}
use Rattle.als_engine.specs.declared.not_given.NotGiven.{NotGiven}
use Rattle.als_engine.specs.declared.step.Step.{Step}
use Rattle.als_engine.specs.declared.step.Reply.{Reply}
use Rattle.als_engine.specs.Machine.{Machine, Keeps}
use Rattle.als_engine.specs.Readers.{ended_in}
use Rattle.als_engine.specs.Telling.{Stands, told_in}
use Rattle.als_share.specs.Reaching.{Makes, MakesLend, MakesGive, Asks, Run, Begins, Goes}
use Rattle.als_share.specs.Reaching.{Lending, Giving, Queries, Reaches, ReachesFrom}

-- ---- how reaching goes on

pub reaches-none : (m : Machine) → Reaches m m
reaches-none m = record { events = []; replies = []; run = Begins }

pub reaches-event : (start now : Machine) (event : Step) (reply : Reply) (new : Machine)
    → Reaches start now → Makes now event reply new → Reaches start new
reaches-event start now event reply new r makes = record {
  events = r.events ++ event ∷ [];
  replies = r.replies ++ reply ∷ [];
  run = Goes r.events r.replies now r.run event reply new makes;
}

pub reaches-lend : (start now : Machine) (page : ℕ) (answer : Result Leased Fault) (new : Machine)
    → Reaches start now → MakesLend now page answer new → Reaches start new
reaches-lend start now page answer new r makes = record {
  events = r.events;
  replies = r.replies;
  run = Lending r.events r.replies now r.run page answer new makes;
}

pub reaches-give : (start now : Machine) (lease : Leased) (answer : Result (Unit {0}) NotGiven)
    (new : Machine) → Reaches start now → MakesGive now lease answer new → Reaches start new
reaches-give start now lease answer new r makes = record {
  events = r.events;
  replies = r.replies;
  run = Giving r.events r.replies now r.run lease answer new makes;
}

pub reaches-query : (start now new : Machine) → Reaches start now → Asks now new
    → Reaches start new
reaches-query start now new r asks = record {
  events = r.events;
  replies = r.replies;
  run = Queries r.events r.replies now r.run new asks;
}

pub from-none : (from : Option Machine) (m : Machine) → from ≡ Some m → ReachesFrom from m
from-none from m e = rw e (reaches-none m)

pub from-event : (from : Option Machine) (now : Machine) (event : Step) (reply : Reply)
    (new : Machine) → ReachesFrom from now → Makes now event reply new → ReachesFrom from new
from-event (Some start) now event reply new r makes =
    reaches-event start now event reply new r makes
from-event None now event reply new r makes = absurd r

pub from-lend : (from : Option Machine) (now : Machine) (page : ℕ) (answer : Result Leased Fault)
    (new : Machine) → ReachesFrom from now → MakesLend now page answer new → ReachesFrom from new
from-lend (Some start) now page answer new r makes = reaches-lend start now page answer new r makes
from-lend None now page answer new r makes = absurd r

pub from-give : (from : Option Machine) (now : Machine) (lease : Leased)
    (answer : Result (Unit {0}) NotGiven) (new : Machine) → ReachesFrom from now
    → MakesGive now lease answer new → ReachesFrom from new
from-give (Some start) now lease answer new r makes = reaches-give start now lease answer new r makes
from-give None now lease answer new r makes = absurd r

pub from-query : (from : Option Machine) (now new : Machine) → ReachesFrom from now
    → Asks now new → ReachesFrom from new
from-query (Some start) now new r asks = reaches-query start now new r asks
from-query None now new r asks = absurd r

pub from-start : (from : Option Machine) (start now : Machine) → from ≡ Some start
    → ReachesFrom from now → Reaches start now
from-start from start now e r = subst (λ (p : Option Machine). ReachesFrom p now) e r

-- ---- what is acknowledged of a takeover

pub goes_on_same : (s : ControlState) → GoesOn s s
goes_on_same s = record { phase = omega arith; seal = λ past. refl; history = GoesOn-refl s.history }

pub goes_on_both : (a b c : ControlState) → GoesOn a b → GoesOn b c → GoesOn a c
goes_on_both a b c p q = record {
  phase = omega (arith, p.phase, q.phase);
  seal = λ past. q.seal (omega (arith, p.phase, past)) ∙ p.seal past;
  history = GoesOn-trans a.history b.history c.history p.history q.history;
}

-- ---- what readers may have been told

-- the commits that ended at what is acknowledged are acknowledged later on
ended-rises : (old new : Machine) → Stands old → Stands new → Keeps old new
    → ended_in old.held ≤ ended_in new.held
ended-rises old new s n k =
    let same : ended_count (acknowledged old.held) (commits_of new.held.log) ≡ ended_in old.held =
    ap (λ (l : List Record). ended_count (acknowledged old.held) (commits_of l)) k.log
    ∙ count-kept old.held.log k.more (acknowledged old.held) (sym (ap is_valid k.log) ∙ n.valid)
    s.stable in
    let more = ended_count-rises (acknowledged old.held) (acknowledged new.held) k.acknowledged
    (commits_of new.held.log) in
    omega (arith, same, more)

pub told-rises : (old new : Machine) → Stands old → Stands new → Keeps old new
    → told_in old ≤ told_in new
told-rises old new s n k = elim (cases_Bool old.listed) [
  | inl y ↦ rw (y, k.listed y) k.published
  | inr none ↦ elim (cases_Bool new.listed) [
    | inl y ↦ rw (none, y) (k.shown none y)
    | inr still ↦ rw (none, still) (ended-rises old new s n k)
  ]
]

-- ---- what is kept

keeps-same : (m : Machine) → Keeps m m
keeps-same m = record {
  acknowledged = omega arith;
  more = [];
  log = sym (append-nil m.held.log);
  stopped = λ s. s;
  takeover = goes_on_same m.held.control;
  pages = refl;
  limit = refl;
  warm = λ w. w;
  ready = λ r. r;
  listed = λ l. l;
  published = omega arith;
  shown = λ none list. absurd (true≢false (sym list ∙ none));
  below = (Continues-same m.held.control m.held.control refl).below;
}

-- a list that is opened on the way has what was acknowledged before
shown-both : (a b c : Machine) → Stands a → Stands b → Keeps a b → Keeps b c
    → a.listed ≡ false → c.listed ≡ true → ended_in a.held ≤ c.published
shown-both a b c s t p q none list = elim (cases_Bool b.listed) [
  | inl y ↦ omega (arith, p.shown none y, q.published)
  | inr still ↦ omega (arith, ended-rises a b s t p, q.shown still list)
]

-- the synced control state of the later machine continues that of the earlier one
continues : (old new : Machine) → Keeps old new → Continues old.held.control new.held.control
continues old new k = record { history = k.takeover.history; below = k.below }

pub keeps-both : (a b c : Machine) → Stands a → Stands b → Keeps a b → Keeps b c → Keeps a c
keeps-both a b c s t p q = record {
  acknowledged = omega (arith, p.acknowledged, q.acknowledged);
  more = p.more ++ q.more;
  log = q.log ∙ ap (λ (l : List Record). l ++ q.more) p.log
      ∙ append_assoc a.held.log p.more q.more;
  stopped = λ x. q.stopped (p.stopped x);
  takeover = goes_on_both a.held.control b.held.control c.held.control p.takeover q.takeover;
  pages = q.pages ∙ p.pages;
  limit = q.limit ∙ p.limit;
  warm = λ w. q.warm (p.warm w);
  ready = λ r. q.ready (p.ready r);
  listed = λ l. q.listed (p.listed l);
  published = omega (arith, p.published, q.published);
  shown = shown-both a b c s t p q;
  below = (Continues-trans a.held.control b.held.control c.held.control p.acknowledged
      (continues a b p) (continues b c q)).below;
}

pub record IsKept (start now : Machine) : Type 0 where
  pub keeps : Keeps start now
  pub stands : Stands now

pub run-kept : (start now : Machine) (events : List Step) (replies : List Reply)
    → Run start events replies now → Stands start → IsKept start now
run-kept start _ _ _ Begins s = record { keeps = keeps-same start; stands = s }
run-kept start _ _ _ (Goes events replies mid run event reply new makes) s =
    let before = run-kept start mid events replies run s in
    record {
      keeps = keeps-both start mid new s before.stands before.keeps makes.keeps;
      stands = makes.stands;
    }
run-kept start _ _ _ (Lending events replies mid run page answer new makes) s =
    let before = run-kept start mid events replies run s in
    record {
      keeps = keeps-both start mid new s before.stands before.keeps makes.keeps;
      stands = makes.stands;
    }
run-kept start _ _ _ (Giving events replies mid run lease answer new makes) s =
    let before = run-kept start mid events replies run s in
    record {
      keeps = keeps-both start mid new s before.stands before.keeps makes.keeps;
      stands = makes.stands;
    }
run-kept start _ _ _ (Queries events replies mid run new asks) s =
    let before = run-kept start mid events replies run s in
    record {
      keeps = keeps-both start mid new s before.stands before.keeps asks.keeps;
      stands = asks.stands;
    }

pub reached-kept : (start now : Machine) → Stands start → Reaches start now → IsKept start now
reached-kept start now s r = run-kept start now r.events r.replies r.run s
