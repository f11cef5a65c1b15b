-- Lend, give and recall, refused or not, and what they keep.
use Rattle.std.proofs.Common.{◌≡◌, ℕ, ◌≤◌, true, false, Option, Some, None, Err, Ok, inl, inr, refl}
use Rattle.std.proofs.Common.{sym, ap, subst, ◌∙◌, arith}
use Rattle.std.specs.Prelude.{Result, MatchOption, Bool, List, IfOk, IfErr}
use Rattle.als_lease.specs.Lease.{Leased}
use Rattle.als_pool.specs.Outcomes.{IsOutstanding}
use Rattle.als_store.specs.declared.fault.Fault.{Fault as StoreFault}
use Rattle.als_store.specs.declared.fault.Fault.TheVariants as store_fault
use Rattle.als_store.specs.Stored.{Stored}
use Rattle.als_store.specs.Events.{CanLend, LendsPage, NotLent, ReadsInVain, GivesBack, RecallsPage}
use Rattle.als_store.specs.Events.{NotRecalled}
use Rattle.als_store.specs.Views.{ShowsLend, ShowsGive}
use Rattle.als_store.specs.Warm.{WasWarm}
use Rattle.als_engine.specs.declared.fault.Fault.{Fault}
use Rattle.als_engine.specs.declared.fault.Fault.TheVariants as fault
use Rattle.als_engine.specs.declared.not_given.NotGiven.{NotGiven}
use Rattle.als_engine.specs.Faults.{from_store}
use Rattle.als_engine.specs.declared.step.Step.TheVariants as step
use Rattle.als_engine.specs.Machine.{Machine, Keeps}
use Rattle.als_engine.specs.Refusals.{refusal, DoesBy, first_of, lend_causes, give_causes}
use Rattle.als_engine.specs.Events.{Changes}
use Rattle.als_engine.specs.Leases.{LendsPageOf, TakesLease, EndsLease, handed_back, Lends, Gives}
use Rattle.als_engine.specs.Leases.{Recalls}
use Rattle.als_engine.specs.Runs.{Steps, reply_of}
use Rattle.als_engine.proofs.KeepLaws.{keeps_equal, IsAsMade, as_made}
use Rattle.als_engine.proofs.PageLaws.{acting, refusing, with_held, same_held, keeps_pool}

-- ---- a form over a list of causes

-- no cause stands against it, and it acts
acts_by : {A B : Type 0} (causes : List (Bool × Fault)) (answer : Fault → B)
    (acts : Result A B → Machine → Type 0) (old : Machine) (result : Result A B) (new : Machine)
    → first_of causes ≡ None → acts result new → DoesBy causes answer acts old result new
acts_by causes answer acts old result new e does =
    subst (λ (o : Option Fault). MatchOption o (acts result new) (λ cause. (result ≡ Err (answer cause))
    × (new ≡ old))) (sym e) does

-- it is refused, and changes nothing
refused_by : {A B : Type 0} (causes : List (Bool × Fault)) (answer : Fault → B)
    (acts : Result A B → Machine → Type 0) (old : Machine) (f : Fault) (new : Machine)
    → first_of causes ≡ Some f → new ≡ old → DoesBy causes answer acts old (Err (answer f)) new
refused_by {A} {B} causes answer acts old f new e same =
    subst (λ (o : Option Fault). MatchOption o (acts (Err (answer f)) new)
    (λ cause. (◌≡◌ {A = Result A B} (Err (answer f)) (Err (answer cause))) × (new ≡ old))) (sym e)
    (refl, same)

-- ---- a page is lent

lend_not_refused : (m : Machine) (page : ℕ) → m.held.broken ≡ false → CanLend m.held page
    → first_of (lend_causes m page) ≡ None
lend_not_refused m page running can = rw (running, can.free, can.waiting, can.numbered, can.room) refl

pub lends : (m : Machine) (page : ℕ) (lease : Leased) (held : Stored) → m.held.broken ≡ false
    → (WasWarm m.held → ShowsLend m.held.log m.held.pool page lease held.pool)
    → LendsPage m.held page lease held → Lends m page (Ok lease) (record m { held = held })
lends m page lease held running shows done =
    acts_by (lend_causes m page) (λ f. f) (LendsPageOf m page) m (Ok lease) (with_held m held)
    (lend_not_refused m page running done.can)
    (record { changes = record { held = held; becomes = done; after = refl }; shows = shows })

not_lent_by : (m : Machine) (page : ℕ) (cause : StoreFault) (f : Fault) (held : Stored)
    → first_of (lend_causes m page) ≡ Some f → from_store cause ≡ f → held ≡ m.held
    → Lends m page (Err (from_store cause)) (record m { held = held })
not_lent_by m page cause f held e is same =
    subst (λ (x : Fault). Lends m page (Err x) (with_held m held)) (sym is)
    (refused_by (lend_causes m page) (λ x. x) (LendsPageOf m page) m f (with_held m held) e
    (same_held m held same))

pub not_lent : (m : Machine) (page : ℕ) (cause : StoreFault) (held : Stored)
    → m.held.broken ≡ false → (WasWarm m.held → cause ≡ store_fault.BadPage page → ⊥)
    → NotLent m.held page cause held
    → Lends m page (Err (from_store cause)) (record m { held = held })
not_lent m page cause held running sound n = elim n [
  | inl lent ↦ not_lent_by m page cause fault.PageLent held (rw (running, lent.0) refl)
      (ap from_store lent.1) lent.2
  | inr (inl none) ↦ elim none.1 [
    | inl idle ↦ not_lent_by m page cause fault.NothingToDo held
        (rw (running, none.0, idle.0) refl) (ap from_store idle.1) none.2
    | inr (inl spent) ↦ not_lent_by m page cause fault.NumbersSpent held
        (rw (running, none.0, spent.0, spent.1) refl) (ap from_store spent.2) none.2
    | inr (inr full) ↦ not_lent_by m page cause fault.PoolFull held
        (rw (running, none.0, full.0, full.1, full.2) refl) (ap from_store full.3) none.2
  ]
  | inr (inr vain) ↦
      acts_by (lend_causes m page) (λ f. f) (LendsPageOf m page) m (Err (from_store cause))
      (with_held m held) (lend_not_refused m page running vain.can)
      (record {
        cause = cause;
        answer = refl;
        sound = sound;
        changes = record { held = held; becomes = vain; after = refl };
      })
]

-- ---- a lease is taken in

pub gives : (m : Machine) (lease : Leased) (held : Stored) → m.held.broken ≡ false
    → (WasWarm m.held → ShowsGive m.held.log m.held.pool lease held.pool)
    → GivesBack m.held lease held → Gives m lease (Ok tt) (record m { held = held })
gives m lease held running shows done =
    acts_by (give_causes m) (handed_back lease) (TakesLease m lease) m (Ok tt) (with_held m held)
    (rw running refl)
    (record { changes = record { held = held; becomes = done; after = refl }; shows = shows })

pub not_given : (m : Machine) (lease : Leased) (refused : NotGiven) (held : Stored)
    → m.held.broken ≡ false → (IsOutstanding m.held.pool lease → ⊥)
    → refused ≡ handed_back lease fault.Stranger → held ≡ m.held
    → Gives m lease (Err refused) (record m { held = held })
not_given m lease refused held running stranger is same =
    acts_by (give_causes m) (handed_back lease) (TakesLease m lease) m (Err refused)
    (with_held m held) (rw running refl)
    (record { stranger = stranger; answer = is; after = same_held m held same })

-- ---- a lease is recalled

pub recalls : (m : Machine) (page : ℕ) (held : Stored) → m.held.broken ≡ false
    → RecallsPage m.held page held → Recalls m page (Ok tt) (record m { held = held })
recalls m page held running done =
    acting m (step.Recall page) (EndsLease m page) (Ok tt) (with_held m held)
    (rw (running, done.lent) refl) (record { held = held; becomes = done; after = refl })

pub not_recalled : (m : Machine) (page : ℕ) (cause : StoreFault) (held : Stored)
    → m.held.broken ≡ false → NotRecalled m.held page cause held
    → Recalls m page (Err (from_store cause)) (record m { held = held })
not_recalled m page cause held running n =
    subst (λ (f : Fault). Recalls m page (Err f) (with_held m held)) (sym (ap from_store n.1))
    (refusing m (step.Recall page) (EndsLease m page) fault.NothingToDo (with_held m held)
    (rw (running, n.0) refl) (same_held m held n.2))

-- ---- what they keep: the pages alone change

-- all but the pages is as it was, up to failures of reads
record OnlyPool (old new : Stored) : Type 0 where
  control : new.control ≡ old.control
  log : new.log ≡ old.log
  broken : new.broken ≡ old.broken
  attempts : new.attempts ≡ old.attempts
  made : IsAsMade old new

only_pool : (old new held : Stored) → new ≡ held → held.control ≡ old.control → held.log ≡ old.log
    → held.broken ≡ old.broken → held.attempts ≡ old.attempts → held.pages ≡ old.pages
    → (WasWarm old → WasWarm held) → (old.recovering ≡ false → held.recovering ≡ false)
    → OnlyPool old new
only_pool old new held is control log broken attempts pages warm ready = record {
  control = ap (λ (s : Stored). s.control) is ∙ control;
  log = ap (λ (s : Stored). s.log) is ∙ log;
  broken = ap (λ (s : Stored). s.broken) is ∙ broken;
  attempts = ap (λ (s : Stored). s.attempts) is ∙ attempts;
  made = as_made old new held is pages warm ready;
}

-- what each event keeps, and no device is called to write or to sync
pub record KeepsCalls (old new : Machine) : Type 0 where
  pub keeps : Keeps old new
  pub attempts : new.held.attempts ≡ old.held.attempts

keeps_of_pool : (old new : Machine) (event : Stored → Stored → Type 0) → Changes old event new
    → ((held : Stored) → event old.held held → OnlyPool old.held held) → KeepsCalls old new
keeps_of_pool old new event c k =
    let p = k c.held c.becomes in
    record {
      keeps = keeps_pool old new c.held c.after p.control p.log (λ s. p.broken ∙ s) p.made;
      attempts = ap (λ (m : Machine). m.held.attempts) c.after ∙ p.attempts;
    }

keeps_nothing : (old new : Machine) → new ≡ old → KeepsCalls old new
keeps_nothing old new e = record {
  keeps = keeps_equal old new e;
  attempts = ap (λ (m : Machine). m.held.attempts) e;
}

keeps_by : {A B : Type 0} (causes : Option Fault) (answer : Fault → B)
    (acts : Result A B → Machine → Type 0) (old : Machine) (result : Result A B) (new : Machine)
    → MatchOption causes (acts result new) (λ f. (result ≡ Err (answer f)) × (new ≡ old))
    → (acts result new → KeepsCalls old new) → KeepsCalls old new
keeps_by None answer acts old result new h k = k h
keeps_by (Some f) answer acts old result new h k = keeps_nothing old new h.1

in_vain : (old held : Stored) (page : ℕ) (cause : StoreFault) → ReadsInVain old page cause held
    → OnlyPool old held
in_vain old held page store_fault.NothingToDo r =
    only_pool old held _ r.after refl refl refl refl refl (λ w. w) (λ x. x)
in_vain old held page store_fault.Device r =
    only_pool old held _ r.after refl refl refl refl refl (λ w. w) (λ x. x)
in_vain old held page (store_fault.BadPage p) r =
    only_pool old held old r.after refl refl refl refl refl (λ w. w) (λ x. x)
in_vain old held page store_fault.Memory r =
    only_pool old held old r refl refl refl refl refl (λ w. w) (λ x. x)
in_vain old held page (store_fault.Invalid c) r = absurd r
in_vain old held page store_fault.LogBehind r = absurd r
in_vain old held page store_fault.CkptBusy r = absurd r
in_vain old held page store_fault.PoolFull r = absurd r
in_vain old held page store_fault.PageLent r = absurd r
in_vain old held page store_fault.NumbersSpent r = absurd r
in_vain old held page store_fault.LogFull r = absurd r

pub lend_keeps : (old new : Machine) (page : ℕ) (answer : Result Leased Fault)
    → Lends old page answer new → KeepsCalls old new
lend_keeps old new page answer r =
    keeps_by (first_of (lend_causes old page)) (λ f. f) (LendsPageOf old page) old answer new r (go answer)
  where
    go : (a : Result Leased Fault) → LendsPageOf old page a new → KeepsCalls old new
    go (Ok lease) c = keeps_of_pool old new _ c.changes
        (λ held e. only_pool old.held held _ e.after refl refl refl refl refl (λ w. w) (λ x. x))
    go (Err f) c = keeps_of_pool old new _ c.changes
        (λ held e. in_vain old.held held page c.cause e.reads)

pub give_keeps : (old new : Machine) (lease : Leased) (answer : Result (Unit {0}) NotGiven)
    → Gives old lease answer new → KeepsCalls old new
give_keeps old new lease answer r =
    keeps_by (first_of (give_causes old)) (handed_back lease) (TakesLease old lease) old answer new r
    (go answer)
  where
    go : (a : Result (Unit {0}) NotGiven) → TakesLease old lease a new → KeepsCalls old new
    go (Ok done) c = keeps_of_pool old new _ c.changes
        (λ held e. only_pool old.held held _ e.after refl refl refl refl refl (λ w. w) (λ x. x))
    go (Err f) c = keeps_nothing old new c.after

pub recall_keeps : (old new : Machine) (page : ℕ) (answer : Result (Unit {0}) Fault)
    → Recalls old page answer new → KeepsCalls old new
recall_keeps old new page answer r =
    keeps_by (refusal old (step.Recall page)) (λ f. f) (EndsLease old page) old answer new r (go answer)
  where
    go : (a : Result (Unit {0}) Fault) → EndsLease old page a new → KeepsCalls old new
    go (Ok done) c = keeps_of_pool old new _ c
        (λ held e. only_pool old.held held _ e.after refl refl refl refl refl (λ w. w) (λ x. x))
    go (Err f) c = absurd c

-- ---- what is known of leases whoever drives the standby

fresh_of : (old new : Machine) (page : ℕ) (answer : Result Leased Fault) (causes : Option Fault)
    → MatchOption causes (LendsPageOf old page answer new) (λ f. (answer ≡ Err f) × (new ≡ old))
    → IfOk answer (λ lease. lease.done ≡ 0)
fresh_of old new page (Ok lease) None h =
    ap (λ (l : Leased). l.done) h.changes.becomes.lends.first.lease_is
fresh_of old new page (Ok lease) (Some f) h = absurd (cc h.0)
fresh_of old new page (Err fault) causes h = tt

-- nothing is redone of a new lease
pub lend_fresh : (old new : Machine) (page : ℕ) (answer : Result Leased Fault)
    → Lends old page answer new → IfOk answer (λ lease. lease.done ≡ 0)
lend_fresh old new page answer r = fresh_of old new page answer (first_of (lend_causes old page)) r

back_of : (old new : Machine) (lease : Leased) (answer : Result (Unit {0}) NotGiven)
    (causes : Option Fault)
    → MatchOption causes (TakesLease old lease answer new)
    (λ f. (answer ≡ Err (handed_back lease f)) × (new ≡ old))
    → IfErr answer (λ refused. refused.lease ≡ lease)
back_of old new lease (Ok done) causes h = tt
back_of old new lease (Err refused) None h = ap (λ (r : NotGiven). r.lease) h.answer
back_of old new lease (Err refused) (Some f) h =
    let same : refused ≡ handed_back lease f = cc h.0 in ap (λ (r : NotGiven). r.lease) same

-- a lease that is not taken in comes back
pub give_back : (old new : Machine) (lease : Leased) (answer : Result (Unit {0}) NotGiven)
    → Gives old lease answer new → IfErr answer (λ refused. refused.lease ≡ lease)
give_back old new lease answer r = back_of old new lease answer (first_of (give_causes old)) r

-- ---- the reply to it

pub recalls_step : (old new : Machine) (page : ℕ) (result : Result (Unit {0}) Fault)
    → Recalls old page result new → Steps old (step.Recall page) (reply_of result) new
recalls_step old new page (Ok done) does = does
recalls_step old new page (Err fault) does = does
