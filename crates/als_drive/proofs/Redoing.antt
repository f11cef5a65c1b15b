-- A redo changes nothing but pages.
use Rattle.std.proofs.Common.{◌≡◌, ℕ, Bool, true, false, List, [], ◌∷◌, Option, Some, None, Result, Ok, Err, refl, sym, ap, subst, ◌∙◌, inl, inr}
use Rattle.std.specs.Prelude.{not, MatchOption}
use Rattle.als_lease.specs.Lease.{Leased, with_done}
use Rattle.als_pool.specs.Outcomes.{IsOutstanding}
use Rattle.als_pool.specs.Refusals.{is_lent, has_waiting, are_spent, is_full}
use Rattle.als_store.specs.declared.fault.Fault.{Fault as StoreFault}
use Rattle.als_store.specs.declared.fault.Fault.TheVariants as fault
use Rattle.als_store.specs.Stored.{Stored}
use Rattle.als_store.specs.Events.{LendsPage, IsNotLent, ReadsInVain, GivesBack}
use Rattle.als_engine.specs.declared.fault.Fault.{Fault}
use Rattle.als_engine.specs.declared.fault.Fault.TheVariants.{Backlog, Stopped, PageLent, NothingToDo, NumbersSpent, PoolFull}
use Rattle.als_engine.specs.declared.not_given.NotGiven.{NotGiven}
use Rattle.als_engine.specs.Machine.{Machine}
use Rattle.als_engine.specs.Refusals.{first_of, lend_causes, give_causes}
use Rattle.als_engine.specs.Events.{Changes}
use Rattle.als_engine.specs.Leases.{Lends, LendsIt, LendsPageOf, Gives, TakesLease, IsStranger, handed_back}
use Rattle.als_drive.specs.Driving.{OnlyRedoes, RedoRefused, IsOut}

-- the pages of a store changed, and nothing else
abbrev pub OnlyPages : Stored → Stored → Type 0
OnlyPages old new = new ≡ record old { pool = new.pool; failures = new.failures }

pub redoes_nothing : (m : Machine) → OnlyRedoes m m
redoes_nothing m = refl

pub redoes_more : (a b c : Machine) → OnlyRedoes a b → OnlyRedoes b c → OnlyRedoes a c
redoes_more a b c p q = q ∙ ap (λ (m : Machine). record m { held = record m.held { pool = c.held.pool; failures = c.held.failures } }) p

same_redoes : (old new : Machine) → new ≡ old → OnlyRedoes old new
same_redoes old new e = subst (λ (m : Machine). OnlyRedoes old m) (sym e) refl

same_pages : (old new : Stored) → new ≡ old → OnlyPages old new
same_pages old new e = subst (λ (s : Stored). OnlyPages old s) (sym e) refl

pages_changed : (old new : Machine) (event : Stored → Stored → Type 0) → ((h k : Stored) → event h k → OnlyPages h k) → Changes old event new → OnlyRedoes old new
pages_changed old new event keeps c =
    subst (λ (m : Machine). OnlyRedoes old m) (sym c.after) (ap (λ (s : Stored). record old { held = s }) (keeps old.held c.held c.becomes))

lent_pages : (page : ℕ) (lease : Leased) (old new : Stored) → LendsPage old page lease new → OnlyPages old new
lent_pages page lease old new l = subst (λ (s : Stored). OnlyPages old s) (sym l.after) refl

given_pages : (lease : Leased) (old new : Stored) → GivesBack old lease new → OnlyPages old new
given_pages lease old new b = subst (λ (s : Stored). OnlyPages old s) (sym b.after) refl

read_pages : (page : ℕ) (cause : StoreFault) (old new : Stored) → ReadsInVain old page cause new → OnlyPages old new
read_pages page fault.NothingToDo old new r = subst (λ (s : Stored). OnlyPages old s) (sym r.after) refl
read_pages page fault.Device old new r = subst (λ (s : Stored). OnlyPages old s) (sym r.after) refl
read_pages page (fault.BadPage p) old new r = same_pages old new r.after
read_pages page fault.Memory old new r = same_pages old new r
read_pages page (fault.Invalid cause) old new r = absurd r
read_pages page fault.LogBehind old new r = absurd r
read_pages page fault.CkptBusy old new r = absurd r
read_pages page fault.PoolFull old new r = absurd r
read_pages page fault.LogFull old new r = absurd r
read_pages page fault.PageLent old new r = absurd r
read_pages page fault.NumbersSpent old new r = absurd r

lend_pages : (old new : Machine) (page : ℕ) (result : Result Leased Fault) → LendsPageOf old page result new → OnlyRedoes old new
lend_pages old new page (Ok lease) acts = pages_changed old new (λ held after. LendsPage held page lease after) (lent_pages page lease) acts.changes
lend_pages old new page (Err f) acts = pages_changed old new (λ held after. IsNotLent held page acts.cause after) (λ h k r. read_pages page acts.cause h k r.reads) acts.changes

give_pages : (old new : Machine) (lease : Leased) (result : Result (Unit {0}) NotGiven) → TakesLease old lease result new → OnlyRedoes old new
give_pages old new lease (Ok done) acts = pages_changed old new (λ held after. GivesBack held lease after) (given_pages lease) acts.changes
give_pages old new lease (Err refused) acts = same_redoes old new acts.after

pub refused_or_acts : (cause : Option Fault) (A P : Type 0) (B : Fault → Type 0) → (A → P) → ((f : Fault) → B f → P) → MatchOption cause A B → P
refused_or_acts None A P B acts refused does = acts does
refused_or_acts (Some f) A P B acts refused does = refused f does

pub lend_redoes : (old new : Machine) (page : ℕ) (result : Result Leased Fault) → Lends old page result new → OnlyRedoes old new
lend_redoes old new page result e =
    refused_or_acts (first_of (lend_causes old page)) (LendsPageOf old page result new) (OnlyRedoes old new) (λ f. (result ≡ Err f) × (new ≡ old)) (lend_pages old new page result) (λ f same. same_redoes old new same.1) e

pub lend_refused : (cause : Fault) (page : ℕ) (old new : Machine) → Lends old page (Err cause) new → RedoRefused cause new
lend_refused cause page old new e = inr (old, page, e)

pub give_redoes : (old new : Machine) (lease : Leased) (result : Result (Unit {0}) NotGiven) → Gives old lease result new → OnlyRedoes old new
give_redoes old new lease result e =
    refused_or_acts (first_of (give_causes old)) (TakesLease old lease result new) (OnlyRedoes old new) (λ f. (result ≡ Err (handed_back lease f)) × (new ≡ old)) (give_pages old new lease result) (λ f same. same_redoes old new same.1) e

-- ---- a lease that is out

stopped_not : (broken : Bool) (A : Type 0) (rest : List (Bool × Fault)) (B : Fault → Type 0) → MatchOption (first_of ((broken, Stopped) ∷ rest)) A B → (B Stopped → ⊥) → broken ≡ false
stopped_not true A rest B e never = absurd (never e)
stopped_not false A rest B e never = refl

-- why a page is not lent, but for a stop
abbrev other_causes : Machine → ℕ → List (Bool × Fault)
other_causes m page =
    (is_lent m.held.pool page, PageLent) ∷ (not (has_waiting m.held.pool page), NothingToDo) ∷ (are_spent m.held.pool, NumbersSpent) ∷ (is_full m.held.pool page, PoolFull) ∷ []

-- a lease that a page was lent by is out, of an engine that has not stopped
lent_stays_out : (lease : Leased) (page : ℕ) (old new : Machine) → old.held.broken ≡ false → LendsIt old page lease new → IsOut new lease
lent_stays_out lease page old new runs acts =
    let b = acts.changes.becomes in
    let held : new.held ≡ acts.changes.held = ap (λ (m : Machine). m.held) acts.changes.after in
    record {
      goes_on = ap (λ (s : Stored). s.broken) (held ∙ b.after) ∙ runs;
      outstanding = subst (λ (s : Stored). IsOutstanding s.pool lease) (sym held) b.out;
    }

-- so it is of an engine, which has not stopped
pub lent_is_out : (lease : Leased) (page : ℕ) (old new : Machine) → Lends old page (Ok lease) new → IsOut new lease
lent_is_out lease page old new e =
    let runs : old.held.broken ≡ false = stopped_not old.held.broken (LendsIt old page lease new) (other_causes old page) (λ f. (Ok lease ≡ Err f) × (new ≡ old)) e (λ same. cc same.0) in
    lent_stays_out lease page old new runs
    (refused_or_acts (first_of (lend_causes old page)) (LendsIt old page lease new) (LendsIt old page lease new) (λ f. (Ok lease ≡ Err f) × (new ≡ old)) (λ a. a) (λ (f : Fault) (same : (Ok lease ≡ Err f) × (new ≡ old)). cc same.0) e)

-- redo of a lease leaves it out
pub still_out : (m : Machine) (lease redone : Leased) → redone ≡ with_done lease redone.done → IsOut m lease → IsOut m redone
still_out m lease redone is out = subst (λ (l : Leased). IsOut m l) (sym is)
    (record { goes_on = out.goes_on; outstanding = record { f = out.outstanding.f; resident = out.outstanding.resident; lent = out.outstanding.lent; base = out.outstanding.base; batch = out.outstanding.batch } })

-- and it is taken back
pub give_taken : (old new : Machine) (lease : Leased) (refused : NotGiven) → IsOut old lease → Gives old lease (Err refused) new → ⊥
give_taken old new lease refused out e =
    let answer : Result (Unit {0}) NotGiven = Err refused in
    let acts : IsStranger old lease refused new = subst (λ (b : Bool). MatchOption (first_of ((b, Stopped) ∷ [])) (IsStranger old lease refused new) (λ f. (answer ≡ Err (handed_back lease f)) × (new ≡ old))) out.goes_on e in
    acts.stranger out.outstanding

pub rounds_spent : (new : Machine) → RedoRefused Backlog new
rounds_spent new = inl refl
