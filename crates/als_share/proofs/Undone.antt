-- What a run without a crash holds, from an acknowledged seal on.
use Rattle.std.proofs.Common.{◌≡◌, ℕ, ◌+◌, ◌<◌, false, true, List, [], ◌∷◌, ◌++◌, inl, inr, refl}
use Rattle.std.proofs.Common.{sym, ap, subst, ◌∙◌, arith, length, append_assoc, append-nil}
use Rattle.std.specs.Prelude.{Option, Some, Result, Ok, Err, MatchOption}
use Rattle.std.proofs.lemmas.Bool.{cases_Bool}
use Rattle.std.proofs.lemmas.List.{length-append}
use Rattle.std.proofs.lemmas.List.Sums.{sum_by-append}
use Rattle.als_record.specs.declared.lsn.Lsn.{Lsn}
use Rattle.als_record.specs.declared.trans_id.TransId.{TransId}
use Rattle.als_record.specs.declared.record.Record.{Record}
use Rattle.als_record.specs.LogText.{end_of}
use Rattle.als_record.specs.Tail.{tail_of}
use Rattle.als_page.specs.declared.page.Page.{Page}
use Rattle.als_ckpt.specs.declared.control_state.ControlState.{ControlState}
use Rattle.als_ckpt.specs.declared.phase.Phase.{Phase}
use Rattle.als_ckpt.specs.declared.phase.Phase.TheVariants.{Following, Sealed, Primary}
use Rattle.als_ckpt.specs.Control.{phase_byte, last_state}
use Rattle.als_reopen.specs.Taken.{AreDecided}
use Rattle.als_store.specs.declared.decision.Decision.{Decision}
use Rattle.als_store.specs.Stored.{Stored, newest}
use Rattle.als_store.specs.Takeover.{GoesOn, PhasesRise, follows, is_following, is_primary}
use Rattle.als_store.specs.Takeover.{IsFinished}
use Rattle.als_store.specs.Warm.{WasWarm}
use Rattle.als_store.proofs.TakeoverLaws.{rest_is_tail}
use Rattle.als_engine.specs.declared.fault.Fault.{Fault}
use Rattle.als_engine.specs.declared.fault.Fault.TheVariants.{Stopped, Recovering, NotPrimary}
use Rattle.als_engine.specs.declared.step.Step.{Step}
use Rattle.als_engine.specs.declared.step.Step.TheVariants as step
use Rattle.als_engine.specs.declared.step.Reply.{Reply}
use Rattle.als_engine.specs.declared.step.Reply.TheVariants as reply
use Rattle.als_engine.specs.Events.{ShowsPage, Reads}
use Rattle.als_engine.specs.Machine.{Machine, Keeps}
use Rattle.als_engine.specs.Refusals.{refusal}
use Rattle.als_engine.specs.Takeover.{ResolvesIt, ResolvesOf}
use Rattle.als_engine.specs.Telling.{Stands}
use Rattle.als_share.specs.Reaching.{IsAsked, Makes, Run, Begins, Goes, Lending, Giving, Queries}
use Rattle.als_share.specs.Reaching.{Reaches}
use Rattle.als_share.specs.Undoing.{undone_by, undone, resolved_by, resolved, IsSealed, EndsAtSeal}
use Rattle.als_share.specs.Undoing.{GoesOnFrom}
use Rattle.als_share.proofs.Fronts.{same_front}
use Rattle.als_share.proofs.Reached.{goes_on_same, goes_on_both, IsKept, run-kept}
use Rattle.als_share.proofs.Holding.{IsSameLog, none, holds, lend, give, undoes_next}

-- ---- the newest control state

last_rises : (state : ControlState) (since : List ControlState) → PhasesRise state since
    → GoesOn state (last_state state since)
last_rises state [] rise = goes_on_same state
last_rises state (next ∷ rest) rise =
    goes_on_both state next (last_state next rest) rise.0 (last_rises next rest rise.1)

past-following : (p : Phase) → 1 < phase_byte p → follows p ≡ false
past-following Following past = absurd (omega (arith, past))
past-following Sealed past = refl
past-following Primary past = refl

-- of a machine that is kept from an acknowledged seal on, the newest control state is sealed there
record IsSealedStill (start now : Machine) : Type 0 where
  sealed : is_following now.held ≡ false
  seal : (newest now.held).seal ≡ start.held.control.seal

sealed-still : (start now : Machine) → IsSealed start → WasWarm start.held → IsKept start now
    → IsSealedStill start now
sealed-still start now past warm kept =
    let taken = kept.stands.taken (kept.keeps.warm warm) in
    let on = goes_on_both start.held.control now.held.control (newest now.held) kept.keeps.takeover
    (last_rises now.held.control now.held.since taken.phases) in
    record {
      sealed = past-following (newest now.held).phase (omega (arith, past, on.phase));
      seal = on.seal past;
    }

-- ---- queries hold nothing

shown : (old new : Machine) (page : ℕ) (answer : Result Page Fault) → ShowsPage old page answer new
    → IsSameLog old new
shown old new page (Ok found) s = record { log = ap (λ (m : Machine). m.held.log) s.3 }
shown old new page (Err fault) (inl s) = record {
  log = ap (λ (m : Machine). m.held.log) s.1.after ∙ ap (λ (h : Stored). h.log) s.1.becomes.after;
}
shown old new page (Err fault) (inr s) = record { log = ap (λ (m : Machine). m.held.log) s.after }

read : (old new : Machine) (lsn : Lsn) (answer : Result (Option Record) Fault)
    → Reads old lsn answer new → IsSameLog old new
read old new lsn (Ok found) s = record { log = ap (λ (m : Machine). m.held.log) s.1 }
read old new lsn (Err fault) (inl s) = record { log = ap (λ (m : Machine). m.held.log) s.2 }
read old new lsn (Err fault) (inr s) = record {
  log = ap (λ (m : Machine). m.held.log) s.3 ∙ ap (λ (h : Stored). h.log) s.2.after;
}

asked : (old new : Machine) → IsAsked old new → IsSameLog old new
asked old new (inl a) = shown old new a.0 a.1 a.2
asked old new (inr a) = read old new a.0 a.1 a.2

-- ---- along the tail

-- the log goes on from a sealed one by a front of its tail
record IsAlong (sealed log : List Record) : Type 0 where
  undone : List Record
  rest : List Record
  parts : log ≡ sealed ++ undone
  tail : undone ++ rest ≡ tail_of sealed

along-none : (log : List Record) → IsAlong log log
along-none log = record { undone = []; rest = tail_of log; parts = sym (append-nil log); tail = refl }

along-same : (sealed old new : List Record) → new ≡ old → IsAlong sealed old → IsAlong sealed new
along-same sealed old new e a = record {
  undone = a.undone;
  rest = a.rest;
  parts = e ∙ a.parts;
  tail = a.tail;
}

along-next : (sealed log : List Record) (r : Record) (rest : List Record) → tail_of log ≡ r ∷ rest
    → IsAlong sealed log → IsAlong sealed (log ++ r ∷ [])
along-next sealed log r rest e a =
    let left : tail_of log ≡ a.rest =
    rest_is_tail log (end_of sealed) (record {
      sealed = sealed;
      undone = a.undone;
      rest = a.rest;
      parts = a.parts;
      ends = refl;
      tail = a.tail;
    }) in
    record {
      undone = a.undone ++ r ∷ [];
      rest = rest;
      parts = ap (λ (xs : List Record). xs ++ r ∷ []) a.parts
          ∙ append_assoc sealed a.undone (r ∷ []);
      tail = append_assoc a.undone (r ∷ []) rest
          ∙ ap (λ (xs : List Record). a.undone ++ xs) (sym e ∙ left) ∙ a.tail;
    }

none_more : (more : List Record) → length more ≡ 0 → more ≡ []
none_more [] e = refl
none_more (r ∷ more) e = absurd (omega (arith, e))

-- a machine that holds no record more has the same log
still : (old new : Machine) → Keeps old new
    → length new.held.log ≡ length old.held.log + 0 + 0 → new.held.log ≡ old.held.log
still old new k e =
    let none : k.more ≡ [] = none_more k.more
    (omega (
      arith,
      e,
      ap (λ (l : List Record). length l) k.log,
      length-append old.held.log k.more,
    )) in
    k.log ∙ ap (λ (xs : List Record). old.held.log ++ xs) none ∙ append-nil old.held.log

along-step : (sealed : List Record) (old new : Machine) (event : Step) (answer : Reply)
    → is_following old.held ≡ false → Makes old event answer new → resolved_by answer ≡ 0
    → IsAlong sealed old.held.log → IsAlong sealed new.held.log
along-step sealed old new event (reply.Undone lsn) past makes none a =
    let n = undoes_next old new event lsn makes.steps in
    along-same sealed (old.held.log ++ n.made ∷ []) new.held.log n.log
    (along-next sealed old.held.log n.made n.rest n.first a)
along-step sealed old new event (reply.Resolved lsn) past makes none a = absurd (omega (arith, none))
along-step sealed old new event (reply.Fed fed) past makes none a =
    along-same sealed old.held.log new.held.log
    (still old new makes.keeps (holds old new event (reply.Fed fed) past makes.steps)) a
along-step sealed old new event (reply.FeedRefused refusal) past makes none a =
    along-same sealed old.held.log new.held.log
    (still old new makes.keeps (holds old new event (reply.FeedRefused refusal) past makes.steps)) a
along-step sealed old new event reply.Done past makes none a =
    along-same sealed old.held.log new.held.log
    (still old new makes.keeps (holds old new event reply.Done past makes.steps)) a
along-step sealed old new event (reply.Acknowledged lsn) past makes none a =
    along-same sealed old.held.log new.held.log
    (still old new makes.keeps (holds old new event (reply.Acknowledged lsn) past makes.steps)) a
along-step sealed old new event (reply.Refused fault) past makes none a =
    along-same sealed old.held.log new.held.log
    (still old new makes.keeps (holds old new event (reply.Refused fault) past makes.steps)) a

-- ---- the run

undone-push : (replies : List Reply) (answer : Reply)
    → undone (replies ++ answer ∷ []) ≡ undone replies + undone_by answer
undone-push replies answer = omega (arith, sum_by-append undone_by replies (answer ∷ []))

resolved-push : (replies : List Reply) (answer : Reply)
    → resolved (replies ++ answer ∷ []) ≡ resolved replies + resolved_by answer
resolved-push replies answer = omega (arith, sum_by-append resolved_by replies (answer ∷ []))

pub run-holds : (start now : Machine) (events : List Step) (replies : List Reply)
    → Run start events replies now → Stands start → WasWarm start.held → IsSealed start
    → length now.held.log ≡ length start.held.log + undone replies + resolved replies
run-holds start _ _ _ Begins s warm past = omega arith
run-holds start _ _ _ (Goes events replies mid run event answer new makes) s warm past =
    let before = run-holds start mid events replies run s warm past in
    let still = sealed-still start mid past warm (run-kept start mid events replies run s) in
    omega (
      arith,
      before,
      holds mid new event answer still.sealed makes.steps,
      undone-push replies answer,
      resolved-push replies answer,
    )
run-holds start _ _ _ (Lending events replies mid run page answer new makes) s warm past =
    omega (
      arith,
      run-holds start mid events replies run s warm past,
      none mid new (lend mid new page answer makes.lends),
    )
run-holds start _ _ _ (Giving events replies mid run lease answer new makes) s warm past =
    omega (
      arith,
      run-holds start mid events replies run s warm past,
      none mid new (give mid new lease answer makes.gives),
    )
run-holds start _ _ _ (Queries events replies mid run new asks) s warm past =
    omega (
      arith,
      run-holds start mid events replies run s warm past,
      none mid new (asked mid new asks.asked),
    )

run-along : (start now : Machine) (events : List Step) (replies : List Reply)
    → Run start events replies now → Stands start → WasWarm start.held → IsSealed start
    → resolved replies ≡ 0 → IsAlong start.held.log now.held.log
run-along start _ _ _ Begins s warm past none = along-none start.held.log
run-along start _ _ _ (Goes events replies mid run event answer new makes) s warm past none =
    let push = resolved-push replies answer in
    let few : resolved replies ≡ 0 = omega (arith, none, push) in
    let last : resolved_by answer ≡ 0 = omega (arith, none, push) in
    let still = sealed-still start mid past warm (run-kept start mid events replies run s) in
    along-step start.held.log mid new event answer still.sealed makes last
    (run-along start mid events replies run s warm past few)
run-along start _ _ _ (Lending events replies mid run page answer new makes) s warm past no_more =
    along-same start.held.log mid.held.log new.held.log (lend mid new page answer makes.lends).log
    (run-along start mid events replies run s warm past no_more)
run-along start _ _ _ (Giving events replies mid run lease answer new makes) s warm past no_more =
    along-same start.held.log mid.held.log new.held.log (give mid new lease answer makes.gives).log
    (run-along start mid events replies run s warm past no_more)
run-along start _ _ _ (Queries events replies mid run new asks) s warm past no_more =
    along-same start.held.log mid.held.log new.held.log (asked mid new asks.asked).log
    (run-along start mid events replies run s warm past no_more)

-- the sealed log is the one from which it goes on
is_start : (start now : Machine) → WasWarm start.held → IsKept start now → EndsAtSeal start
    → (f : IsFinished now.held) → start.held.log ≡ f.sealed
is_start start now warm kept at f =
    let still = sealed-still start now at.sealed warm kept in
    same_front start.held.log f.sealed kept.keeps.more (tail_of f.sealed ++ f.more)
    (sym kept.keeps.log ∙ f.parts ∙ append_assoc f.sealed (tail_of f.sealed) f.more)
    (sym at.ends ∙ sym (ap (λ (l : Lsn). l.0) still.seal) ∙ sym f.ends)

pub run-undoes : (start now : Machine) (events : List Step) (replies : List Reply)
    → Run start events replies now → Stands start → WasWarm start.held → EndsAtSeal start
    → now.held.recovering ≡ false → is_primary now.held ≡ true → resolved replies ≡ 0
    → undone replies ≡ length (tail_of start.held.log)
run-undoes start now events replies run s warm at ready done no_more =
    let kept = run-kept start now events replies run s in
    let f : IsFinished now.held = kept.stands.finished (kept.keeps.warm warm) ready done in
    let same = is_start start now warm kept at f in
    let a = run-along start now events replies run s warm at.sealed no_more in
    omega (
      arith,
      no_more,
      run-holds start now events replies run s warm at.sealed,
      ap (λ (l : List Record). length l) f.parts,
      length-append (f.sealed ++ tail_of f.sealed) f.more,
      length-append f.sealed (tail_of f.sealed),
      ap (λ (l : List Record). length l) same,
      ap (λ (l : List Record). length (tail_of l)) same,
      ap (λ (l : List Record). length l) a.parts,
      length-append start.held.log a.undone,
      ap (λ (l : List Record). length l) a.tail,
      length-append a.undone a.rest,
    )

pub run-goes_on : (start now : Machine) → Reaches start now → Stands start → WasWarm start.held
    → EndsAtSeal start → now.held.recovering ≡ false → is_primary now.held ≡ true
    → GoesOnFrom start now
run-goes_on start now r s warm at ready done =
    let kept = run-kept start now r.events r.replies r.run s in
    let f : IsFinished now.held = kept.stands.finished (kept.keeps.warm warm) ready done in
    let same = is_start start now warm kept at f in
    record {
      more = f.more;
      parts = f.parts ∙ ap (λ (l : List Record). (l ++ tail_of l) ++ f.more) (sym same);
      decided = subst (λ (l : List Record). AreDecided (l ++ tail_of l) f.more) (sym same) f.decided;
    }

-- a decision comes once the takeover has ended alone
record IsEnded (m : Machine) : Type 0 where
  ready : m.held.recovering ≡ false
  done : is_primary m.held ≡ true

ended_at : (old new : Machine) (trans : TransId) (verdict : Decision) (lsn : Lsn)
    → ResolvesOf old trans verdict (Ok lsn) new → IsEnded old
ended_at old new trans verdict lsn d = elim (cases_Bool old.held.broken) [
  | inl y ↦ absurd (refused Stopped (rw y refl))
  | inr n ↦ elim (cases_Bool old.held.recovering) [
    | inl y ↦ absurd (refused Recovering (rw (n, y) refl))
    | inr r ↦ elim (cases_Bool (is_primary old.held)) [
      | inl y ↦ record { ready = r; done = y }
      | inr p ↦ absurd (refused NotPrimary (rw (n, r, p) refl))
    ]
  ]
]
  where
    refused : (f : Fault) → refusal old (step.Resolve trans verdict) ≡ Some f → ⊥
    refused f e =
        let g : (◌≡◌ {A = Result Lsn Fault} (Ok lsn) (Err f)) × (new ≡ old) =
        subst (λ (o : Option Fault). MatchOption o (ResolvesIt trans verdict old (Ok lsn) new)
        (λ cause. (◌≡◌ {A = Result Lsn Fault} (Ok lsn) (Err cause)) × (new ≡ old))) e d in
        absurd (cc g.0)

pub run-decides : (start now : Machine) (events : List Step) (replies : List Reply)
    (trans : TransId) (verdict : Decision) (lsn : Lsn) (new : Machine)
    → Run start events replies now → Stands start → WasWarm start.held → EndsAtSeal start
    → resolved replies ≡ 0 → Makes now (step.Resolve trans verdict) (reply.Resolved lsn) new
    → undone replies ≡ length (tail_of start.held.log)
run-decides start now events replies trans verdict lsn new run s warm at no_more makes =
    let e = ended_at now new trans verdict lsn makes.steps in
    run-undoes start now events replies run s warm at e.ready e.done no_more
