-- A takeover, event by event.
use Rattle.std.proofs.Common.{◌≡◌, Bool, true, false, List, [], ◌∷◌, ◌++◌, Result, Ok, Err, refl, sym, ap, subst, ◌∙◌, inl, inr, append-nil, append_assoc}
use Rattle.std.specs.Prelude.{MatchOption}
use Rattle.als_record.specs.declared.lsn.Lsn.{Lsn}
use Rattle.als_record.specs.declared.record.Record.{Record}
use Rattle.als_record.specs.Tail.{tail_of, is_undone}
use Rattle.als_record.proofs.TailFirst.{tail_of-next, tail_of-undone}
use Rattle.als_store.specs.Stored.{Stored}
use Rattle.als_store.specs.Events.{FailsToRead}
use Rattle.als_store.specs.Takeover.{is_following}
use Rattle.als_engine.specs.declared.fault.Fault.{Fault}
use Rattle.als_engine.specs.declared.fault.Fault.TheVariants.{Stopped, Recovering, NotSealed, NothingToDo}
use Rattle.als_engine.specs.declared.status.State.TheVariants.{Primary}
use Rattle.als_engine.specs.declared.step.Step.TheVariants as step
use Rattle.als_engine.specs.Events.{Acknowledges, ControlSyncs}
use Rattle.als_engine.specs.Machine.{Machine, state_of}
use Rattle.als_engine.specs.Refusals.{refusal, first_of}
use Rattle.als_engine.specs.Takeover.{SealsLog, Seals, Undoes, UndoesOneOf, FinishesTakeover, Finishes}
use Rattle.als_drive.specs.Driving.{IsDrained, OnlyRedoes, OnlyRecovers}
use Rattle.als_ship.specs.Follows.{SameText}
use Rattle.als_ship.specs.Forcing.{Forces}
use Rattle.als_ship.proofs.LogForcing.{SameLog, same_changed, by_equation, refused_or_acts, ctl_sync_same}
use Rattle.als_operate.specs.TakingOver.{GoesAlong, IsStable, IsSynced, TakesOver}

-- ---- along the tail

along_log : (old new : Machine) → new.held.log ≡ old.held.log → GoesAlong old new
along_log old new e = record { more = []; log = e ∙ sym (append-nil old.held.log); tail = ap tail_of e }

pub along_none : (m : Machine) → GoesAlong m m
along_none m = along_log m m refl

along_equal : (old new : Machine) → new ≡ old → GoesAlong old new
along_equal old new e = along_log old new (ap (λ (m : Machine). m.held.log) e)

pub along_more : (a b c : Machine) → GoesAlong a b → GoesAlong b c → GoesAlong a c
along_more a b c p q = record {
  more = p.more ++ q.more;
  log = q.log ∙ ap (λ (l : List Record). l ++ q.more) p.log ∙ append_assoc a.held.log p.more q.more;
  tail = append_assoc p.more q.more (tail_of c.held.log) ∙ ap (λ (rs : List Record). p.more ++ rs) q.tail ∙ p.tail;
}

-- nothing of the tail is left: all of it was appended
pub along_whole : (old new : Machine) (a : GoesAlong old new) → is_undone new.held.log ≡ true → a.more ≡ tail_of old.held.log
along_whole old new a left = sym (append-nil a.more) ∙ ap (λ (rs : List Record). a.more ++ rs) (sym (tail_of-undone new.held.log left)) ∙ a.tail

-- ---- the records of a tail

reads_same : (old new : Stored) → FailsToRead old new → SameLog old new
reads_same old new f = by_equation old new _ f.after (refl, refl, refl, λ b. b)

-- the first record of the tail is held: the tail is the rest
held_along : (old new : Machine) (made : Record) (rest : List Record) → tail_of old.held.log ≡ made ∷ rest → new.held.log ≡ old.held.log ++ made ∷ [] → GoesAlong old new
held_along old new made rest first log = record {
  more = made ∷ [];
  log = log;
  tail = ap (λ (rs : List Record). made ∷ rs) (ap tail_of log ∙ tail_of-next old.held.log made rest first) ∙ sym first;
}

undo_acts : (old new : Machine) (result : Result Lsn Fault) → Undoes old result new → GoesAlong old new
undo_acts old new (Ok lsn) u = held_along old new u.undoes.made u.undoes.rest u.undoes.first (ap (λ (m : Machine). m.held.log) u.after ∙ ap (λ (s : Stored). s.log) u.undoes.after)
undo_acts old new (Err fault) (inl f) = along_equal old new f.1
undo_acts old new (Err fault) (inr f) = along_log old new (same_changed old new FailsToRead reads_same f.1).log

-- an undo holds the next record of the tail, or none
pub undo_along : (old new : Machine) (result : Result Lsn Fault) → UndoesOneOf old result new → GoesAlong old new
undo_along old new result e = refused_or_acts (refusal old step.UndoOne) (Undoes old result new) (GoesAlong old new) (λ f. (result ≡ Err f) × (new ≡ old)) (undo_acts old new result) (λ f same. along_equal old new same.1) e

nothing_left : (a b c d : Bool) (A P : Type 0) → (A → ⊥) → MatchOption (first_of ((a, Stopped) ∷ (b, Recovering) ∷ (c, NotSealed) ∷ (d, NothingToDo) ∷ [])) A (λ (f : Fault). let refused : Result Lsn Fault = Err NothingToDo in (refused ≡ Err f) × P) → (d ≡ true) × P
nothing_left true b c d A P never e = absurd (cc e.0)
nothing_left false true c d A P never e = absurd (cc e.0)
nothing_left false false true d A P never e = absurd (cc e.0)
nothing_left false false false true A P never e = (refl, e.1)
nothing_left false false false false A P never e = absurd (never e)

-- where it has nothing to do, nothing of a tail is left
pub undone_all : (old new : Machine) → UndoesOneOf old (Err NothingToDo) new → is_undone new.held.log ≡ true
undone_all old new e = ap (λ (m : Machine). is_undone m.held.log) left.1 ∙ left.0
  where
    never : Undoes old (Err NothingToDo) new → ⊥
    never (inl f) = cc f.0
    never (inr f) = cc f.0

    left : (is_undone old.held.log ≡ true) × (new ≡ old)
    left = nothing_left old.held.broken old.held.recovering (is_following old.held) (is_undone old.held.log) (Undoes old (Err NothingToDo) new) (new ≡ old) never e

-- ---- the seal

seal_acts : (old new : Machine) → SealsLog old (Ok tt) new → new.held.log ≡ old.held.log
seal_acts old new s = ap (λ (m : Machine). m.held.log) s.after ∙ ap (λ (h : Stored). h.log) s.seals.after

seal_log : (old new : Machine) → Seals old (Ok tt) new → new.held.log ≡ old.held.log
seal_log old new e = refused_or_acts (refusal old step.Seal) (SealsLog old (Ok tt) new) (new.held.log ≡ old.held.log) (λ f. (Ok tt ≡ Err f) × (new ≡ old)) (seal_acts old new) (λ f same. ap (λ (m : Machine). m.held.log) same.1) e

-- the log is sealed as it is, and that is synced
pub sealed_log : (old mid new : Machine) (lsn : Lsn) → Seals old (Ok tt) mid → ControlSyncs mid (Ok lsn) new → new.held.log ≡ old.held.log
sealed_log old mid new lsn seals syncs = (ctl_sync_same mid new (Ok lsn) syncs).log ∙ seal_log old mid seals

-- ---- the end

finish_acts : (old new : Machine) → FinishesTakeover old (Ok tt) new → (new.held.log ≡ old.held.log) × (IsDrained old → IsDrained new)
finish_acts old new c = (
  ap (λ (m : Machine). m.held.log) c.after ∙ ap (λ (s : Stored). s.log) c.becomes.after,
  λ drained. subst (λ (m : Machine). IsDrained m) (sym c.after) (subst (λ (s : Stored). IsDrained (record old { held = s })) (sym c.becomes.after) drained),
)

finish_same : (old new : Machine) → Finishes old (Ok tt) new → (new.held.log ≡ old.held.log) × (IsDrained old → IsDrained new)
finish_same old new e = refused_or_acts (refusal old step.Finish) (FinishesTakeover old (Ok tt) new) ((new.held.log ≡ old.held.log) × (IsDrained old → IsDrained new)) (λ f. (◌≡◌ {A = Result (Unit {0}) Fault} (Ok tt) (Err f)) × (new ≡ old)) (finish_acts old new) (λ f same. absurd (cc same.0)) e

control_acts : (old new : Machine) (lsn : Lsn) → Acknowledges old (Ok lsn) new → (IsDrained old → IsDrained new) × IsSynced new
control_acts old new lsn c = (
  λ drained. subst (λ (m : Machine). IsDrained m) (sym c.after) (subst (λ (s : Stored). IsDrained (record old { held = s })) (sym c.becomes.after) drained),
  ap (λ (m : Machine). m.held.since) c.after ∙ ap (λ (s : Stored). s.since) c.becomes.after,
)

control_synced : (old new : Machine) (lsn : Lsn) → ControlSyncs old (Ok lsn) new → (IsDrained old → IsDrained new) × IsSynced new
control_synced old new lsn e = refused_or_acts (refusal old step.ControlSync) (Acknowledges old (Ok lsn) new) ((IsDrained old → IsDrained new) × IsSynced new) (λ f. (Ok lsn ≡ Err f) × (new ≡ old)) (control_acts old new lsn) (λ f same. absurd (cc same.0)) e

pub finished_log : (old mid new : Machine) (lsn : Lsn) → Finishes old (Ok tt) mid → ControlSyncs mid (Ok lsn) new → new.held.log ≡ old.held.log
finished_log old mid new lsn ends syncs = (ctl_sync_same mid new (Ok lsn) syncs).log ∙ (finish_same old mid ends).0

pub finished_drained : (old mid new : Machine) (lsn : Lsn) → Finishes old (Ok tt) mid → ControlSyncs mid (Ok lsn) new → IsDrained old → IsDrained new
finished_drained old mid new lsn ends syncs drained = (control_synced mid new lsn syncs).0 ((finish_same old mid ends).1 drained)

pub finished_synced : (mid new : Machine) (lsn : Lsn) → ControlSyncs mid (Ok lsn) new → IsSynced new
finished_synced mid new lsn syncs = (control_synced mid new lsn syncs).1

-- ---- the whole of it

pub forced_synced : (old new : Machine) (lsn : Lsn) → Forces old lsn new → IsSynced new
forced_synced old new lsn f = (control_synced f.synced new lsn f.acknowledges).1

redone_synced : (old new : Machine) → OnlyRedoes old new → IsSynced old → IsSynced new
redone_synced old new redoes synced = ap (λ (m : Machine). m.held.since) redoes ∙ synced

pub taken_over : (old ready forced sealed undone stable drained new : Machine) (lsn : Lsn) → OnlyRecovers old ready → SameText ready forced → sealed.held.log ≡ forced.held.log → GoesAlong sealed undone → is_undone undone.held.log ≡ true
    → SameText undone stable → Forces undone lsn stable → OnlyRedoes stable drained → IsDrained drained → new.held.log ≡ drained.held.log → (IsDrained drained → IsDrained new) → (IsSynced drained → IsSynced new) → state_of new ≡ Primary → IsStable new
    → TakesOver old new
taken_over old ready forced sealed undone stable drained new lsn recovers first seals along left second forces redoes empty ends stays synced primary acknowledged = record {
  primary = primary;
  synced = synced (redone_synced stable drained redoes (forced_synced undone stable lsn forces));
  log = kept ∙ along.log ∙ ap (λ (rs : List Record). sealed.held.log ++ rs) (along_whole sealed undone along left) ∙ ap (λ (l : List Record). l ++ tail_of l) same;
  undone = ap is_undone kept ∙ left;
  stable = acknowledged;
  drained = stays empty;
}
  where
    same : sealed.held.log ≡ old.held.log
    same = seals ∙ first.log ∙ ap (λ (m : Machine). m.held.log) recovers

    kept : new.held.log ≡ undone.held.log
    kept = ends ∙ ap (λ (m : Machine). m.held.log) redoes ∙ second.log
