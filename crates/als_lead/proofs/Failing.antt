-- Why the log of an engine is not acknowledged to its end after a force.
use Rattle.std.proofs.Common.{◌≡◌, Result, Ok, Err, IfErr, refl, subst, inl, inr}
use Rattle.als_record.specs.declared.lsn.Lsn.{Lsn}
use Rattle.als_engine.specs.declared.fault.Fault.{Fault}
use Rattle.als_engine.specs.declared.fault.Fault.TheVariants.{NotDrained}
use Rattle.als_engine.specs.Events.{LogWrites, LogSyncs, MarkWrites, ControlSyncs}
use Rattle.als_engine.specs.Machine.{Machine}
use Rattle.als_lead.specs.Going.{Grows, Stays}
use Rattle.als_lead.specs.Owed.{IsNotForced}
use Rattle.als_lead.proofs.Going.{grows_refl, grows_trans}

pub not_forced_log_write : (E : Type 0) (machine : E → Machine) (old new : E) (r : Result (Unit {0}) Fault) (f : Fault) → LogWrites (machine old) r (machine new) → r ≡ Err f → IsNotForced E machine (machine old) f
not_forced_log_write E machine old new r f h is =
    record { before = old; after = new; goes_on = grows_refl (machine old); refused = inl (subst (λ (x : Result (Unit {0}) Fault). LogWrites (machine old) x (machine new)) is h) }

pub not_forced_log_sync : (E : Type 0) (machine : E → Machine) (old new : E) (r : Result (Unit {0}) Fault) (f : Fault) → LogSyncs (machine old) r (machine new) → r ≡ Err f → IsNotForced E machine (machine old) f
not_forced_log_sync E machine old new r f h is =
    record { before = old; after = new; goes_on = grows_refl (machine old); refused = inr (inl (subst (λ (x : Result (Unit {0}) Fault). LogSyncs (machine old) x (machine new)) is h)) }

pub not_forced_mark_write : (E : Type 0) (machine : E → Machine) (old new : E) (r : Result (Unit {0}) Fault) (f : Fault) → MarkWrites (machine old) r (machine new) → r ≡ Err f → IsNotForced E machine (machine old) f
not_forced_mark_write E machine old new r f h is =
    record { before = old; after = new; goes_on = grows_refl (machine old); refused = inr (inr (inl (subst (λ (x : Result (Unit {0}) Fault). MarkWrites (machine old) x (machine new)) is h))) }

pub not_forced_ctl_sync : (E : Type 0) (machine : E → Machine) (old new : E) (r : Result Lsn Fault) (f : Fault) → ControlSyncs (machine old) r (machine new) → r ≡ Err f → IsNotForced E machine (machine old) f
not_forced_ctl_sync E machine old new r f h is =
    record { before = old; after = new; goes_on = grows_refl (machine old); refused = inr (inr (inr (inl (subst (λ (x : Result Lsn Fault). ControlSyncs (machine old) x (machine new)) is h)))) }

-- nothing was refused, and something is not acknowledged
pub not_drained : (E : Type 0) (machine : E → Machine) (e : E) → IsNotForced E machine (machine e) NotDrained
not_drained E machine e = record { before = e; after = e; goes_on = grows_refl (machine e); refused = inr (inr (inr (inr refl))) }

-- it came behind events that leave the log as it is
pub not_forced_on : (E : Type 0) (machine : E → Machine) (old mid : Machine) (f : Fault) → Grows old mid → IsNotForced E machine mid f → IsNotForced E machine old f
not_forced_on E machine old mid f g n = record { before = n.before; after = n.after; goes_on = grows_trans old mid (machine n.before) g n.goes_on; refused = n.refused }

pub not_forced_stays : (E : Type 0) (machine : E → Machine) (old mid : Machine) (f : Fault) → Stays old mid → IsNotForced E machine mid f → IsNotForced E machine old f
not_forced_stays E machine old mid f s n = not_forced_on E machine old mid f s.grows n

pub refused_on : {E : Type 0} (machine : E → Machine) (alone : Type 0) (old mid : Machine) (r : Result (Unit {0}) Fault) → (alone → Stays old mid) → IfErr r (λ f. alone → IsNotForced E machine mid f)
    → IfErr r (λ f. alone → IsNotForced E machine old f)
refused_on {E} machine alone old mid (Ok x) s h = tt
refused_on {E} machine alone old mid (Err f) s h = λ a. not_forced_stays E machine old mid f (s a) (h a)
