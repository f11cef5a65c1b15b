-- A transaction in doubt is decided, or that fails.
use Rattle.std.proofs.Common.{◌≡◌, ℕ, true, false, List, [], ◌∷◌, ◌++◌, Ok, Err, inl, inr, refl}
use Rattle.als_record.specs.declared.lsn.Lsn.{Lsn}
use Rattle.als_record.specs.declared.trans_id.TransId.{TransId}
use Rattle.als_record.specs.declared.record.Record.{Record}
use Rattle.als_record.specs.declared.record.Body.TheVariants.{Rollback}
use Rattle.als_record.specs.Commits.{commits_of}
use Rattle.als_record.specs.Tail.{decision}
use Rattle.als_record.specs.Transactions.{is_in_doubt}
use Rattle.als_record.specs.Validity.{is_valid}
use Rattle.als_record.proofs.CommitSteps.{commits_of-push}
use Rattle.als_record.proofs.Decisions.{decision-is_valid}
use Rattle.als_store.specs.declared.decision.Decision.{Decision}
use Rattle.als_store.specs.declared.fault.Fault.{Fault as StoreFault}
use Rattle.als_store.specs.declared.fault.Fault.TheVariants as store_fault
use Rattle.als_store.specs.Stored.{Stored}
use Rattle.als_store.specs.Takeover.{is_primary, NotCollected}
use Rattle.als_engine.specs.declared.fault.Fault.TheVariants as fault
use Rattle.als_engine.specs.declared.step.Step.TheVariants as step
use Rattle.als_engine.specs.Faults.{from_store}
use Rattle.als_engine.specs.Machine.{Machine}
use Rattle.als_engine.specs.Takeover.{ResolvesHeld, ResolvesIt, ResolvesOf}
use Rattle.als_engine.proofs.PageLaws.{acting, with_held, same_held}

-- a transaction that is rolled back makes no commit
pub rolled_back-commits : (log : List Record) (t : ℕ) → is_valid log ≡ true
    → is_in_doubt log t ≡ true
    → commits_of (log ++ decision log t Rollback ∷ []) ≡ commits_of log ++ []
rolled_back-commits log t v d =
    commits_of-push log (decision log t Rollback) (decision-is_valid log t d v Rollback refl)

-- no cause stands against a decision
pub record CanResolve (m : Machine) (trans : TransId) : Type 0 where
  pub running : m.held.broken ≡ false
  pub ready : m.held.recovering ≡ false
  pub primary : is_primary m.held ≡ true
  pub doubt : is_in_doubt m.held.log trans.0 ≡ true

pub resolved : (m : Machine) (trans : TransId) (verdict : Decision) (lsn : Lsn) (new : Machine)
    → CanResolve m trans → ResolvesHeld m trans verdict lsn new
    → ResolvesOf m trans verdict (Ok lsn) new
resolved m trans verdict lsn new can r =
    acting m (step.Resolve trans verdict) (ResolvesIt trans verdict m) (Ok lsn) new
    (rw (can.running, can.ready, can.primary, can.doubt) refl) r

pub not_resolved : (m : Machine) (trans : TransId) (verdict : Decision) (new : Machine)
    → CanResolve m trans → new ≡ m → ResolvesOf m trans verdict (Err fault.Memory) new
not_resolved m trans verdict new can same =
    acting m (step.Resolve trans verdict) (ResolvesIt trans verdict m) (Err fault.Memory) new
    (rw (can.running, can.ready, can.primary, can.doubt) refl) (inl (refl, same))

pub not_collected : (m : Machine) (trans : TransId) (verdict : Decision) (cause : StoreFault)
    (held : Stored) → CanResolve m trans → NotCollected m.held cause held
    → ResolvesOf m trans verdict (Err (from_store cause)) (record m { held = held })
not_collected m trans verdict store_fault.Memory held can n =
    not_resolved m trans verdict (with_held m held) can (same_held m held n)
not_collected m trans verdict store_fault.Device held can n =
    acting m (step.Resolve trans verdict) (ResolvesIt trans verdict m) (Err fault.Device)
    (with_held m held) (rw (can.running, can.ready, can.primary, can.doubt) refl)
    (inr (refl, record { held = held; becomes = n; after = refl }))
not_collected m trans verdict store_fault.NothingToDo held can n = absurd n
not_collected m trans verdict (store_fault.Invalid c) held can n = absurd n
not_collected m trans verdict store_fault.LogBehind held can n = absurd n
not_collected m trans verdict store_fault.CkptBusy held can n = absurd n
not_collected m trans verdict store_fault.PoolFull held can n = absurd n
not_collected m trans verdict store_fault.PageLent held can n = absurd n
not_collected m trans verdict store_fault.NumbersSpent held can n = absurd n
not_collected m trans verdict store_fault.LogFull held can n = absurd n
not_collected m trans verdict (store_fault.BadPage p) held can n = absurd n
