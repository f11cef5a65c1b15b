-- An undo that holds no record.
use Rattle.std.proofs.Common.{◌≡◌, true, false, Err, inl, inr, refl, sym, ◌∙◌}
use Rattle.std.proofs.lemmas.Bool.{true≢false}
use Rattle.als_record.specs.Tail.{is_undone}
use Rattle.als_store.specs.declared.fault.Fault.{Fault as StoreFault}
use Rattle.als_store.specs.declared.fault.Fault.TheVariants as store_fault
use Rattle.als_store.specs.Stored.{Stored}
use Rattle.als_store.specs.Takeover.{NotUndone, is_following}
use Rattle.als_engine.specs.declared.fault.Fault.TheVariants as fault
use Rattle.als_engine.specs.declared.step.Step.TheVariants as step
use Rattle.als_engine.specs.Faults.{from_store}
use Rattle.als_engine.specs.Machine.{Machine}
use Rattle.als_engine.specs.Takeover.{Undoes, UndoesOneOf}
use Rattle.als_engine.proofs.PageLaws.{acting, with_held, same_held}

pub not_undone : (m : Machine) (cause : StoreFault) (held : Stored) → m.held.broken ≡ false
    → m.held.recovering ≡ false → is_following m.held ≡ false → is_undone m.held.log ≡ false
    → NotUndone m.held cause held
    → UndoesOneOf m (Err (from_store cause)) (record m { held = held })
not_undone m store_fault.Memory held running ready sealed left n =
    acting m step.UndoOne (Undoes m) (Err fault.Memory) (with_held m held)
    (rw (running, ready, sealed, left) refl) (inl (refl, same_held m held n.1))
not_undone m store_fault.Device held running ready sealed left n =
    acting m step.UndoOne (Undoes m) (Err fault.Device) (with_held m held)
    (rw (running, ready, sealed, left) refl)
    (inr (refl, record { held = held; becomes = n; after = refl }))
not_undone m store_fault.NothingToDo held running ready sealed left n =
    absurd (true≢false (sym n.0 ∙ left))
not_undone m (store_fault.Invalid c) held running ready sealed left n = absurd n
not_undone m store_fault.LogBehind held running ready sealed left n = absurd n
not_undone m store_fault.CkptBusy held running ready sealed left n = absurd n
not_undone m store_fault.PoolFull held running ready sealed left n = absurd n
not_undone m store_fault.PageLent held running ready sealed left n = absurd n
not_undone m store_fault.NumbersSpent held running ready sealed left n = absurd n
not_undone m store_fault.LogFull held running ready sealed left n = absurd n
not_undone m (store_fault.BadPage p) held running ready sealed left n = absurd n
