-- What a page leaves of the pool that is not shown.
use Rattle.std.proofs.Common.{ℕ, ap, arith}
use Rattle.als_frames.specs.Frames.{Paged}
use Rattle.als_frames.specs.Images.{synced_lsn}
use Rattle.als_pool.specs.declared.fault.Fault.{Fault as PoolFault}
use Rattle.als_pool.specs.declared.fault.Fault.TheVariants as pool_fault
use Rattle.als_pool.specs.Outcomes.{RefusesPage}
use Rattle.als_pool.specs.Pooled.{Pooled, Grows}
use Rattle.als_store.proofs.PoolSteps.{IsCalm, calm_frames, calm_show}

pub calm_unshown : (reason : PoolFault) (old new : Pooled) (page : ℕ)
    → RefusesPage reason old new page → IsCalm old new
calm_unshown pool_fault.Device old new page r = calm_show old new page r
calm_unshown (pool_fault.BadPage p) old new page r =
    let e = r.refuses.2 in calm_frames old new r.same (ap (λ (v : Paged). v.attempts) e)
    (ap (λ (v : Paged). v.sure) e)
calm_unshown pool_fault.LogBehind old new page r = absurd r
calm_unshown pool_fault.PoolFull old new page r = absurd r
calm_unshown pool_fault.NothingToDo old new page r = absurd r
calm_unshown pool_fault.Memory old new page r = absurd r
calm_unshown pool_fault.PageLent old new page r = absurd r
calm_unshown pool_fault.NumbersSpent old new page r = absurd r

pub grows_unshown : (reason : PoolFault) (old new : Pooled) (page : ℕ)
    → RefusesPage reason old new page → Grows old new
grows_unshown pool_fault.Device old new page r p lt =
    omega (arith, ap (λ (v : Paged). synced_lsn v p) r.refuses.same)
grows_unshown (pool_fault.BadPage q) old new page r p lt =
    omega (arith, ap (λ (v : Paged). synced_lsn v p) r.refuses.2)
grows_unshown pool_fault.LogBehind old new page r p lt = absurd r
grows_unshown pool_fault.PoolFull old new page r p lt = absurd r
grows_unshown pool_fault.NothingToDo old new page r p lt = absurd r
grows_unshown pool_fault.Memory old new page r p lt = absurd r
grows_unshown pool_fault.PageLent old new page r p lt = absurd r
grows_unshown pool_fault.NumbersSpent old new page r p lt = absurd r
