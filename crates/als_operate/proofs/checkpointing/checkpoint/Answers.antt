use Rattle.std.proofs.lemmas.Result.{err_from_is_err_and}
use Rattle.als_operate.proofs.Checkpoints.{taken}
use Rattle.als_operate.proofs.Refusing.{control_refused}
use Rattle.als_operate.proofs.checkpointing.checkpoint.Goals as goal

pub returns-in_err-ctl_sync-clause-fails : goal.returns-in_err-ctl_sync-clause-fails
returns-in_err-ctl_sync-clause-fails g c =
    let old = g.E.Events.machine c.write_blocks.new.events in
    let new = g.E.Events.machine c.ctl_sync.new.self in
    let found = λ (a : g.E.Events.alone). control_refused c.in_err-ctl_sync.field-0.0 old new (c.in_err-ctl_sync.ensures.syncs a) in
    let p = err_from_is_err_and c.from_residual-in_err-ctl_sync.result c.from_residual-in_err-ctl_sync.ensures.1 in rw (p.1, p.2) found

pub returns-in_err-ctl_sync-2-clause-fails : goal.returns-in_err-ctl_sync-2-clause-fails
returns-in_err-ctl_sync-2-clause-fails g c =
    let old = g.E.Events.machine c.ckpt_publish.new.self in
    let new = g.E.Events.machine c.ctl_sync-2.new.self in
    let found = λ (a : g.E.Events.alone). control_refused c.in_err-ctl_sync-2.field-0.0 old new (c.in_err-ctl_sync-2.ensures.syncs a) in
    let p = err_from_is_err_and c.from_residual-in_err-ctl_sync-2.result c.from_residual-in_err-ctl_sync-2.ensures.1 in rw (p.1, p.2) found

pub returns-clause-taken : goal.returns-clause-taken
returns-clause-taken g c = λ a.
    let old = g.E.Events.machine c.args.events.now in
    let begun = g.E.Events.machine c.ckpt_begin.new.self in
    let written = g.E.Events.machine c.write_blocks.new.events in
    let synced = g.E.Events.machine c.ctl_sync.new.self in
    let published = g.E.Events.machine c.ckpt_publish.new.self in
    let new = g.E.Events.machine c.ctl_sync-2.new.self in
    taken old begun written synced published new c.in_ok-ctl_sync.field-0 c.in_ok-ctl_sync-2.field-0 (c.in_ok-ckpt_begin.ensures.begins a) (c.in_ok-write_blocks.ensures.builds a) (c.in_ok-ctl_sync.ensures.syncs a) (c.in_ok-ckpt_publish.ensures.publishes a) (c.in_ok-ctl_sync-2.ensures.syncs a)
