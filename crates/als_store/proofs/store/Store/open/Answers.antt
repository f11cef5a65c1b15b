use Rattle.std.proofs.Common.{◌+◌, sym, ap, subst, arith}
use Rattle.als_record.specs.LogText.{IsLog}
use Rattle.als_frames.specs.Frames.{Paged}
use Rattle.als_reopen.specs.Node.{position_in, rows_in}
use Rattle.als_reopen.specs.Outcomes.{said_now}
use Rattle.als_store.proofs.OpeningLaws.{stored-opened, is-opened, takes-up}
use Rattle.als_store.proofs.StayingLaws.{left_same}
use Rattle.als_store.proofs.store.Store.open.Goals as goal

pub invariant_of-store : goal.invariant_of-store
invariant_of-store g c =
    let disks = c.args.disks in
    let x = c.in-Ok.reopened in
    let e = c.in-Ok.ensures in
    let p = c.into_parts-log.ensures in
    let said = said_now x.control in
    let ends = c.pool_ends_below.ensures.reads x.log.log (position_in said) (rows_in said)
    x.pool.pool (subst (λ n. IsLog n x.log.log) (sym (ap (λ (f : Paged). f.pages) e.stored.is))
    e.ok.valid.text) e.ok.rows e.ok.queues in
    rw (c.of-origin.ensures, p.0, p.1, p.2, p.3, p.4)
    (stored-opened c.args.pages (g.D.BlockDisk.block_count disks.log) c.args.frames
    (g.D.BlockDisk.failures disks.log) (g.D.BlockDisk.attempts disks.log + 1)
    (g.D.BlockDisk.block_count disks.control) (g.D.BlockDisk.failures disks.control)
    (g.D.BlockDisk.attempts disks.control + 1)
    (g.D.BlockDisk.block_count disks.pages) (g.D.BlockDisk.failures disks.pages)
    (g.D.BlockDisk.attempts disks.pages + 1) (g.D.BlockDisk.slot disks.pages) x.log x.control
    x.pool.pool x.validator x.count e.log e.control e.stored e.ok ends c.requires.pages.1)

pub returns-in-Ok-clause-ok : goal.returns-in-Ok-clause-ok
returns-in-Ok-clause-ok g c =
    let disks = c.args.disks in
    let x = c.in-Ok.reopened in
    let e = c.in-Ok.ensures in
    let p = c.into_parts-log.ensures in
    rw (c.of-origin.ensures, p.0, p.1, p.2)
    (is-opened c.args.pages (g.D.BlockDisk.block_count disks.log) c.args.frames
    (g.D.BlockDisk.failures disks.log) (g.D.BlockDisk.attempts disks.log + 1)
    (g.D.BlockDisk.block_count disks.control) (g.D.BlockDisk.failures disks.control)
    (g.D.BlockDisk.attempts disks.control + 1)
    (g.D.BlockDisk.block_count disks.pages) (g.D.BlockDisk.failures disks.pages)
    (g.D.BlockDisk.attempts disks.pages + 1) (g.D.BlockDisk.slot disks.pages) x.log x.control
    x.pool.pool x.validator x.count e.log e.control e.stored e.ok)

pub returns-in-Ok-clause-waiting : goal.returns-in-Ok-clause-waiting
returns-in-Ok-clause-waiting g c =
    let p = c.into_parts-log.ensures in
    rw (p.0, p.5)
    c.in-Ok.ensures.waiting

pub returns-in-Ok-clause-only : goal.returns-in-Ok-clause-only
returns-in-Ok-clause-only g c =
    let disks = c.args.disks in
    let x = c.in-Ok.reopened in
    let e = c.in-Ok.ensures in
    let p = c.into_parts-log.ensures in
    rw (p.0, p.1)
    e.only

pub returns-in-Ok-clause-warm : goal.returns-in-Ok-clause-warm
returns-in-Ok-clause-warm g c =
    let disks = c.args.disks in
    let x = c.in-Ok.reopened in
    let e = c.in-Ok.ensures in
    let p = c.into_parts-log.ensures in
    rw (c.of-origin.ensures, p.0, p.1, p.2)
    (λ n log_settled control_settled pages_settled node.
    let same = e.only n log_settled control_settled node.held in
    takes-up c.args.pages (g.D.BlockDisk.block_count disks.log) c.args.frames
    (g.D.BlockDisk.failures disks.log) (g.D.BlockDisk.attempts disks.log + 1)
    (g.D.BlockDisk.block_count disks.control) (g.D.BlockDisk.failures disks.control)
    (g.D.BlockDisk.attempts disks.control + 1)
    (g.D.BlockDisk.block_count disks.pages) (g.D.BlockDisk.failures disks.pages)
    (g.D.BlockDisk.attempts disks.pages + 1) (g.D.BlockDisk.slot disks.pages) x.log x.control
    x.pool.pool x.validator x.count e.log e.control e.stored e.ok
    n same.0 same.1 (e.warm n log_settled control_settled pages_settled node) node.taken
    node.images.listed)

pub returns-in-Err-clause-stays : goal.returns-in-Err-clause-stays
returns-in-Err-clause-stays g c n log_settled control_settled pages_settled node =
    let e = c.in-Err.ensures in
    let disks = c.args.disks in
    record {
      log_was = g.D.BlockDisk.slot disks.log;
      control_was = g.D.BlockDisk.slot disks.control;
      pages_were = g.D.BlockDisk.slot disks.pages;
      node = node;
      log_settled = log_settled;
      control_settled = control_settled;
      pages_settled = pages_settled;
      log_same = λ k lt. left_same _ _ (log_settled k) (e.back_log k lt);
      control_same = λ k lt. left_same _ _ (control_settled k)
          (e.back_control k (omega (arith, lt, c.requires.control)));
      pages_same = λ k lt. left_same _ _ (pages_settled k) (e.back_pages k lt);
    }

pub returns-in-Ok-clause-synced : goal.returns-in-Ok-clause-synced
returns-in-Ok-clause-synced g c =
    let disks = c.args.disks in
    let x = c.in-Ok.reopened in
    let e = c.in-Ok.ensures in
    let p = c.into_parts-log.ensures in
    rw (c.of-origin.ensures, p.0, p.1, p.2) (
      e.synced.0,
      λ n node.
          let same = e.synced.1 n node.held in
          takes-up c.args.pages (g.D.BlockDisk.block_count disks.log) c.args.frames
          (g.D.BlockDisk.failures disks.log) (g.D.BlockDisk.attempts disks.log + 1)
          (g.D.BlockDisk.block_count disks.control) (g.D.BlockDisk.failures disks.control)
          (g.D.BlockDisk.attempts disks.control + 1)
          (g.D.BlockDisk.block_count disks.pages) (g.D.BlockDisk.failures disks.pages)
          (g.D.BlockDisk.attempts disks.pages + 1) (g.D.BlockDisk.slot disks.pages) x.log x.control
          x.pool.pool x.validator x.count e.log e.control e.stored e.ok
          n same.0 same.1 (e.synced.2 n node) node.taken node.images.listed,
    )

pub returns-in-Ok-clause-kept : goal.returns-in-Ok-clause-kept
returns-in-Ok-clause-kept g c =
    let disks = c.args.disks in
    let x = c.in-Ok.reopened in
    let e = c.in-Ok.ensures in
    let p = c.into_parts-log.ensures in
    rw (c.of-origin.ensures, p.0, p.1, p.2) (
      e.synced.0,
      e.synced.1,
      λ n node.
          let same = e.synced.1 n node.held in
          takes-up c.args.pages (g.D.BlockDisk.block_count disks.log) c.args.frames
          (g.D.BlockDisk.failures disks.log) (g.D.BlockDisk.attempts disks.log + 1)
          (g.D.BlockDisk.block_count disks.control) (g.D.BlockDisk.failures disks.control)
          (g.D.BlockDisk.attempts disks.control + 1)
          (g.D.BlockDisk.block_count disks.pages) (g.D.BlockDisk.failures disks.pages)
          (g.D.BlockDisk.attempts disks.pages + 1) (g.D.BlockDisk.slot disks.pages) x.log x.control
          x.pool.pool x.validator x.count e.log e.control e.stored e.ok
          n same.0 same.1 (e.synced.2 n node) node.taken node.images.listed,
    )
