use Rattle.std.proofs.Common.{◌≡◌, ℕ, ◌+◌, sym, subst, arith}
use Rattle.als_reopen.specs.Node.{Node, HoldsLog, IsNode}
use Rattle.als_reopen.specs.Outcomes.{Synced}
use Rattle.als_reopen.specs.Reading.{CountsLog}
use Rattle.als_reopen.specs.Refusing.{MeetsFirst}
use Rattle.als_reopen.proofs.Devices.{settles}
use Rattle.als_reopen.proofs.Nodes.{holds_left, holds_synced, node_synced, refuses, bare_or}
use Rattle.als_reopen.proofs.Refusals.{first_left}
use Rattle.als_reopen.proofs.reopening.reopen.Goals as goal

pub read_back-requires-clause-settled_log : goal.read_back-requires-clause-settled_log
read_back-requires-clause-settled_log g c = settles (g.D.BlockDisk.slot c.args.disks.log) (g.D.BlockDisk.slot c.sync_all.new.disks.log) c.in-Ok.ensures.log

pub read_back-requires-clause-settled_control : goal.read_back-requires-clause-settled_control
read_back-requires-clause-settled_control g c = settles (g.D.BlockDisk.slot c.args.disks.control) (g.D.BlockDisk.slot c.sync_all.new.disks.control) c.in-Ok.ensures.control

pub returns-in-Ok-read_back-clause-only : goal.returns-in-Ok-read_back-clause-only
returns-in-Ok-read_back-clause-only g c n settled settled_control h =
    let old = c.args.disks in
    let new = c.sync_all.new.disks in
    c.in-Ok-read_back.ensures.only n
    (holds_synced c.args.pages (g.D.BlockDisk.block_count old.log) (g.D.BlockDisk.block_count new.log) (g.D.BlockDisk.slot old.log) (g.D.BlockDisk.slot new.log) (g.D.BlockDisk.slot old.control) (g.D.BlockDisk.slot new.control) n
    c.sync_all.ensures.counts.0 settled settled_control c.in-Ok.ensures.log c.in-Ok.ensures.control h)

pub returns-in-Ok-read_back-clause-warm : goal.returns-in-Ok-read_back-clause-warm
returns-in-Ok-read_back-clause-warm g c n settled settled_control settled_pages h =
    let old = c.args.disks in
    let new = c.sync_all.new.disks in
    c.in-Ok-read_back.ensures.warm n
    (node_synced c.args.pages (g.D.BlockDisk.block_count old.log) (g.D.BlockDisk.block_count new.log) (g.D.BlockDisk.slot old.log) (g.D.BlockDisk.slot new.log) (g.D.BlockDisk.slot old.control) (g.D.BlockDisk.slot new.control)
    (g.D.BlockDisk.slot old.pages) (g.D.BlockDisk.slot new.pages) n c.sync_all.ensures.counts.0 settled settled_control settled_pages c.in-Ok.ensures.log c.in-Ok.ensures.control c.in-Ok.ensures.pages h)

pub returns-in-Err-read_back-clause-bare : goal.returns-in-Err-read_back-clause-bare
returns-in-Err-read_back-clause-bare g c n settled settled_control h =
    let old = c.args.disks in
    let new = c.sync_all.new.disks in
    c.in-Err-read_back.ensures.bare n
    (holds_synced c.args.pages (g.D.BlockDisk.block_count old.log) (g.D.BlockDisk.block_count new.log) (g.D.BlockDisk.slot old.log) (g.D.BlockDisk.slot new.log) (g.D.BlockDisk.slot old.control) (g.D.BlockDisk.slot new.control) n
    c.sync_all.ensures.counts.0 settled settled_control c.in-Ok.ensures.log c.in-Ok.ensures.control h)

pub returns-in-Err-read_back-clause-err : goal.returns-in-Err-read_back-clause-err
returns-in-Err-read_back-clause-err g c =
    let old = c.args.disks in
    let new = c.sync_all.new.disks in
    let left = c.in-Err-read_back.unread.disks in
    let fault = c.in-Err-read_back.unread.fault in
    let pages = c.args.pages in
    let blocks = g.D.BlockDisk.block_count old.log in
    let log = g.D.BlockDisk.slot left.log in
    let control = g.D.BlockDisk.slot left.control in
    let before = g.D.BlockDisk.failures old.log + g.D.BlockDisk.failures old.control + g.D.BlockDisk.failures old.pages in
    let mid = g.D.BlockDisk.failures new.log + g.D.BlockDisk.failures new.control + g.D.BlockDisk.failures new.pages in
    let now = g.D.BlockDisk.failures left.log + g.D.BlockDisk.failures left.control + g.D.BlockDisk.failures left.pages in
    let done = c.in-Ok.ensures.done in
    let same : mid ≡ before = omega (arith, done.0, done.1, done.2) in
    let counts = subst (λ (n : ℕ). CountsLog fault n now) same c.in-Err-read_back.ensures.failures in
    refuses fault pages blocks log control before now counts
    (λ n h.
    let counted : HoldsLog pages (g.D.BlockDisk.block_count new.log) log control n = subst (λ (k : ℕ). HoldsLog pages k log control n) (sym c.sync_all.ensures.counts.0) h in
    c.in-Err-read_back.ensures.bare n
    (holds_left pages (g.D.BlockDisk.block_count new.log) (g.D.BlockDisk.slot new.log) log (g.D.BlockDisk.slot new.control) control n c.in-Err-read_back.ensures.left_log.same c.in-Err-read_back.ensures.left_control.0 counted))
    (subst (λ (k : ℕ). MeetsFirst fault pages k log control) c.sync_all.ensures.counts.0
    (first_left fault pages (g.D.BlockDisk.block_count new.log) (g.D.BlockDisk.slot new.log) log (g.D.BlockDisk.slot new.control) control c.in-Err-read_back.ensures.left_log.same c.in-Err-read_back.ensures.left_control.0
    c.in-Err-read_back.ensures.first))

pub returns-in-Ok-read_back-clause-synced : goal.returns-in-Ok-read_back-clause-synced
returns-in-Ok-read_back-clause-synced g c =
    let old = c.args.disks in
    let new = c.sync_all.new.disks in
    let log = g.D.BlockDisk.slot new.log in
    let control = g.D.BlockDisk.slot new.control in
    let page_slots = g.D.BlockDisk.slot new.pages in
    let kept : Synced (g.D.BlockDisk.slot old.log) (g.D.BlockDisk.slot old.control) (g.D.BlockDisk.slot old.pages)
    = record { log_now = log; control_now = control; pages_now = page_slots; log_kept = c.in-Ok.ensures.log; control_kept = c.in-Ok.ensures.control; pages_kept = c.in-Ok.ensures.pages } in
    let count = sym c.sync_all.ensures.counts.0 in (
      kept,
      (λ n h. c.in-Ok-read_back.ensures.only n (subst (λ (k : ℕ). HoldsLog c.args.pages k log control n) count h)),
      (λ n h. c.in-Ok-read_back.ensures.warm n (subst (λ (k : ℕ). IsNode c.args.pages k log control page_slots n) count h)),
    )

pub returns-in-Err-read_back-clause-unsynced : goal.returns-in-Err-read_back-clause-unsynced
returns-in-Err-read_back-clause-unsynced g c =
    let old = c.args.disks in
    let new = c.sync_all.new.disks in
    let log = g.D.BlockDisk.slot new.log in
    let control = g.D.BlockDisk.slot new.control in
    let kept : Synced (g.D.BlockDisk.slot old.log) (g.D.BlockDisk.slot old.control) (g.D.BlockDisk.slot old.pages)
    = record { log_now = log; control_now = control; pages_now = g.D.BlockDisk.slot new.pages; log_kept = c.in-Ok.ensures.log; control_kept = c.in-Ok.ensures.control; pages_kept = c.in-Ok.ensures.pages } in
    let count = sym c.sync_all.ensures.counts.0 in
    bare_or c.in-Err-read_back.unread.fault kept
    (λ (k : Synced (g.D.BlockDisk.slot old.log) (g.D.BlockDisk.slot old.control) (g.D.BlockDisk.slot old.pages)). λ (n : Node). HoldsLog c.args.pages (g.D.BlockDisk.block_count old.log) k.log_now k.control_now n)
    (λ n h. c.in-Err-read_back.ensures.bare n (subst (λ (k : ℕ). HoldsLog c.args.pages k log control n) count h))
