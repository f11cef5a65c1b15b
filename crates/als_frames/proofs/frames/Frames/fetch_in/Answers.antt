use Rattle.std.proofs.Common.{◌<◌, ◌≤◌, refl, sym, subst, arith}
use Rattle.std.proofs.lemmas.Result.{err_from_is_err_and}
use Rattle.als_disk.specs.Slot.{Slot}
use Rattle.als_page.specs.Page.{state_of}
use Rattle.als_frames.specs.Frames.{Holding, Paged, slots_from}
use Rattle.als_frames.specs.Outcomes.{IsFound, IsBadBelow, FailsToRead}
use Rattle.als_frames.proofs.SlotsLaws.{slot_at, slots_from-all}
use Rattle.als_frames.proofs.LoadLaws.{paged, same_device, same_but_failures, not_full, refused_reading, refused_fetch, past_end}
use Rattle.als_frames.proofs.frames.Frames.fetch_in.Goals as goal

pub returns-in_err-found-clause-err : goal.returns-in_err-found-clause-err
returns-in_err-found-clause-err g c =
    let p = err_from_is_err_and c.from_residual-in_err-found.result c.from_residual-in_err-found.ensures.1 in
    let f = c.self.inside in
    let slot = g.D.BlockDisk.slot f.disk in
    let disk = c.read_page.new.disk in
    let old : Paged = paged f.pages f.most f.frames.entries (slots_from 0 f.pages slot) (g.D.BlockDisk.block_count f.disk) (g.D.BlockDisk.failures f.disk) (g.D.BlockDisk.attempts f.disk) f.sure in
    let new : Paged = paged f.pages f.most f.frames.entries (slots_from 0 f.pages (g.D.BlockDisk.slot disk)) (g.D.BlockDisk.block_count disk) (g.D.BlockDisk.failures disk) (g.D.BlockDisk.attempts disk) f.sure in
    let lt : c.args.page < f.pages = subst (λ (v : Holding). c.args.page < v.paged.pages) (sym c.self.view_is) c.requires.in_range in
    let here = slot_at f.pages c.args.page slot lt in
    let e = c.in_err-found.field-0.0 in
    rw (p.1, p.2, ← c.self.view_is)
    (refused_fetch e old new c.args.page c.args.end.0 (not_full old c.args.page c.in_ok-place.place c.in_ok-place.ensures.ok)
    (refused_reading e old new c.args.page
    (same_but_failures old (slots_from 0 f.pages (g.D.BlockDisk.slot disk)) (g.D.BlockDisk.block_count disk) (g.D.BlockDisk.failures disk) (g.D.BlockDisk.attempts disk)
    (slots_from-all f.pages slot (g.D.BlockDisk.slot disk) c.read_page.ensures.same) c.read_page.ensures.count c.read_page.ensures.attempts)
    (subst (λ (s : Slot). FailsToRead e s c.args.page (g.D.BlockDisk.failures f.disk) (g.D.BlockDisk.failures disk)) (sym here) c.in_err-found.ensures.err)))

pub returns-then-end-lsn-clause-err : goal.returns-then-end-lsn-clause-err
returns-then-end-lsn-clause-err g c =
    let f = c.self.inside in
    let slot = g.D.BlockDisk.slot f.disk in
    let disk = c.read_page.new.disk in
    let old : Paged = paged f.pages f.most f.frames.entries (slots_from 0 f.pages slot) (g.D.BlockDisk.block_count f.disk) (g.D.BlockDisk.failures f.disk) (g.D.BlockDisk.attempts f.disk) f.sure in
    let lt : c.args.page < f.pages = subst (λ (v : Holding). c.args.page < v.paged.pages) (sym c.self.view_is) c.requires.in_range in
    let here = slot_at f.pages c.args.page slot lt in
    let past : c.args.end.0 ≤ (state_of c.in_ok-found.found).lsn = omega (arith, c.if-end-lsn.true, c.lsn.ensures) in
    rw (← c.self.view_is) (
      not_full old c.args.page c.in_ok-place.place c.in_ok-place.ensures.ok,
      refl,
      subst (λ (s : Slot). IsBadBelow s c.args.page c.args.end.0) (sym here) (past_end (slot c.args.page) c.args.page c.args.end.0 (state_of c.in_ok-found.found) c.in_ok-found.ensures.ok past),
      same_device old (slots_from 0 f.pages (g.D.BlockDisk.slot disk)) (g.D.BlockDisk.block_count disk) (g.D.BlockDisk.failures disk) (g.D.BlockDisk.attempts disk)
          (slots_from-all f.pages slot (g.D.BlockDisk.slot disk) c.read_page.ensures.same) c.read_page.ensures.count c.in_ok-found.ensures.done c.read_page.ensures.attempts,
    )

pub returns-clause-ok : goal.returns-clause-ok
returns-clause-ok g c =
    let f = c.self.inside in
    let slot = g.D.BlockDisk.slot f.disk in
    let old : Paged = paged f.pages f.most f.frames.entries (slots_from 0 f.pages slot) (g.D.BlockDisk.block_count f.disk) (g.D.BlockDisk.failures f.disk) (g.D.BlockDisk.attempts f.disk) f.sure in
    let lt : c.args.page < f.pages = subst (λ (v : Holding). c.args.page < v.paged.pages) (sym c.self.view_is) c.requires.in_range in
    let here = slot_at f.pages c.args.page slot lt in
    rw (← c.self.view_is) (record {
      can = not_full old c.args.page c.in_ok-place.place c.in_ok-place.ensures.ok;
      found = subst (λ (s : Slot). IsFound s c.args.page (state_of c.in_ok-found.found)) (sym here) c.in_ok-found.ensures.ok;
      below = omega (arith, c.if-end-lsn.false, c.lsn.ensures);
    })

pub returns-clause-same : goal.returns-clause-same
returns-clause-same g c =
    let f = c.self.inside in
    let slot = g.D.BlockDisk.slot f.disk in
    let disk = c.read_page.new.disk in
    let old : Paged = paged f.pages f.most f.frames.entries (slots_from 0 f.pages slot) (g.D.BlockDisk.block_count f.disk) (g.D.BlockDisk.failures f.disk) (g.D.BlockDisk.attempts f.disk) f.sure in
    rw (← c.self.view_is)
    (same_device old (slots_from 0 f.pages (g.D.BlockDisk.slot disk)) (g.D.BlockDisk.block_count disk) (g.D.BlockDisk.failures disk) (g.D.BlockDisk.attempts disk)
    (slots_from-all f.pages slot (g.D.BlockDisk.slot disk) c.read_page.ensures.same) c.read_page.ensures.count c.in_ok-found.ensures.done c.read_page.ensures.attempts)
