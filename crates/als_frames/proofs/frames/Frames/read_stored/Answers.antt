use Rattle.std.proofs.Common.{◌<◌, sym, subst}
use Rattle.std.proofs.lemmas.Result.{err_from_is_err_and}
use Rattle.als_disk.specs.Slot.{Slot}
use Rattle.als_page.specs.Page.{state_of}
use Rattle.als_frames.specs.Frames.{Holding, Paged, slots_from}
use Rattle.als_frames.specs.Outcomes.{IsFound, FailsToRead}
use Rattle.als_frames.proofs.SlotsLaws.{slot_at, slots_from-all}
use Rattle.als_frames.proofs.LoadLaws.{paged, same_but_failures, refused_reading}
use Rattle.als_frames.proofs.frames.Frames.read_stored.Goals as goal

pub returns-in_err-found-clause-err : goal.returns-in_err-found-clause-err
returns-in_err-found-clause-err g c =
    let p = err_from_is_err_and c.from_residual.result c.from_residual.ensures.1 in
    let f = c.self.inside in
    let slot = g.D.BlockDisk.slot f.disk in
    let disk = c.read_page.new.disk in
    let old : Paged = paged f.pages f.most f.frames.entries (slots_from 0 f.pages slot) (g.D.BlockDisk.block_count f.disk) (g.D.BlockDisk.failures f.disk) (g.D.BlockDisk.attempts f.disk) f.sure in
    let new : Paged = paged f.pages f.most f.frames.entries (slots_from 0 f.pages (g.D.BlockDisk.slot disk)) (g.D.BlockDisk.block_count disk) (g.D.BlockDisk.failures disk) (g.D.BlockDisk.attempts disk) f.sure in
    let lt : c.args.page < f.pages = subst (λ (v : Holding). c.args.page < v.paged.pages) (sym c.self.view_is) c.requires in
    let e = c.in_err-found.field-0.0 in
    rw (p.1, p.2, ← c.self.view_is)
    (refused_reading e old new c.args.page
    (same_but_failures old (slots_from 0 f.pages (g.D.BlockDisk.slot disk)) (g.D.BlockDisk.block_count disk) (g.D.BlockDisk.failures disk) (g.D.BlockDisk.attempts disk)
    (slots_from-all f.pages slot (g.D.BlockDisk.slot disk) c.read_page.ensures.same) c.read_page.ensures.count c.read_page.ensures.attempts)
    (subst (λ (s : Slot). FailsToRead e s c.args.page (g.D.BlockDisk.failures f.disk) (g.D.BlockDisk.failures disk)) (sym (slot_at f.pages c.args.page slot lt)) c.in_err-found.ensures.err))

pub returns-clause-ok : goal.returns-clause-ok
returns-clause-ok g c =
    let f = c.self.inside in
    let lt : c.args.page < f.pages = subst (λ (v : Holding). c.args.page < v.paged.pages) (sym c.self.view_is) c.requires in
    rw (← c.self.view_is)
    (subst (λ (s : Slot). IsFound s c.args.page (state_of c.in_ok-found.found)) (sym (slot_at f.pages c.args.page (g.D.BlockDisk.slot f.disk) lt)) c.in_ok-found.ensures.ok)
