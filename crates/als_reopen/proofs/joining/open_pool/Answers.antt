use Rattle.std.proofs.Common.{List, sym, subst}
use Rattle.als_record.specs.declared.lsn.Lsn.{Lsn}
use Rattle.als_record.specs.declared.rows.LoggedPage.{LoggedPage}
use Rattle.als_pool.specs.Restart.{HoldsImagesFrom}
use Rattle.als_reopen.specs.Node.{position_of}
use Rattle.als_reopen.proofs.joining.open_pool.Goals as goal

pub returns-in-Ok-clause-images : goal.returns-in-Ok-clause-images
returns-in-Ok-clause-images g c whole below h =
    let slots = g.D.BlockDisk.slot c.args.disk in
    let pages = c.args.pages in
    let rows = subst (λ (rs : List LoggedPage). HoldsImagesFrom whole below pages (position_of c.args.checkpoint.now) rs slots) (sym c.rows_of.ensures) h in
    c.in-Ok.ensures.holds whole below (subst (λ (p : Lsn). HoldsImagesFrom whole below pages p c.rows_of.result.now slots) (sym c.position_of.ensures) rows)
