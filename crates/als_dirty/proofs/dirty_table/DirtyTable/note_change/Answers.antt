use Rattle.std.proofs.Common.{◌≡◌, ◌<◌, length, ap, sym, ◌∙◌}
use Rattle.als_record.specs.declared.lsn.Lsn.{Lsn}
use Rattle.als_dirty.specs.declared.dirty_page.DirtyPage.{DirtyPage}
use Rattle.als_dirty.specs.Entries.{entry_of, after_record}
use Rattle.als_dirty.proofs.TableSteps.{entry_at, routed_kept}
use Rattle.als_dirty.proofs.dirty_table.DirtyTable.note_change.Goals as goal

pub returns-clause-kept : goal.returns-clause-kept
returns-clause-kept c =
    let pages = c.self.inside.pages.items in
    let inside : c.args.page < length pages = rw c.self.view_is c.requires in
    let there : entry_of pages c.args.page ≡ c.index_mut.result.now = entry_at pages c.args.page c.index_mut.result.now inside c.index_mut.ensures.value in
    rw (← c.self.view_is) (λ log r change synced written h at is on lsn.
    routed_kept log r change synced written pages c.args.page c.note_change.new.self inside h at is on
    (c.note_change.ensures ∙ ap (λ (e : DirtyPage). after_record e c.args.lsn) (sym there) ∙ ap (λ (n : Lsn). after_record (entry_of pages c.args.page) n) (sym lsn)))
