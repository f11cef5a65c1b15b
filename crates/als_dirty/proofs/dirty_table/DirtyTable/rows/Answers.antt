use Rattle.std.proofs.Common.{◌≡◌, ◌<◌, ◌∙◌, length, arith}
use Rattle.als_dirty.specs.Entries.{entry_of}
use Rattle.als_dirty.proofs.TableSteps.{entry_at}
use Rattle.als_dirty.proofs.RowLists.{front_some, front_none, none_from}
use Rattle.als_dirty.proofs.dirty_table.DirtyTable.rows.Goals as goal
use Rattle.als_dirty.proofs.dirty_table.DirtyTable.rows.Goals.{in-Some+in_ok-push, in_default}

pub loop-page-preserved : goal.loop-page-preserved
loop-page-preserved c =
    let pages = c.self.inside.pages.items in
    let page = c.loop-page.page in
    let inside : page < length pages = omega (arith, c.len-page-end.ensures, c.loop-page-test.true) in
    let there : entry_of pages page ≡ c.index.result.now = entry_at pages page c.index.result.now inside c.index.ensures in
    elim c.match-index.branch [
      | in-Some+in_ok-push w ↦
          front_some pages page c.index.result.now c.loop-page.rows c.match-index.rows w.in-Some.rec_lsn inside there w.in-Some.is (w.rows-is ∙ w.in_ok-push.ensures.ok) c.loop-page.invariant
      | in_default w ↦
          front_none pages page c.index.result.now c.loop-page.rows c.match-index.rows inside there (none_from c.index.result.now.synced w.in_default.not-Some) w.rows-is c.loop-page.invariant
    ]
