use Rattle.std.proofs.Common.{ap}
use Rattle.als_record.specs.Shown.{shown}
use Rattle.als_record.specs.Table.{fresh_row}
use Rattle.als_analysis.specs.Noted.{Table}
use Rattle.als_analysis.proofs.ReserveAfter.{place}
use Rattle.als_analysis.proofs.EntrySteps.{kept-more, rows-more, left-more, bytes-more}
use Rattle.als_analysis.proofs.trans_table.TransTable.extend.Goals as goal

pub invariant_of-self : goal.invariant_of-self
invariant_of-self c =
    let xs = c.self.inside.entries.items in
    let lt = place xs c.args.self.now c.args.at (ap (λ (t : Table). t.rows) c.self.view_is) c.requires.within in
    kept-more xs c.args.at c.index_mut-entry.result.now c.extend.new.self (shown c.args.logged.now) lt c.index_mut-entry.ensures.value c.extend.ensures
    c.self.inside.reserve c.self.inside.entries.cap c.owed-before.result c.owed-after.result c.self.invariant c.owed-before.ensures c.owed-after.ensures

pub returns-clause-rows : goal.returns-clause-rows
returns-clause-rows c d =
    let xs = c.self.inside.entries.items in
    let rows = ap (λ (t : Table). t.rows) c.self.view_is in
    let lt = place xs c.args.self.now c.args.at rows c.requires.within in
    rows-more xs c.args.at c.index_mut-entry.result.now c.extend.new.self (shown c.args.logged.now) lt c.index_mut-entry.ensures.value c.extend.ensures c.args.self.now d 0 rows

pub returns-clause-left : goal.returns-clause-left
returns-clause-left c d =
    let xs = c.self.inside.entries.items in
    let lt = place xs c.args.self.now c.args.at (ap (λ (t : Table). t.rows) c.self.view_is) c.requires.within in
    left-more xs c.args.at c.index_mut-entry.result.now c.extend.new.self (shown c.args.logged.now) lt c.index_mut-entry.ensures.value c.extend.ensures c.args.self.now (fresh_row 0) d (ap (λ (t : Table). t.left) c.self.view_is)

pub returns-clause-bytes : goal.returns-clause-bytes
returns-clause-bytes c d =
    let xs = c.self.inside.entries.items in
    let lt = place xs c.args.self.now c.args.at (ap (λ (t : Table). t.rows) c.self.view_is) c.requires.within in
    bytes-more xs c.args.at c.index_mut-entry.result.now c.extend.new.self (shown c.args.logged.now) lt c.index_mut-entry.ensures.value c.extend.ensures c.args.self.now (fresh_row 0) d (ap (λ (t : Table). t.bytes) c.self.view_is)
