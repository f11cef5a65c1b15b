use Rattle.std.proofs.Common.{ap, set}
use Rattle.als_record.specs.Shown.{shown}
use Rattle.als_record.specs.Table.{fresh_row}
use Rattle.als_analysis.specs.Open.{rows_of, left_of, bytes_of}
use Rattle.als_analysis.specs.Noted.{Table}
use Rattle.als_analysis.proofs.ReserveAfter.{place}
use Rattle.als_analysis.proofs.LogSteps.{step-more}
use Rattle.als_analysis.proofs.EntrySteps.{update-own, update-no_end, trans-standing, kept-more, rows-more, left-more, bytes-more}
use Rattle.als_analysis.proofs.trans_table.TransTable.note_update.Goals as goal

pub invariant_of-self : goal.invariant_of-self
invariant_of-self c =
    let xs = c.self.inside.entries.items in
    let lt = place xs c.args.self.now c.args.at (ap (λ (t : Table). t.rows) c.self.view_is) c.requires.within in
    kept-more xs c.args.at c.index_mut-entry.result.now c.update.new.self (shown c.args.logged.now) lt c.index_mut-entry.ensures.value c.update.ensures
    c.self.inside.reserve c.self.inside.entries.cap c.owed-had.result c.owed-has.result c.self.invariant c.owed-had.ensures c.owed-has.ensures

pub returns : goal.returns
returns c log h m stands =
    let xs = c.self.inside.entries.items in
    let old = c.args.self.now in
    let i = c.args.at in
    let r = shown c.args.logged.now in
    let d = fresh_row 0 in
    let e = c.index_mut-entry.result.now in
    let o = c.update.new.self in
    let rows = ap (λ (t : Table). t.rows) c.self.view_is in
    let lt = place xs old i rows c.requires.within in
    let ys = set xs i o in
    let new : Table = record { rows = rows_of ys; left = left_of ys; bytes = bytes_of ys } in
    step-more log r old new h (update-own r.body c.requires.kind) m i d c.requires.within (trans-standing log old i r.trans.0 d h stands) (update-no_end r.body c.requires.kind)
    (rows-more xs i e o r lt c.index_mut-entry.ensures.value c.update.ensures old d 0 rows)
    (left-more xs i e o r lt c.index_mut-entry.ensures.value c.update.ensures old d 0 (ap (λ (t : Table). t.left) c.self.view_is))
    (bytes-more xs i e o r lt c.index_mut-entry.ensures.value c.update.ensures old d 0 (ap (λ (t : Table). t.bytes) c.self.view_is))
