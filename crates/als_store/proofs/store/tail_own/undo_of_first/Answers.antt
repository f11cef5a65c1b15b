use Rattle.std.proofs.Common.{◌≡◌, ◌<◌, ℕ, length, get_or, true, Option, Some, sym, ap, arith, ◌∙◌}
use Rattle.std.proofs.lemmas.Bool.{false≢true}
use Rattle.als_record.specs.declared.record.Body.{Body}
use Rattle.als_record.specs.declared.record.Record.{Record}
use Rattle.als_record.specs.Transactions.{unended, is_unended}
use Rattle.als_analysis.specs.Open.{fresh_open}
use Rattle.als_takeover.specs.Next.{undoing, IsNewest}
use Rattle.als_takeover.proofs.Next.{first-none, first-undo}
use Rattle.als_store.specs.TailOwn.{IsBestAt}
use Rattle.als_store.proofs.WritingLaws.{rows-counted}
use Rattle.als_store.proofs.TailOwnLaws.{row-at, open-at, not-nothing, none-best, newest-best}
use Rattle.als_store.proofs.store.tail_own.undo_of_first.Goals as goal

pub returns-in-None : goal.returns-in-None
returns-in-None c pages log judged h =
    let rows = c.args.rows.now in
    first-none log rows h.table h.left h.small c.args.end.0 h.at_end h.none_over
    (none-best log rows h.table (c.in-None.ensures.best pages log judged h.table))

pub returns-in-None-newest_of : goal.returns-in-None-newest_of
returns-in-None-newest_of c pages log judged h =
    let rows = c.args.rows.now in
    let ts = unended log in
    let place = c.in-Some.place in
    let t : ℕ = get_or ts place 0 in
    let b : IsBestAt log ts (length rows) place = c.in-Some.ensures.best pages log judged h.table in
    let low : place < length rows = b.within in
    let n : length rows ≡ length ts = rows-counted log rows h.table in
    let there : is_unended log t ≡ true = open-at log place (omega (arith, low, n)) in
    absurd (false≢true (sym (not-nothing (undoing log t) b.update b.rest (c.in-None-newest_of.ensures pages log t judged there (row-at log rows h.table place _ low)) b.newest)))

pub returns-in-Some-newest_of : goal.returns-in-Some-newest_of
returns-in-Some-newest_of c pages log judged h =
    let rows = c.args.rows.now in
    let ts = unended log in
    let place = c.in-Some.place in
    let t : ℕ = get_or ts place 0 in
    let u = c.in-Some-newest_of.update.now in
    let b : IsBestAt log ts (length rows) place = c.in-Some.ensures.best pages log judged h.table in
    let low : place < length rows = b.within in
    let n : length rows ≡ length ts = rows-counted log rows h.table in
    let there : is_unended log t ≡ true = open-at log place (omega (arith, low, n)) in
    let newest : IsNewest log ts place u = newest-best log rows h.table place u b (c.in-Some-newest_of.ensures pages log t judged there (row-at log rows h.table place _ low)) in
    ap (λ (r : Record). let found : Option Record = Some r in found) c.record_of.ensures
    ∙ ap (λ (b : Body). let found : Option Record = Some (record {
      lsn = c.args.end;
      prev = (get_or rows place (fresh_open 0)).row.last;
      trans = (get_or rows place (fresh_open 0)).row.trans;
      body = b;
    }) in found) c.undone_by.ensures
    ∙ first-undo log rows h.table h.left h.small c.args.end.0 h.at_end h.none_over h.valid place (fresh_open 0) u newest
