use Rattle.std.proofs.Common.{◌≡◌, ℕ, ◌+◌, ◌*◌, ◌<◌, ◌≤◌, true, List, ◌++◌, length, take, sym, subst, ◌∙◌, arith}
use Rattle.std.proofs.lemmas.Result.{err_from_is_err_and}
use Rattle.std.specs.List.{AllByRecursion}
use Rattle.als_record.specs.declared.record.Record.{Record as AnyRecord}
use Rattle.als_record.specs.Tail.{reserve_of}
use Rattle.als_record.specs.LogText.{spellings, end_of}
use Rattle.als_record.specs.Spelling.{Image, IsKey, IsImage}
use Rattle.als_record.specs.Commits.{Write}
use Rattle.als_writing.specs.Writing.{updates, room_for, is_free}
use Rattle.als_writing.proofs.Going.{IsNew-is_new}
use Rattle.als_writer.specs.declared.closing.Closing.{Closing}
use Rattle.als_writer.specs.Closing.{records_for}
use Rattle.als_writer.specs.declared.ask.Ask.{Ask}
use Rattle.als_writer.specs.declared.unmet.Unmet.{Unmet}
use Rattle.als_writer.specs.Asking.{AreFreeNow, unmet_by}
use Rattle.als_writer.specs.Checking.{AreApart, AreAskedIn}
use Rattle.als_writer.specs.Placing.{AreBefores}
use Rattle.als_writer.specs.Planning.{IsStart}
use Rattle.als_writer.proofs.Looking.{start_shown, start_unmet}
use Rattle.als_writer.proofs.Collecting.{none_shown, some_shown, all_asked, are_unmet, are_failing}
use Rattle.als_writer.proofs.Fitting.{all_writes}
use Rattle.als_writer.proofs.planning.make_plan.Goals as goal

pub returns-then-not-is_empty-clause-refused : goal.returns-then-not-is_empty-clause-refused
returns-then-not-is_empty-clause-refused g c a =
    let log : List AnyRecord = (g.E.Events.machine c.args.engine.now).held.log in
    let failing : List Unmet = c.in_ok-failing.failing in
    let first : failing ≡ take 8 (unmet_by c.args.changes.now log c.args.transaction.now.asks.items) =
    subst (λ (asks : List Ask). failing ≡ take 8 (unmet_by c.args.changes.now log asks)) c.deref.ensures.value (c.in_ok-failing.ensures.first a) in
    are_unmet c.args.changes.now log c.args.transaction.now.asks.items failing (some_shown failing (sym c.is_empty.ensures ∙ c.if-not-is_empty.true)) first

pub returns-then-not-is_empty-clause-shown : goal.returns-then-not-is_empty-clause-shown
returns-then-not-is_empty-clause-shown g c a bounds =
    let m = g.E.Events.machine c.args.engine.now in
    let log : List AnyRecord = m.held.log in
    let failing : List Unmet = c.in_ok-failing.failing in
    let first : failing ≡ take 8 (unmet_by c.args.changes.now log c.args.transaction.now.asks.items) =
    subst (λ (asks : List Ask). failing ≡ take 8 (unmet_by c.args.changes.now log asks)) c.deref.ensures.value (c.in_ok-failing.ensures.first a) in
    let keys : AreAskedIn m.held.pages c.args.transaction.now.asks.items = subst (λ (n : ℕ). AreAskedIn n c.args.transaction.now.asks.items) (c.pages.ensures.pages a) c.in_default.ensures.asked in
    are_failing c.args.changes.now m.held.pages log c.args.transaction.now.asks.items failing bounds keys first

pub returns-in-Ok-clause-asked : goal.returns-in-Ok-clause-asked
returns-in-Ok-clause-asked g c a bounds =
    let m = g.E.Events.machine c.args.engine.now in
    let log : List AnyRecord = m.held.log in
    let failing : List Unmet = c.in_ok-failing.failing in
    let first : failing ≡ take 8 (unmet_by c.args.changes.now log c.args.transaction.now.asks.items) =
    subst (λ (asks : List Ask). failing ≡ take 8 (unmet_by c.args.changes.now log asks)) c.deref.ensures.value (c.in_ok-failing.ensures.first a) in
    let keys : AreAskedIn m.held.pages c.args.transaction.now.asks.items = subst (λ (n : ℕ). AreAskedIn n c.args.transaction.now.asks.items) (c.pages.ensures.pages a) c.in_default.ensures.asked in
    all_asked c.args.changes.now m.held.pages log c.args.transaction.now.asks.items failing bounds keys first (none_shown failing (sym c.is_empty.ensures ∙ c.if-not-is_empty.false))

pub returns-then-not-is_empty-clause-unmet : goal.returns-then-not-is_empty-clause-unmet
returns-then-not-is_empty-clause-unmet g c a =
    let log : List AnyRecord = (g.E.Events.machine c.args.engine.now).held.log in
    let failing : List Unmet = c.in_ok-failing.failing in
    subst (λ (asks : List Ask). failing ≡ take 8 (unmet_by c.args.changes.now log asks)) c.deref.ensures.value (c.in_ok-failing.ensures.first a)

pub returns-in_err-place-clause-unmet : goal.returns-in_err-place-clause-unmet
returns-in_err-place-clause-unmet g c =
    let p = err_from_is_err_and c.from_residual-in_err-place.result c.from_residual-in_err-place.ensures.1 in
    rw (p.1, p.2) (λ a.
    let m = g.E.Events.machine c.args.engine.now in
    let ss : List Write = c.as_slice-sets.result.now in
    let apart : AreApart ss = subst AreApart (sym c.as_slice-sets.ensures.value) c.in_default.ensures.apart in
    let free : AreFreeNow m ss c.in_ok-befores.befores.items = c.in_ok-befores.ensures.now a in
    let now : AreBefores m.held.log ss c.deref-2.result.now = subst (λ (bs : List Image). AreBefores m.held.log ss bs) (sym c.deref-2.ensures.value) free.now in
    start_unmet c.extra.result m ss c.args.changes.now m.held.log c.args.transaction.now.asks.items c.in_err-place.field-0.0 (c.in_err-place.ensures.refused a now apart))

pub returns-in_err-place-clause-shown : goal.returns-in_err-place-clause-shown
returns-in_err-place-clause-shown g c =
    let p = err_from_is_err_and c.from_residual-in_err-place.result c.from_residual-in_err-place.ensures.1 in
    rw (p.1, p.2) (λ a bounds.
    let m = g.E.Events.machine c.args.engine.now in
    let ss : List Write = c.as_slice-sets.result.now in
    let apart : AreApart ss = subst AreApart (sym c.as_slice-sets.ensures.value) c.in_default.ensures.apart in
    let free : AreFreeNow m ss c.in_ok-befores.befores.items = c.in_ok-befores.ensures.now a in
    let now : AreBefores m.held.log ss c.deref-2.result.now = subst (λ (bs : List Image). AreBefores m.held.log ss bs) (sym c.deref-2.ensures.value) free.now in
    start_shown c.extra.result m ss m.held.log c.args.transaction.now.asks.items c.in_err-place.field-0.0 (c.in_err-place.ensures.refused a now apart))

pub returns-in-Ok-clause-planned : goal.returns-in-Ok-clause-planned
returns-in-Ok-clause-planned g c a =
    let m = g.E.Events.machine c.args.engine.now in
    let by : Closing = c.args.closing in
    let log : List AnyRecord = m.held.log in
    let ws : List Write = c.args.transaction.now.sets.items in
    let ss : List Write = c.as_slice-sets.result.now in
    let vs : ss ≡ ws = c.as_slice-sets.ensures.value in
    let sound = c.in_default.ensures in
    let apart : AreApart ss = subst AreApart (sym vs) sound.apart in
    let free : AreFreeNow m ss c.in_ok-befores.befores.items = c.in_ok-befores.ensures.now a in
    let now : AreBefores log ss c.deref-2.result.now = subst (λ (bs : List Image). AreBefores log ss bs) (sym c.deref-2.ensures.value) free.now in
    let again : AreBefores log ss c.deref-3.result.now = subst (λ (bs : List Image). AreBefores log ss bs) (sym c.deref-3.ensures.value) free.now in
    let place = c.in_ok-place.place in
    let start : IsStart m c.extra.result ss place = c.in_ok-place.ensures.start a now apart in
    let t : ℕ = place.trans.0 in
    let begun = (IsNew-is_new log t start.valid.valid start.new).begun in
    let e : c.in-Ok.spelled.end.0 ≡ end_of (log ++ records_for by log t ss) = c.in-Ok.ensures.end log start.behind again apart in
    let end : c.in-Ok.spelled.end.0 ≡ end_of (log ++ records_for by log t ws) = subst (λ (x : List Write). c.in-Ok.spelled.end.0 ≡ end_of (log ++ records_for by log t x)) vs e in
    let takes : 0 < length ss = subst (λ (x : List Write). 0 < length x) (sym vs) sound.some in
    let free_ws : AllByRecursion (λ w. is_free log t w.key ≡ true) ws = subst (AllByRecursion (λ w. is_free log t w.key ≡ true)) vs (all_writes (λ w. is_free log t w.key ≡ true) ss (free.free t begun)) in
    let images_ws : AllByRecursion (λ w. IsImage w.after) ws = subst (AllByRecursion (λ w. IsImage w.after)) vs (all_writes (λ w. IsImage w.after) ss c.in_ok-place.ensures.images) in
    let pages : c.pages.result ≡ m.held.pages = c.pages.ensures.pages a in
    let keys_ws : AllByRecursion (λ w. IsKey m.held.pages w.key) ws = subst (λ (n : ℕ). AllByRecursion (λ w. IsKey n w.key) ws) pages (all_writes (λ w. IsKey c.pages.result w.key) ws sound.keys) in
    record {
      takes = free.takes takes;
      tidy = c.in_ok-check_tidy.ensures.tidy a;
      some = sound.some;
      valid = start.valid;
      number = start.number;
      may = record { new = start.new; width = start.width; free = free_ws; keys = keys_ws; images = images_ws };
      fits = subst (λ (e : ℕ). end_of log + reserve_of log + room_for log t ws + e ≤ 512 * m.held.blocks) c.extra.ensures (subst (λ (x : List Write). end_of log + reserve_of log + room_for log t x + c.extra.result ≤ 512 * m.held.blocks) vs start.fits);
      short = omega (arith, end);
      spelled = subst (λ (x : List Write). c.in-Ok.spelled.piece.items ≡ spellings (records_for by log t x)) vs (c.in-Ok.ensures.piece log start.behind again apart);
      lsn = subst (λ (x : List Write). c.in-Ok.spelled.lsn.0 ≡ end_of (log ++ updates log t x)) vs (c.in-Ok.ensures.lsn log start.behind again apart);
      end = end;
    }
