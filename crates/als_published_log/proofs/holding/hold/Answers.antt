use Rattle.std.proofs.lemmas.Result.{err_from_is_err_and}
use Rattle.als_record.specs.Shown.{shown}
use Rattle.als_published_log.proofs.KeepingLaws.{valid_more, shown_room}
use Rattle.als_published_log.proofs.holding.hold.Goals as goal

pub returns-in_err-reserve-clause-err : goal.returns-in_err-reserve-clause-err
returns-in_err-reserve-clause-err c =
    let p = err_from_is_err_and c.from_residual-in_err-reserve.result c.from_residual-in_err-reserve.ensures.1 in
    rw (p.1) (λ pages log h. record {
      valid = h.valid;
      judged = c.reserve.ensures.kept pages log h.judged;
      shown = shown_room log 18446744073709551615 c.args.view.now c.make_room.new.self c.make_room.ensures.same h.shown;
    })

pub returns-clause-ok : goal.returns-clause-ok
returns-clause-ok c pages log fits at h =
    let r = shown c.args.logged.now in
    let good = c.in_ok-judge.ensures pages log h.judged h.valid fits in
    let next = valid_more pages log r h.valid fits at good in
    let found = c.in-Ok.ensures.ok pages log h.judged h.valid fits at good in
    record {
      valid = next;
      judged = c.admit.ensures.kept pages log (c.reserve.ensures.kept pages log h.judged) next;
      shown = c.take.ensures.shows log r 18446744073709551615 found
          (shown_room log 18446744073709551615 c.args.view.now c.make_room.new.self c.make_room.ensures.same h.shown);
    }
