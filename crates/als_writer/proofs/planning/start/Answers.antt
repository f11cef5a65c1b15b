use Rattle.std.proofs.Common.{◌≡◌, ℕ, ◌+◌, ◌*◌, ◌<◌, true, length, sym, ap, ◌∙◌, arith}
use Rattle.als_record.specs.LogText.{end_of}
use Rattle.als_record.specs.Transactions.{unended, greatest_trans}
use Rattle.als_record.specs.Tail.{reserve_of}
use Rattle.als_writing.specs.Writing.{room_for, is_new}
use Rattle.als_writer.proofs.Starting.{is_new-next}
use Rattle.als_writer.proofs.planning.start.Goals as goal

pub returns-clause-start : goal.returns-clause-start
returns-clause-start g c a befores apart =
    let m = g.E.Events.machine c.args.engine.now in
    let log = m.held.log in
    let st = c.status.ensures.stands a in
    let te = c.status.ensures.tells a in
    let wr = c.writing-now.ensures.writing a in
    let greatest : c.writing-now.result.greatest.0 ≡ greatest_trans log = wr.greatest in
    let t : ℕ = c.first.result.trans.0 in
    let is : t ≡ c.writing-now.result.greatest.0 + 1 = ap (λ x. x.0) c.first.ensures.trans in
    let number : t ≡ greatest_trans log + 1 = omega (arith, is, greatest) in
    let some' : c.writing-now.result.unended ≡ length (unended log) = wr.unended in
    let few : length (unended log) < 256 = omega (arith, some', c.if-now-ge-TRANSACTION_LIMIT.false) in
    let new : is_new log t ≡ true = is_new-next log t number few in
    let free : end_of log + reserve_of log + c.writing-now.result.free ≡ 512 * m.held.blocks = wr.free in
    let needed : c.room.result ≡ room_for log t c.args.sets.now = c.room.ensures.room log t befores apart in
    let at : c.status.result.end.0 ≡ end_of log = te.end in
    record {
      valid = st.log;
      number = number;
      width = omega (arith, is);
      new = new;
      behind = c.first.ensures.place log st.log.valid at (ap (λ x. is_new log x) (sym is) ∙ new);
      fits = omega (arith, free, needed, c.if-now-room.false);
    }
