use Rattle.std.proofs.Common.{arith, ◌≤◌, length}
use Rattle.std.proofs.lemmas.Result.{err_from_is_err_and}
use Rattle.als_sending.proofs.Admitting.{part_read}
use Rattle.als_sending.proofs.stepping.send.Goals as goal

pub returns-in_err-write_data-clause-part : goal.returns-in_err-write_data-clause-part
returns-in_err-write_data-clause-part g c =
    let few : length c.read_at.new.buf ≤ 65536 = omega arith in
    let found = part_read c.args.epoch c.args.at c.read_at.new.buf (g.G.Growing.reads c.args.log.now) (g.G.Growing.reads c.read_at.new.self) (g.W.Write.contents c.args.writer.now) (g.W.Write.contents c.write_data.new.writer) few c.in_ok-read_at.ensures.read c.write_data.ensures.part in
    let p = err_from_is_err_and c.from_residual-in_err-write_data.result c.from_residual-in_err-write_data.ensures.1 in rw (p.1) found
