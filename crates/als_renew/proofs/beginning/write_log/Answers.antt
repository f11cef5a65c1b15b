use Rattle.std.proofs.Common.{◌≤◌, ◌^◌, ◌++◌, arith}
use Rattle.als_record.specs.LogText.{end_of}
use Rattle.als_renew.specs.Carried.{carried}
use Rattle.als_renew.proofs.Written.{now-pages, of-pages, may-carry, goes-on, few-open, begun}
use Rattle.als_renew.proofs.beginning.write_log.Goals as goal

pub returns-clause-ok : goal.returns-clause-ok
returns-clause-ok g c held is l are above number =
    let pages = c.args.seen.now.pages in
    let ds = c.args.doubts.now in
    let old = g.W.Write.contents c.args.writer.now in
    let s = c.in_ok-pages.ensures.ok held is in
    let p = of-pages pages held s.log s.below in
    let w = c.in_ok-carried.ensures.ok pages s.log old s.below.valid.valid (may-carry pages held s.log ds l p are above) (now-pages pages held s.log c.args.seen.now is s.below) s.ends s.greatest_is s.written in
    let room : end_of (s.log ++ carried s.log ds) ≤ 2 ^ 64 = omega (arith, w.ends) in
    begun pages held s.log ds l s.is p are above c.requires.few c.args.number.0 c.in_ok-end.end.0 old (g.W.Write.contents c.write_doubts.new.writer) (g.W.Write.contents c.write_number.new.writer)
    number (omega arith) room (omega arith) w.written
    (c.in_ok-end.ensures.ok (s.log ++ carried s.log ds) (goes-on pages held s.log ds l s.is p are above c.requires.few room).valid.valid (few-open pages held s.log ds l s.is p are above c.requires.few room) w.ends w.greatest_is)
