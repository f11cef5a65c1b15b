use Rattle.std.proofs.Common.{◌≡◌, rules, length, subst}
use Rattle.als_wire.specs.Frames.{head_bytes}
use Rattle.als_wire.specs.Sending.{Puts}
use Rattle.als_wire.proofs.Putting.{puts_first, puts_both}
use Rattle.als_wire.proofs.writing.write_data.Goals as goal

pub returns-in_err-put-clause-part : goal.returns-in_err-put-clause-part
returns-in_err-put-clause-part g c =
    let old = g.W.Write.contents c.args.writer.now in
    let new = g.W.Write.contents c.put.new.writer in
    let head : c.head.result ≡ head_bytes c.args.epoch c.args.offset (length c.args.bytes.now) = search rules in
    puts_first (head_bytes c.args.epoch c.args.offset (length c.args.bytes.now)) c.args.bytes.now old new (subst (λ h. Puts h old new) head c.put.ensures.part)

pub returns-in_err-put_all-clause-part : goal.returns-in_err-put_all-clause-part
returns-in_err-put_all-clause-part g c =
    let head : c.head.result ≡ head_bytes c.args.epoch c.args.offset (length c.args.bytes.now) = search rules in
    puts_both (head_bytes c.args.epoch c.args.offset (length c.args.bytes.now)) c.args.bytes.now (g.W.Write.contents c.args.writer.now) (g.W.Write.contents c.put.new.writer) (g.W.Write.contents c.put_all.new.writer) (search (rules, head)) c.put_all.ensures.part

pub returns-clause-part : goal.returns-clause-part
returns-clause-part g c =
    let head : c.head.result ≡ head_bytes c.args.epoch c.args.offset (length c.args.bytes.now) = search rules in
    puts_both (head_bytes c.args.epoch c.args.offset (length c.args.bytes.now)) c.args.bytes.now (g.W.Write.contents c.args.writer.now) (g.W.Write.contents c.put.new.writer) (g.W.Write.contents c.put_all.new.writer) (search (rules, head)) c.put_all.ensures.part
