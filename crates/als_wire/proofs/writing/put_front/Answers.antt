use Rattle.std.proofs.Common.{◌≡◌, rules, subst}
use Rattle.als_record.specs.LogText.{header_bytes}
use Rattle.als_wire.specs.Frames.{resume_head}
use Rattle.als_wire.specs.Sending.{Puts}
use Rattle.als_wire.proofs.Putting.{puts_first, puts_both}
use Rattle.als_wire.proofs.writing.put_front.Goals as goal

pub returns-in_err-put-clause-part : goal.returns-in_err-put-clause-part
returns-in_err-put-clause-part g c =
    let old = g.W.Write.contents c.args.writer.now in
    let new = g.W.Write.contents c.put.new.writer in
    let head : c.resume.result ≡ resume_head c.args.from.0 = search rules in
    puts_first (resume_head c.args.from.0) (header_bytes c.args.header.pages) old new (subst (λ h. Puts h old new) head c.put.ensures.part)

pub returns-in_err-put-2-clause-part : goal.returns-in_err-put-2-clause-part
returns-in_err-put-2-clause-part g c =
    let head : c.resume.result ≡ resume_head c.args.from.0 = search rules in
    let body : c.encode.result ≡ header_bytes c.args.header.pages = search rules in
    let mid = g.W.Write.contents c.put.new.writer in
    let new = g.W.Write.contents c.put-2.new.writer in
    puts_both (resume_head c.args.from.0) (header_bytes c.args.header.pages) (g.W.Write.contents c.args.writer.now) mid new (search (rules, head)) (subst (λ h. Puts h mid new) body c.put-2.ensures.part)

pub returns-clause-part : goal.returns-clause-part
returns-clause-part g c =
    let head : c.resume.result ≡ resume_head c.args.from.0 = search rules in
    let body : c.encode.result ≡ header_bytes c.args.header.pages = search rules in
    let mid = g.W.Write.contents c.put.new.writer in
    let new = g.W.Write.contents c.put-2.new.writer in
    puts_both (resume_head c.args.from.0) (header_bytes c.args.header.pages) (g.W.Write.contents c.args.writer.now) mid new (search (rules, head)) (subst (λ h. Puts h mid new) body c.put-2.ensures.part)
