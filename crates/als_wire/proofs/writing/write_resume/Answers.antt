use Rattle.std.proofs.Common.{rules}
use Rattle.als_wire.specs.Frames.{history_bytes, resume_front}
use Rattle.als_wire.proofs.Putting.{puts_first, puts_both}
use Rattle.als_wire.proofs.writing.write_resume.Goals as goal

pub returns-in_err-put_front-clause-part : goal.returns-in_err-put_front-clause-part
returns-in_err-put_front-clause-part g c =
    puts_first (resume_front c.args.from.0 c.args.header.pages) (history_bytes c.args.history.now) (g.W.Write.contents c.args.writer.now) (g.W.Write.contents c.put_front.new.writer)
    c.put_front.ensures.part

pub returns-in_err-put_history-clause-part : goal.returns-in_err-put_history-clause-part
returns-in_err-put_history-clause-part g c =
    puts_both (resume_front c.args.from.0 c.args.header.pages) (history_bytes c.args.history.now) (g.W.Write.contents c.args.writer.now) (g.W.Write.contents c.put_front.new.writer)
    (g.W.Write.contents c.put_history.new.writer) (search rules) c.put_history.ensures.part

pub returns-clause-part : goal.returns-clause-part
returns-clause-part g c =
    puts_both (resume_front c.args.from.0 c.args.header.pages) (history_bytes c.args.history.now) (g.W.Write.contents c.args.writer.now) (g.W.Write.contents c.put_front.new.writer)
    (g.W.Write.contents c.put_history.new.writer) (search rules) c.put_history.ensures.part
