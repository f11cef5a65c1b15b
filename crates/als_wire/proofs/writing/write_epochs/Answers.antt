use Rattle.std.proofs.Common.{rules, [], ◌∷◌}
use Rattle.als_wire.specs.Frames.{history_bytes}
use Rattle.als_wire.proofs.Putting.{puts_first, puts_both}
use Rattle.als_wire.proofs.writing.write_epochs.Goals as goal

pub returns-in_err-put-clause-part : goal.returns-in_err-put-clause-part
returns-in_err-put-clause-part g c =
    puts_first (69 ∷ []) (history_bytes c.args.history.now) (g.W.Write.contents c.args.writer.now) (g.W.Write.contents c.put.new.writer) c.put.ensures.part

pub returns-in_err-put_history-clause-part : goal.returns-in_err-put_history-clause-part
returns-in_err-put_history-clause-part g c =
    puts_both (69 ∷ []) (history_bytes c.args.history.now) (g.W.Write.contents c.args.writer.now) (g.W.Write.contents c.put.new.writer) (g.W.Write.contents c.put_history.new.writer)
    (search rules) c.put_history.ensures.part

pub returns-clause-part : goal.returns-clause-part
returns-clause-part g c =
    puts_both (69 ∷ []) (history_bytes c.args.history.now) (g.W.Write.contents c.args.writer.now) (g.W.Write.contents c.put.new.writer) (g.W.Write.contents c.put_history.new.writer)
    (search rules) c.put_history.ensures.part
