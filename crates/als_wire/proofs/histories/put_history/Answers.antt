use Rattle.std.proofs.Common.{◌≡◌, List, ℕ, subst, ◌∙◌}
use Rattle.std.specs.Io.KnownBytes.{Appends}
use Rattle.als_wire.specs.Frames.{history_bytes}
use Rattle.als_wire.specs.Sending.{Puts}
use Rattle.als_wire.proofs.Recalling.{history_front}
use Rattle.als_wire.proofs.histories.put_history.Goals as goal

pub returns-in_err-put_all-clause-part : goal.returns-in_err-put_all-clause-part
returns-in_err-put_all-clause-part g c =
    let spelled : c.split_at.result.0.now ≡ history_bytes c.args.history.now =
    c.split_at.ensures.front ∙ history_front c.fill.new.room c.args.history.now c.fill.ensures.0 c.epoch-epoch.result c.epoch-epoch.ensures.len c.fill.ensures.1 in
    subst (λ (xs : List ℕ). Puts xs (g.W.Write.contents c.args.writer.now) (g.W.Write.contents c.put_all.new.writer)) spelled c.put_all.ensures.part

pub returns-clause-part : goal.returns-clause-part
returns-clause-part g c =
    let spelled : c.split_at.result.0.now ≡ history_bytes c.args.history.now =
    c.split_at.ensures.front ∙ history_front c.fill.new.room c.args.history.now c.fill.ensures.0 c.epoch-epoch.result c.epoch-epoch.ensures.len c.fill.ensures.1 in
    subst (λ (xs : List ℕ). Puts xs (g.W.Write.contents c.args.writer.now) (g.W.Write.contents c.put_all.new.writer)) spelled c.put_all.ensures.part

pub returns-clause-all : goal.returns-clause-all
returns-clause-all g c =
    let spelled : c.split_at.result.0.now ≡ history_bytes c.args.history.now =
    c.split_at.ensures.front ∙ history_front c.fill.new.room c.args.history.now c.fill.ensures.0 c.epoch-epoch.result c.epoch-epoch.ensures.len c.fill.ensures.1 in
    subst (Appends (g.W.Write.contents c.args.writer.now) (g.W.Write.contents c.put_all.new.writer)) spelled c.in_ok-put_all.ensures.all
