use Rattle.std.proofs.Common.{◌++◌, List, option_to_list, sym, ap, ◌∙◌}
use Rattle.als_record.specs.Commits.{Commit}
use Rattle.als_commits.specs.Waiting.{Waiting}
use Rattle.als_reopen.proofs.committing.take_commit.Goals as goal

pub returns : goal.returns
returns c = record {
  waits = λ pages front known valid fits at good h.
      c.take.ensures
      ∙ ap (λ (queued : List Commit). queued ++ option_to_list c.in-Ok.made) (ap (λ (w : Waiting). w.queued) c.make_room.ensures.same ∙ h)
      ∙ sym (c.in-Ok.ensures.ok pages front known valid fits at good);
}
