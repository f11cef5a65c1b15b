use Rattle.std.proofs.Common.{◌≡◌, ◌++◌, ◌∷◌, [], List, drop, ap, sym, ◌∙◌, append_assoc}
use Rattle.als_record.specs.Commits.{Commit}
use Rattle.als_view.specs.Changes.{added}
use Rattle.als_view.proofs.Folds.{added-one}
use Rattle.als_view.proofs.publisher.hand_over.Goals as goal

pub loop-commit-preserved : goal.loop-commit-preserved
loop-commit-preserved c =
    let before = c.loop-commit.writer in
    let pend = drop before.behind before.log.items in
    let rest = c.pop_front.new.self.items in
    let one : List Commit = c.in-Some.commit ∷ [] in
    let queued : c.loop-commit.queue.items ≡ one ++ rest = c.in-Some.ensures.items in
    record {
      desk = c.in-Ok.ensures.desk ∙ c.loop-commit.invariant.desk;
      all = ap (λ ops. added ops ++ rest) c.in-Ok.ensures.pending
          ∙ (ap (λ cs. cs ++ rest) (added-one pend c.in-Some.commit)
          ∙ (append_assoc (added pend) one rest
          ∙ (ap (λ q. added pend ++ q) (sym queued) ∙ c.loop-commit.invariant.all)));
    }
