use Rattle.std.proofs.Common.{◌≡◌, ◌++◌, List, drop, fold, ap, sym, ◌∙◌}
use Rattle.std.proofs.lemmas.List.{append-nil}
use Rattle.als_record.specs.Commits.{Commit}
use Rattle.als_view.specs.declared.change.Change.{Change}
use Rattle.als_view.specs.Changes.{changed, added, marked_by}
use Rattle.als_view.proofs.Folds.{added-mark, fold_marked}
use Rattle.als_view.proofs.publisher.load.Goals as goal

pub returns-clause-all : goal.returns-clause-all
returns-clause-all c =
    let mid = c.hand_over.new.writer in
    let rest = c.hand_over.new.queue.items in
    let pend = drop mid.behind mid.log.items in
    ap (λ ops. added ops ++ rest) c.in-Ok.ensures.pending ∙ (ap (λ cs. cs ++ rest) (added-mark pend (record { seen = c.again.result })) ∙ c.in_ok-hand_over.ensures.all)

pub returns-clause-ok : goal.returns-clause-ok
returns-clause-ok c =
    let mid = c.hand_over.new.writer in
    let rest = c.hand_over.new.queue.items in
    let pend : List Change = drop mid.behind mid.log.items in
    let before = c.args.writer.now in
    let all : List Commit = added (drop before.behind before.log.items) ++ c.args.queue.now.items in
    let more : added pend ≡ all = sym (append-nil (added pend)) ∙ (ap (λ q. added pend ++ q) (sym c.in_ok-hand_over.ensures.ok) ∙ c.in_ok-hand_over.ensures.all) in (
      c.in_ok-hand_over.ensures.ok,
      λ s. ap (fold changed s) c.in-Ok.ensures.pending
          ∙ (fold_marked s pend (record { seen = c.again.result })
          ∙ (ap (λ cs. marked_by s cs (record { seen = c.again.result })) more ∙ ap (λ t. marked_by s all (record { seen = t })) c.again.ensures)),
    )
