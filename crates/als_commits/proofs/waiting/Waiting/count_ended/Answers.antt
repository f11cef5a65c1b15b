use Rattle.std.proofs.Common.{◌+◌, ap, subst, sym, ◌∙◌, ℕ, ◌≤◌, length, take}
use Rattle.std.specs.List.{AllByRecursion}
use Rattle.als_commits.specs.Counting.{IsEnded}
use Rattle.als_commits.proofs.Queue.{count_below-limit, ended-first}
use Rattle.als_commits.proofs.Rising.{counted_ended}
use Rattle.als_commits.proofs.waiting.Waiting.count_ended.Goals as goal

pub returns-clause-limit : goal.returns-clause-limit
returns-clause-limit c = subst (λ (n : ℕ). n ≤ length c.args.self.now.queued) (sym c.count_below.ensures) (count_below-limit c.begins_below.result c.args.self.now.queued)

pub returns-clause-ended : goal.returns-clause-ended
returns-clause-ended c =
    subst (λ (n : ℕ). AllByRecursion (IsEnded c.args.offset.0) (take n c.args.self.now.queued)) (sym c.count_below.ensures)
    (counted_ended c.args.offset.0 c.begins_below.result c.begins_below.ensures c.args.self.now.queued)

pub returns-clause-all : goal.returns-clause-all
returns-clause-all c log front v parts ended =
    ap (λ n. length front + n) c.count_below.ensures ∙ ended-first log front c.args.self.now.queued c.args.offset.0 c.begins_below.result c.begins_below.ensures v parts ended
