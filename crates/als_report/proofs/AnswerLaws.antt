-- What an answer says of the list that it is of.
use Rattle.std.specs.Prelude.{◌≡◌, ℕ, ◌≤◌, Bool, List, length, take, fold, Option, Some, None}
use Rattle.std.proofs.Common.{sym, ap, ◌∙◌, arith}
use Rattle.std.proofs.lemmas.List.{take_all}
use Rattle.als_record.specs.declared.key.Key.{Key}
use Rattle.als_record.specs.declared.lsn.Lsn.{Lsn}
use Rattle.als_record.specs.Commits.{Commit}
use Rattle.als_view.specs.Answers.{IsAnswer}
use Rattle.als_view.specs.Entries.{Begins}
use Rattle.als_view.specs.Many.{IsAnswerOfAll}
use Rattle.als_view.specs.declared.answer.Answer.{Answer}
use Rattle.als_view.specs.declared.many.Many.{Many}
use Rattle.als_view.proofs.Fronts.{prefix_self}
use Rattle.als_report.specs.Reading.{last_in, count_in}

pub answer_last : (pages : ℕ) (key : Key) (known : Option (List Commit)) (a : Answer)
    → IsAnswer pages key known a → last_in known ≡ Some a.lsn.0
answer_last pages key None a h = absurd h
answer_last pages key (Some commits) a h = ap Some (sym h.0.lsn)

pub all_last : (pages : ℕ) (keys : List Key) (known : Option (List Commit)) (a : Many)
    → IsAnswerOfAll pages keys known a → last_in known ≡ Some a.lsn.0
all_last pages keys None a h = absurd h
all_last pages keys (Some commits) a h = ap Some (sym h.0.lsn)

pub answer_count : (pages : ℕ) (key : Key) (known : Option (List Commit)) (a : Answer)
    → IsAnswer pages key known a → count_in known ≡ Some a.commits
answer_count pages key None a h = absurd h
answer_count pages key (Some commits) a h = ap Some (sym h.0.commits)

-- a list that is known is known still
pub begins_self : (known : Option (List Commit)) → Begins known known
begins_self None = tt
begins_self (Some commits) = prefix_self commits

-- a fold over as many keys as there are is one over all of them
pub all_taken : (f : Bool → Key → Bool) (has start : Bool) (keys : List Key) (n : ℕ) → has ≡ fold f start (take n keys) → length keys ≤ n
    → has ≡ fold f start keys
all_taken f has start keys n so_far all = so_far ∙ ap (fold f start) (take_all n keys all)
