-- The first commits of the queue, by where their records end.
use Rattle.std.proofs.Common.{◌≡◌, ℕ, ◌+◌, ◌-◌, ◌≤◌, true, List, [], ◌∷◌, ◌++◌, length, sym, ap, ◌∙◌, subst, inl, inr, arith, nat_lt}
use Rattle.std.specs.List.{AllByRecursion}
use Rattle.std.proofs.lemmas.Bool.{cases_Bool}
use Rattle.als_record.specs.declared.lsn.Lsn.{Lsn}
use Rattle.als_record.specs.declared.record.Record.{Record}
use Rattle.als_record.specs.Validity.{is_valid}
use Rattle.als_record.specs.Commits.{Commit, commits_of}
use Rattle.als_commits.specs.Counting.{IsEnded, ended_count, count_below}
use Rattle.als_commits.proofs.Rising.{Rising, Rising-back, stands, ended_count-parts}

pub count_below-limit : (lsn : Lsn) (cs : List Commit) → count_below lsn cs ≤ length cs
count_below-limit lsn [] = omega arith
count_below-limit lsn (c ∷ cs) = elim (cases_Bool (nat_lt c.lsn.0 lsn.0)) [
  | inl y ↦ rw y (let n : count_below lsn cs ≤ length cs = count_below-limit lsn cs in omega (arith, n))
  | inr n ↦ rw n (omega arith)
]

-- where the commits in front of the queue have ended, the first of the queue are all others of the log
pub ended-first : (log : List Record) (front queued : List Commit) (a : ℕ) (lsn : Lsn) → lsn.0 ≡ a - 27 → is_valid log ≡ true → commits_of log ≡ front ++ queued → AllByRecursion (IsEnded a) front
    → length front + count_below lsn queued ≡ ended_count a (commits_of log)
ended-first log front queued a lsn e v parts ended =
    sym (ended_count-parts a lsn e front queued ended (Rising-back front queued (subst Rising parts (stands log v).rising))) ∙ ap (ended_count a) (sym parts)
