-- How many commits of a log have ended at an offset, over a loss of its last records.
use Rattle.std.proofs.Common.{◌≡◌, ℕ, ◌+◌, ◌≤◌, ◌<◌, nat_le, Bool, true, false, cond, List, [], ◌∷◌, ◌++◌, length, length-append, filter, sym, ap, ◌∙◌, inl, inr, arith, append-nil, append_assoc}
use Rattle.std.specs.List.{AllByRecursion}
use Rattle.std.proofs.lemmas.Bool.{cases_Bool, leb-true, le-leb, and_parts}
use Rattle.std.proofs.lemmas.List.Elements.{filter-append}
use Rattle.als_record.specs.declared.record.Record.{Record}
use Rattle.als_record.specs.LogText.{end_of}
use Rattle.als_record.specs.Transactions.{is_commit}
use Rattle.als_record.specs.Validity.{is_valid, may_follow}
use Rattle.als_record.specs.Commits.{Commit, commits_of}
use Rattle.als_record.proofs.Validity.{Admitted-may_follow, is_valid-front, is_valid-push}
use Rattle.als_record.proofs.Places.{end_of-push}
use Rattle.als_record.proofs.CommitSteps.{commit_by, commits_of-push}
use Rattle.als_commits.specs.Counting.{IsEnded, ended_count}
use Rattle.als_commits.proofs.Rising.{every, every-append, all_ended, none_ended}

-- ---- counts of commits

pub ended_count-append : (a : ℕ) (cs ds : List Commit) → ended_count a (cs ++ ds) ≡ ended_count a cs + ended_count a ds
unfolding ended_count
ended_count-append a cs ds =
    ap (λ (es : List Commit). length es) (filter-append (λ (c : Commit). nat_le (c.lsn.0 + 28) a) cs ds)
    ∙ length-append (filter (λ c. nat_le (c.lsn.0 + 28) a) cs) (filter (λ c. nat_le (c.lsn.0 + 28) a) ds)

pub ended_count-limit : (a : ℕ) (cs : List Commit) → ended_count a cs ≤ length cs
unfolding ended_count
ended_count-limit a [] = omega arith
ended_count-limit a (c ∷ cs) =
    let n : length (filter (λ c. nat_le (c.lsn.0 + 28) a) cs) ≤ length cs = ended_count-limit a cs in
    elim (cases_Bool (nat_le (c.lsn.0 + 28) a)) [
      | inl y ↦ rw y (omega (arith, n))
      | inr m ↦ rw m (omega (arith, n))
    ]

pub ended_count-rises : (a b : ℕ) → a ≤ b → (cs : List Commit) → ended_count a cs ≤ ended_count b cs
unfolding ended_count
ended_count-rises a b le [] = omega arith
ended_count-rises a b le (c ∷ cs) =
    let n : length (filter (λ c. nat_le (c.lsn.0 + 28) a) cs) ≤ length (filter (λ c. nat_le (c.lsn.0 + 28) b) cs) = ended_count-rises a b le cs in
    elim (cases_Bool (nat_le (c.lsn.0 + 28) a)) [
      | inl y ↦
          let low : c.lsn.0 + 28 ≤ a = leb-true (c.lsn.0 + 28) a y in
          let z : nat_le (c.lsn.0 + 28) b ≡ true = le-leb (c.lsn.0 + 28) b (omega (arith, low, le)) in
          rw (y, z) (omega (arith, n))
      | inr m ↦ elim (cases_Bool (nat_le (c.lsn.0 + 28) b)) [
        | inl z ↦ rw (m, z) (omega (arith, n))
        | inr z ↦ rw (m, z) (omega (arith, n))
      ]
    ]

-- commits that end behind an offset are not counted there
ended_count-behind : (a : ℕ) (cs : List Commit) → AllByRecursion (λ c. a ≤ c.lsn.0) cs → ended_count a cs ≡ 0
unfolding ended_count
ended_count-behind a cs h = none_ended a cs (every (λ c. a ≤ c.lsn.0) (λ c. a < c.lsn.0 + 28) (λ c le. omega (arith, le)) cs h)

-- ---- the commits of a longer log

-- they are those of its front, and others behind the end of the front
record GoesOn (log more : List Record) : Type 0 where
  pub others : List Commit
  pub parts : commits_of (log ++ more) ≡ commits_of log ++ others
  pub behind : AllByRecursion (λ c. end_of log ≤ c.lsn.0) others

goes_on : (log more : List Record) → is_valid (log ++ more) ≡ true → GoesOn log more
goes_on log [] v = record { others = []; parts = ap commits_of (append-nil log) ∙ sym (append-nil (commits_of log)); behind = tt }
goes_on log (r ∷ rest) v =
    let a : (log ++ r ∷ []) ++ rest ≡ log ++ (r ∷ rest) = append_assoc log (r ∷ []) rest in
    let w : is_valid ((log ++ r ∷ []) ++ rest) ≡ true = ap is_valid a ∙ v in
    let u : is_valid (log ++ r ∷ []) ≡ true = is_valid-front (log ++ r ∷ []) rest w in
    let at : r.lsn.0 ≡ end_of log = (Admitted-may_follow log r (and_parts (is_valid log) (may_follow log r) (sym (is_valid-push log r) ∙ u)).1).place in
    let later : GoesOn (log ++ r ∷ []) rest = goes_on (log ++ r ∷ []) rest w in
    let one : List Commit = cond (is_commit r.body) (commit_by log r ∷ []) [] in
    let long : end_of log ≤ end_of (log ++ r ∷ []) = omega (arith, end_of-push log r) in
    record {
      others = one ++ later.others;
      parts = ap commits_of (sym a) ∙ later.parts ∙ ap (λ (cs : List Commit). cs ++ later.others) (commits_of-push log r u) ∙ append_assoc (commits_of log) one later.others;
      behind = every-append (λ c. end_of log ≤ c.lsn.0) one later.others (single log r at (is_commit r.body))
          (every (λ c. end_of (log ++ r ∷ []) ≤ c.lsn.0) (λ c. end_of log ≤ c.lsn.0) (λ c h. omega (arith, h, long)) later.others later.behind);
    }
  where
    single : (log : List Record) (r : Record) → r.lsn.0 ≡ end_of log → (b : Bool) → AllByRecursion (λ c. end_of log ≤ c.lsn.0) (cond b (commit_by log r ∷ []) [])
    single log r at true = (omega (arith, at), tt)
    single log r at false = tt

pub count-kept : (front lost : List Record) (a : ℕ) → is_valid (front ++ lost) ≡ true → a ≤ end_of front → ended_count a (commits_of (front ++ lost)) ≡ ended_count a (commits_of front)
count-kept front lost a v le =
    let g : GoesOn front lost = goes_on front lost v in
    let none : ended_count a g.others ≡ 0 = ended_count-behind a g.others (every (λ c. end_of front ≤ c.lsn.0) (λ c. a ≤ c.lsn.0) (λ c h. omega (arith, h, le)) g.others g.behind) in
    omega (arith, ap (ended_count a) g.parts, ended_count-append a (commits_of front) g.others, none)

pub count-rises : (front lost more : List Record) (old new : ℕ) → is_valid (front ++ lost) ≡ true → is_valid (front ++ more) ≡ true → old ≤ end_of front → old ≤ new
    → ended_count old (commits_of (front ++ lost)) ≤ ended_count new (commits_of (front ++ more))
count-rises front lost more old new v w le up =
    let g : GoesOn front more = goes_on front more w in
    omega (arith, count-kept front lost old v le, ended_count-rises old new up (commits_of front), ap (ended_count new) g.parts, ended_count-append new (commits_of front) g.others)

-- where all of them have ended, each is counted
pub ended_count-whole : (a : ℕ) (cs : List Commit) → AllByRecursion (IsEnded a) cs → ended_count a cs ≡ length cs
unfolding ended_count
ended_count-whole a cs e = all_ended a cs e
