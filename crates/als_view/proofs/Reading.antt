-- An answer of the first commits of a log is of a front of that log.
use Rattle.std.proofs.Common.{◌≡◌, ℕ, true, cond, List, [], ◌++◌, length, length-append, take, None, refl, sym, ap, ◌∙◌, subst, arith, nat_lt, ◌&&◌}
use Rattle.std.specs.List.{AllByRecursion}
use Rattle.std.proofs.lemmas.List.{take_at}
use Rattle.als_record.specs.declared.key.Key.{Key}
use Rattle.als_record.specs.declared.record.Record.{Record}
use Rattle.als_record.specs.Validity.{is_valid, may_follow_all}
use Rattle.als_record.specs.Commits.{Commit, commits_of, seen_after}
use Rattle.als_record.proofs.Validity.{is_valid-front}
use Rattle.als_record.proofs.SeenCommits.{seen_after-commits_of}
use Rattle.als_commits.specs.Counting.{IsEnded, last_of}
use Rattle.als_commits.specs.Fronts.{HasFront}
use Rattle.als_commits.proofs.CommitFronts.{front_with}
use Rattle.als_view.specs.Entries.{HasLog, AreCommits}
use Rattle.als_view.specs.Answers.{Answers}
use Rattle.als_view.specs.Reading.{ReadsFront}
use Rattle.als_view.specs.declared.answer.Answer.{Answer}

-- no commits are those of the empty log
pub none_are_commits : AreCommits []
unfolding commits_of is_valid may_follow_all
none_are_commits =
    let l : HasLog [] = record { log = []; valid = refl; are = refl } in ∣ l ∣₁

pub reads_front : (log : List Record) (front more : List Commit) (below pages : ℕ) (key : Key) (answer : Answer) → is_valid log ≡ true → commits_of log ≡ front ++ more → AllByRecursion (IsEnded below) front → Answers answer pages key front
    → ReadsFront log below pages key answer
reads_front log front more below pages key answer v parts ended a =
    let n : ℕ = length front in
    let q : take n (commits_of log) ≡ front = ap (take n) parts ∙ take_at front more n refl in
    let f : HasFront log (take n (commits_of log)) = front_with log v n (omega (arith, ap (λ (cs : List Commit). length cs) parts, length-append front more)) in
    let has : commits_of f.front ≡ front = f.has ∙ q in
    let w : is_valid f.front ≡ true = is_valid-front f.front f.rest (sym (ap is_valid f.parts) ∙ v) in
    record {
      front = f.front;
      rest = f.rest;
      parts = f.parts;
      ends = f.ends;
      value = a.value ∙ ap (λ i. cond (nat_lt key.page pages && nat_lt key.slot 15) i None) (ap (λ (cs : List Commit). seen_after cs key) (sym has) ∙ seen_after-commits_of f.front w key);
      commits = a.commits ∙ ap (λ (cs : List Commit). length cs) (sym has);
      lsn = a.lsn ∙ ap last_of (sym has);
      ended = subst (AllByRecursion (IsEnded below)) (sym has) ended;
    }
