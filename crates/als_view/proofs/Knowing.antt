-- What a reader knows is of the log whose first commits are published.
use Rattle.std.proofs.Common.{◌≡◌, ℕ, ◌+◌, ◌-◌, ◌≤◌, true, List, [], ◌++◌, length, length-append, take, drop, Option, Some, None, refl, sym, ap, ◌∙◌, subst, arith, append_assoc}
use Rattle.std.specs.List.{AllByRecursion}
use Rattle.std.proofs.lemmas.List.{take_at, take-append-drop, length-take-le}
use Rattle.als_record.specs.declared.key.Key.{Key}
use Rattle.als_record.specs.declared.lsn.Lsn.{Lsn}
use Rattle.als_record.specs.declared.record.Record.{Record}
use Rattle.als_record.specs.Validity.{is_valid}
use Rattle.als_record.specs.Commits.{Commit, commits_of}
use Rattle.als_commits.specs.Counting.{IsEnded, ended_count, count_below}
use Rattle.als_commits.proofs.Counting.{ended_count-limit}
use Rattle.als_commits.proofs.Rising.{stands, ended_count-parts, counted_ended}
use Rattle.als_view.specs.Answers.{IsAnswer}
use Rattle.als_view.specs.Entries.{Begins}
use Rattle.als_view.specs.Reading.{ReadsFront}
use Rattle.als_view.specs.declared.answer.Answer.{Answer}
use Rattle.als_view.proofs.Fronts.{prefix_trans}
use Rattle.als_view.proofs.Reading.{reads_front}
use Rattle.als_view.proofs.ShowingLaws.{ended_front}

-- so many of the first commits of a valid log have ended as are counted at an offset
ended_first : (log : List Record) (a n : ℕ) → is_valid log ≡ true → n ≤ ended_count a (commits_of log) → AllByRecursion (IsEnded a) (take n (commits_of log))
ended_first log a n v le =
    let lsn : Lsn = record { 0 = a - 27 } in
    let count : ended_count a ([] ++ commits_of log) ≡ 0 + count_below lsn (commits_of log) = ended_count-parts a lsn refl [] (commits_of log) tt (stands log v).rising in
    let all : ended_count a (commits_of log) ≡ ended_count a ([] ++ commits_of log) = refl in
    ended_front a n (count_below lsn (commits_of log)) (commits_of log) (omega (arith, le, all, count)) (counted_ended a lsn refl (commits_of log))

pub reads_known : (log : List Record) (a n pages : ℕ) (key : Key) (known : Option (List Commit)) (answer : Answer) → is_valid log ≡ true → n ≤ ended_count a (commits_of log)
    → Begins known (Some (take n (commits_of log))) → IsAnswer pages key known answer → ReadsFront log a pages key answer
reads_known log a n pages key None answer v le begins is = absurd is
reads_known log a n pages key (Some front) answer v le begins is =
    let rest : List Commit = begins.0 ++ drop n (commits_of log) in
    let parts : commits_of log ≡ front ++ rest =
    sym (take-append-drop n (commits_of log)) ∙ ap (λ (cs : List Commit). cs ++ drop n (commits_of log)) (sym begins.1)
    ∙ append_assoc front begins.0 (drop n (commits_of log)) in
    let few : length front ≤ n =
    omega (arith, length-append front begins.0, ap (λ (cs : List Commit). length cs) begins.1, length-take-le n (commits_of log) (omega (arith, le, ended_count-limit a (commits_of log)))) in
    let ended : AllByRecursion (IsEnded a) front =
    subst (AllByRecursion (IsEnded a)) (ap (take (length front)) parts ∙ take_at front rest (length front) refl) (ended_first log a (length front) v (omega (arith, few, le))) in
    reads_front log front rest a pages key answer v parts ended is.0

pub begins_earlier : (before known published : Option (List Commit)) → Begins before known → Begins known published → Begins before published
begins_earlier None known published p q = tt
begins_earlier (Some xs) None published p q = absurd p
begins_earlier (Some xs) (Some ys) None p q = absurd q
begins_earlier (Some xs) (Some ys) (Some zs) p q = prefix_trans xs ys zs p q
