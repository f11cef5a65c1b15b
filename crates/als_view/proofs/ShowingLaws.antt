-- What a publisher shows of a log, as both go on.
use Rattle.std.proofs.Common.{◌≡◌, ℕ, ◌+◌, ◌≤◌, true, false, cond, List, [], ◌∷◌, ◌++◌, length, length-append, take, drop, Option, Some, None, option_to_list, zero, suc, refl, sym, ap, ◌∙◌, subst, arith, append-nil, append_assoc}
use Rattle.std.specs.List.{AllByRecursion}
use Rattle.std.proofs.Math.Logic.{∥∥₁_map}
use Rattle.std.proofs.lemmas.List.{take_at, take-append-drop, length-take-le}
use Rattle.als_record.specs.declared.key.Key.{Key}
use Rattle.als_record.specs.declared.record.Record.{Record}
use Rattle.als_record.specs.Validity.{is_valid}
use Rattle.als_record.specs.Transactions.{is_commit}
use Rattle.als_record.specs.Commits.{Commit, commits_of}
use Rattle.als_record.proofs.Validity.{is_valid-front}
use Rattle.als_record.proofs.CommitSteps.{commit_by, commits_of-push}
use Rattle.als_commits.specs.Counting.{IsEnded, ended_count}
use Rattle.als_commits.specs.Fronts.{HasFront}
use Rattle.als_commits.proofs.CommitFronts.{front_with}
use Rattle.als_commits.proofs.Counting.{ended_count-append, ended_count-whole}
use Rattle.als_commits.proofs.Rising.{every, every-append}
use Rattle.als_view.specs.Entries.{HasLog, AreCommits}
use Rattle.als_view.specs.Answers.{IsAnswer}
use Rattle.als_view.specs.Moving.{MovesFirst}
use Rattle.als_view.specs.Reading.{ReadsFront}
use Rattle.als_view.proofs.Fronts.{prefix_self}
use Rattle.als_view.specs.Showing.{View, IsPublishedOf, IsShowing, IsWarming, count_of, published_of}
use Rattle.als_view.specs.Views.{listed_in}
use Rattle.als_view.specs.declared.answer.Answer.{Answer}
use Rattle.als_view.proofs.Reading.{reads_front}

-- ---- commits of a valid log

-- the first of them are those of a valid log
has_front : (xs ys : List Commit) → HasLog (xs ++ ys) → HasLog xs
has_front xs ys h =
    let n : ℕ = length xs in
    let le : n ≤ length (commits_of h.log) = omega (arith, ap (λ (cs : List Commit). length cs) h.are, length-append xs ys) in
    let f : HasFront h.log (take n (commits_of h.log)) = front_with h.log h.valid n le in
    record {
      log = f.front;
      valid = is_valid-front f.front f.rest (sym (ap is_valid f.parts) ∙ h.valid);
      are = f.has ∙ ap (take n) h.are ∙ take_at xs ys n refl;
    }

pub front_are_commits : (xs ys : List Commit) → AreCommits (xs ++ ys) → AreCommits xs
front_are_commits xs ys are = ∥∥₁_map are (has_front xs ys)

-- those that have moved to the publisher, and those that it had
pub moved_are_commits : (n : ℕ) (all waiting : List Commit) → AreCommits (all ++ waiting) → AreCommits (all ++ take n waiting)
moved_are_commits n all waiting are =
    front_are_commits (all ++ take n waiting) (drop n waiting)
    (subst AreCommits (ap (λ (cs : List Commit). all ++ cs) (sym (take-append-drop n waiting)) ∙ sym (append_assoc all (take n waiting) (drop n waiting))) are)

-- what a log shows is of a valid log
pub shown_are_commits : (log : List Record) (a : ℕ) (view : View) → is_valid log ≡ true → IsShowing log a view → AreCommits (view.all ++ view.queued)
shown_are_commits log a view v h = let l : HasLog (view.all ++ view.queued) = record { log = log; valid = v; are = h.parts } in ∣ l ∣₁

-- ---- the log goes on

pub waits_first : (log : List Record) (a : ℕ) (view : View) → view.all ≡ [] → listed_in view.published ≡ [] → view.queued ≡ commits_of log → IsShowing log a view
waits_first log a view none unpublished q = record {
  parts = sym q ∙ sym (ap (λ (cs : List Commit). cs ++ view.queued) none);
  ended = subst (AllByRecursion (IsEnded a)) (sym none) tt;
  front = go view.published unpublished;
}
  where
    go : (published : Option (List Commit)) → listed_in published ≡ [] → IsPublishedOf view.all published
    go None e = tt
    go (Some p) e = (view.all, ap (λ (cs : List Commit). cs ++ view.all) e)

pub starts : (a : ℕ) (view : View) → view.all ≡ [] → listed_in view.published ≡ [] → view.queued ≡ [] → IsShowing [] a view
unfolding commits_of
starts a view none unpublished q = waits_first [] a view none unpublished q

pub shows_rises : (log : List Record) (before after : ℕ) (view : View) → before ≤ after → IsShowing log before view → IsShowing log after view
shows_rises log before after view le h = record { parts = h.parts; ended = every (IsEnded before) (IsEnded after) (λ c d. omega (arith, d, le)) view.all h.ended; front = h.front }

pub shows_other : (log : List Record) (r : Record) (a : ℕ) (view : View) → is_valid (log ++ r ∷ []) ≡ true → is_commit r.body ≡ false → IsShowing log a view → IsShowing (log ++ r ∷ []) a view
shows_other log r a view v e h = record {
  parts = commits_of-push log r v ∙ ap (λ b. commits_of log ++ cond b (commit_by log r ∷ []) []) e ∙ append-nil (commits_of log) ∙ h.parts;
  ended = h.ended;
  front = h.front;
}

-- a commit more waits
pub shows_taken : (log : List Record) (r : Record) (a : ℕ) (old new : View) (found : Option Commit) → commits_of (log ++ r ∷ []) ≡ commits_of log ++ option_to_list found → new.all ≡ old.all → new.published ≡ old.published → new.queued ≡ old.queued ++ option_to_list found
    → IsShowing log a old → IsShowing (log ++ r ∷ []) a new
shows_taken log r a old new found q all published queued h = record {
  parts = q ∙ ap (λ (cs : List Commit). cs ++ option_to_list found) h.parts ∙ append_assoc old.all old.queued (option_to_list found)
      ∙ ap (λ (cs : List Commit). old.all ++ cs) (sym queued) ∙ ap (λ (cs : List Commit). cs ++ new.queued) (sym all);
  ended = subst (AllByRecursion (IsEnded a)) (sym all) h.ended;
  front = subst (λ (cs : List Commit). IsPublishedOf cs new.published) (sym all) (subst (IsPublishedOf old.all) (sym published) h.front);
}

pub warms_on : (pages : ℕ) (log : List Record) (old new : View) → new.pages ≡ old.pages → new.published ≡ old.published → new.all ≡ old.all → new.queued ≡ commits_of log → IsWarming pages [] old → IsWarming pages log new
warms_on pages log old new same published all queued h = record { pages_are = same ∙ h.pages_are; unlisted = published ∙ h.unlisted; none = all ∙ h.none; queued = queued }

-- ---- the first that wait are published

-- of ended commits the first have ended
pub ended_front : (a : ℕ) (few many : ℕ) (cs : List Commit) → few ≤ many → AllByRecursion (IsEnded a) (take many cs) → AllByRecursion (IsEnded a) (take few cs)
ended_front a zero many cs le h = tt
ended_front a (suc few) zero cs le h = absurd (omega (arith, le))
ended_front a (suc few) (suc many) [] le h = tt
ended_front a (suc few) (suc many) (c ∷ cs) le h = (h.0, ended_front a few many cs (omega (arith, le)) h.1)

pub shows_moved : (log : List Record) (below a moved count : ℕ) (old new : View) → below ≤ a → AllByRecursion (IsEnded a) (take count old.queued) → MovesFirst moved count old.all old.queued new.all new.queued → IsPublishedOf new.all new.published → IsShowing log below old → IsShowing log a new
shows_moved log below a moved count old new low ended moves front h = record {
  parts = h.parts ∙ ap (λ (cs : List Commit). old.all ++ cs) (sym (take-append-drop moved old.queued)) ∙ sym (append_assoc old.all (take moved old.queued) (drop moved old.queued))
      ∙ ap (λ (cs : List Commit). cs ++ drop moved old.queued) (sym moves.all_are) ∙ ap (λ (cs : List Commit). new.all ++ cs) (sym moves.left);
  ended = subst (AllByRecursion (IsEnded a)) (sym moves.all_are)
      (every-append (IsEnded a) old.all (take moved old.queued) (every (IsEnded below) (IsEnded a) (λ c d. omega (arith, d, low)) old.all h.ended) (ended_front a moved count old.queued moves.few ended));
  front = front;
}

-- what is published stays a front of what the publisher has when it gets more, and all of it may be published
pub front_stays : (moved count : ℕ) (old new : View) → MovesFirst moved count old.all old.queued new.all new.queued → new.published ≡ old.published → IsPublishedOf old.all old.published → IsPublishedOf new.all new.published
front_stays moved count old new moves same front =
    subst (λ (cs : List Commit). IsPublishedOf cs new.published) (sym moves.all_are) (subst (IsPublishedOf (old.all ++ take moved old.queued)) (sym same) (go old.published front))
  where
    go : (published : Option (List Commit)) → IsPublishedOf old.all published → IsPublishedOf (old.all ++ take moved old.queued) published
    go None f = tt
    go (Some p) f = (f.0 ++ take moved old.queued, sym (append_assoc p f.0 (take moved old.queued)) ∙ ap (λ (cs : List Commit). cs ++ take moved old.queued) f.1)

pub front_whole : (new : View) → new.published ≡ Some new.all → IsPublishedOf new.all new.published
front_whole new published = subst (IsPublishedOf new.all) (sym published) (prefix_self new.all)

-- the commits are the same, and wait or do not
pub same_commits : (moved count : ℕ) (old new : View) → MovesFirst moved count old.all old.queued new.all new.queued → new.all ++ new.queued ≡ old.all ++ old.queued
same_commits moved count old new moves =
    ap (λ (cs : List Commit). cs ++ new.queued) moves.all_are ∙ ap (λ (cs : List Commit). (old.all ++ take moved old.queued) ++ cs) moves.left
    ∙ append_assoc old.all (take moved old.queued) (drop moved old.queued) ∙ ap (λ (cs : List Commit). old.all ++ cs) (take-append-drop moved old.queued)

-- how many the queue counts
abbrev pub CountsAll : List Commit → ℕ → ℕ → Type 0
CountsAll queued a count = (log : List Record) (front : List Commit) → is_valid log ≡ true → commits_of log ≡ front ++ queued → AllByRecursion (IsEnded a) front → length front + count ≡ ended_count a (commits_of log)

pub shown_count : (log : List Record) (below a count : ℕ) (view : View) → is_valid log ≡ true → below ≤ a → CountsAll view.queued a count → IsShowing log below view → length view.all + count ≡ ended_count a (commits_of log)
shown_count log below a count view v low all h = all log view.all v h.parts (every (IsEnded below) (IsEnded a) (λ c d. omega (arith, d, low)) view.all h.ended)

pub publishes_ended : (log : List Record) (below a count : ℕ) (old new : View) → is_valid log ≡ true → below ≤ a → count ≤ length old.queued → CountsAll old.queued a count → MovesFirst count count old.all old.queued new.all new.queued → new.published ≡ Some new.all
    → IsShowing log below old → published_of new ≡ Some (ended_count a (commits_of log))
publishes_ended log below a count old new v low limit all moves published h =
    ap count_of published
    ∙ ap Some (ap (λ (cs : List Commit). length cs) moves.all_are ∙ length-append old.all (take count old.queued) ∙ ap (λ n. length old.all + n) (length-take-le count old.queued limit) ∙ shown_count log below a count old v low all h)

-- ---- how many have ended

pub shown_few : (log : List Record) (a : ℕ) (view : View) → IsShowing log a view → length view.all ≤ ended_count a (commits_of log)
shown_few log a view h = omega (arith, ended_count-whole a view.all h.ended, ap (ended_count a) h.parts, ended_count-append a view.all view.queued)

-- ---- an answer

pub published_few : (log : List Record) (a : ℕ) (view : View) → IsShowing log a view → length (listed_in view.published) ≤ ended_count a (commits_of log)
published_few log a view h = go view.published h.front
  where
    go : (published : Option (List Commit)) → IsPublishedOf view.all published → length (listed_in published) ≤ ended_count a (commits_of log)
    go None f = omega arith
    go (Some p) f = omega (arith, shown_few log a view h, length-append p f.0, ap (λ (cs : List Commit). length cs) f.1)

ended_first : (a : ℕ) (xs ys : List Commit) → AllByRecursion (IsEnded a) (xs ++ ys) → AllByRecursion (IsEnded a) xs
ended_first a [] ys h = tt
ended_first a (x ∷ xs) ys h = (h.0, ended_first a xs ys h.1)

pub reads : (log : List Record) (below : ℕ) (view : View) (key : Key) (answer : Answer) → is_valid log ≡ true → IsAnswer view.pages key view.published answer → IsShowing log below view
    → ReadsFront log below view.pages key answer × (published_of view ≡ Some answer.commits)
reads log below view key answer v a h = go view.published refl h.front a
  where
    go : (published : Option (List Commit)) → view.published ≡ published → IsPublishedOf view.all published → IsAnswer view.pages key published answer → ReadsFront log below view.pages key answer × (published_of view ≡ Some answer.commits)
    go None is f a = absurd a
    go (Some p) is f a =
        let parts : commits_of log ≡ p ++ (f.0 ++ view.queued) = h.parts ∙ ap (λ (cs : List Commit). cs ++ view.queued) (sym f.1) ∙ append_assoc p f.0 view.queued in (
          reads_front log p (f.0 ++ view.queued) below view.pages key answer v parts (ended_first below p f.0 (subst (AllByRecursion (IsEnded below)) (sym f.1) h.ended)) a.0,
          ap count_of is ∙ ap Some (sym a.0.commits),
        )

-- ---- what is still to be published

pub more_ended : (log : List Record) (below a handed count : ℕ) (view : View) → length (listed_in view.published) + handed ≡ length view.all → CountsAll view.queued a count → is_valid log ≡ true → below ≤ a → IsShowing log below view
    → (length (listed_in view.published) + handed) + count ≡ ended_count a (commits_of log)
more_ended log below a handed count view sum all v low h = ap (λ n. n + count) sum ∙ shown_count log below a count view v low all h
