-- A view, and what it shows of a log.
use Rattle.std.specs.Prelude.{◌≡◌, ℕ, List, [], ◌++◌, length, Option, Some, None, IfSome}
use mathlib.Core.List.{IsPrefix}
use Rattle.std.specs.List.{AllByRecursion}
use Rattle.logbook.specs.Pages.{Book}
use Rattle.als_record.specs.declared.record.Record.{Record}
use Rattle.als_record.specs.Commits.{Commit, commits_of}
use Rattle.als_commits.specs.Counting.{IsEnded}

-- How many pages the database has, which view it is, the published list, none before it is open, all commits that are published or
-- handed to the publisher, those that wait behind them, and how many more the queue takes without memory.
pub record View : Type 0 where
  pub pages : ℕ
  pub book : Book
  pub published : Option (List Commit)
  pub all : List Commit
  pub queued : List Commit
  pub room : ℕ

-- the published list is a front of these commits
abbrev pub IsPublishedOf : List Commit → Option (List Commit) → Type 0
IsPublishedOf all published = IfSome published (λ commits. IsPrefix commits all)

-- The view is of the log, of which an offset is acknowledged: the commits of the log are those that the publisher has and then those that
-- wait. Those that the publisher has end at or below the offset, and the published ones are the first of them.
pub record IsShowing (log : List Record) (acknowledged : ℕ) (view : View) : Type 0 where
  pub parts : commits_of log ≡ view.all ++ view.queued
  pub ended : AllByRecursion (IsEnded acknowledged) view.all
  pub front : IsPublishedOf view.all view.published

-- All commits of the log wait: the publisher has none, and there is no list yet.
pub record IsWarming (pages : ℕ) (log : List Record) (view : View) : Type 0 where
  pub pages_are : view.pages ≡ pages
  pub unlisted : view.published ≡ None
  pub none : view.all ≡ []
  pub queued : view.queued ≡ commits_of log

-- how many commits are published; none where there is no list
abbrev pub count_of : Option (List Commit) → Option ℕ
count_of None = None
count_of (Some commits) = Some (length commits)

abbrev pub published_of : View → Option ℕ
published_of view = count_of view.published
