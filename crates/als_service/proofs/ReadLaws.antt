-- What is read of a log is read of each log that goes on from it.
use Rattle.std.proofs.Common.{◌≡◌, ◌≤◌, ◌+◌, ℕ, List, [], ◌∷◌, ◌++◌, Option, ap, subst, ◌∙◌, append_assoc, arith}
use Rattle.std.specs.List.{AllByRecursion}
use Rattle.als_record.specs.declared.key.Key.{Key}
use Rattle.als_record.specs.declared.lsn.Lsn.{Lsn}
use Rattle.als_record.specs.declared.record.Record.{Record}
use Rattle.als_record.specs.Commits.{Commit, commits_of}
use Rattle.als_view.specs.declared.answer.Answer.{Answer}
use Rattle.als_view.specs.declared.front.Front.{Front}
use Rattle.als_view.specs.declared.reader.Reader.{Reader}
use Rattle.als_view.specs.Answers.{IsAnswer}
use Rattle.als_view.specs.Entries.{Begins}
use Rattle.als_view.specs.Fronts.{front_of}
use Rattle.als_view.specs.Reading.{ReadsFront}
use Rattle.als_view.specs.Views.{known_to, pages_of}
use Rattle.als_store.specs.Stored.{acknowledged}
use Rattle.als_engine.specs.Machine.{Machine}
use Rattle.als_engine.specs.Publishing.{published_in}
use Rattle.als_engine.specs.Telling.{Stands}
use Rattle.als_engine.proofs.KnownLaws.{known_reads}
use Rattle.als_report.specs.Reading.{IsRead}
use Rattle.als_share.specs.Reaching.{Reaches, ReachesFrom, IsToldFrom}
use Rattle.als_share.proofs.Reached.{reached-kept}

-- each of these commits ends at or below an offset
abbrev AllEnded : ℕ → List Commit → Type 0
AllEnded offset commits = AllByRecursion (λ (c : Commit). c.lsn.0 + 28 ≤ offset) commits

ended_later : (low high : ℕ) (commits : List Commit) → low ≤ high → AllEnded low commits → AllEnded high commits
ended_later low high [] rises all = tt
ended_later low high (c ∷ commits) rises all = (omega (arith, all.0, rises), ended_later low high commits rises all.1)

pub reads_later : (m new : Machine) (pages : ℕ) (key : Key) (a : Answer) → Stands m → Reaches m new → ReadsFront m.held.log (acknowledged m.held) pages key a
    → ReadsFront new.held.log (acknowledged new.held) pages key a
reads_later m new pages key a stands reaches r =
    let kept = reached-kept m new stands reaches in
    record {
      front = r.front;
      rest = r.rest ++ kept.keeps.more;
      parts = kept.keeps.log ∙ ap (λ (log : List Record). log ++ kept.keeps.more) r.parts ∙ append_assoc r.front r.rest kept.keeps.more;
      ends = r.ends;
      value = r.value;
      commits = r.commits;
      lsn = r.lsn;
      ended = ended_later (acknowledged m.held) (acknowledged new.held) (commits_of r.front) kept.keeps.acknowledged r.ended;
    }

-- a value that was replied, where what the reader then knew is published
pub replied : (m : Machine) (key : Key) (least : Lsn) (a : Answer) (before reader : Reader) → Stands m → pages_of before ≡ m.held.pages → Begins (known_to reader) (published_in m)
    → IsRead (pages_of before) key (known_to reader) least a → ReadsFront m.held.log (acknowledged m.held) m.held.pages key a
replied m key least a before reader stands pages begins read =
    known_reads m key (known_to reader) a stands begins (subst (λ (p : ℕ). IsAnswer p key (known_to reader) a) pages read.0)

pub told_at : (from : Option Machine) (told : Front) (reader : Reader) → IsToldFrom from told → Begins (known_to reader) (front_of told)
    → (m : Machine) × ReachesFrom from m × Begins (known_to reader) (published_in m)
told_at from told reader (m, reached, tells) begins = (m, reached, subst (Begins (known_to reader)) tells begins)
