-- What a reader knows is of the held log.
use Rattle.std.proofs.Common.{◌≡◌, Bool, true, false, List, take, Option, Some, None}
use Rattle.std.specs.Prelude.{if◌then◌else◌}
use Rattle.als_record.specs.declared.key.Key.{Key}
use Rattle.als_record.specs.Commits.{Commit, commits_of}
use Rattle.als_view.specs.declared.answer.Answer.{Answer}
use Rattle.als_view.specs.Answers.{IsAnswer}
use Rattle.als_view.specs.Entries.{Begins}
use Rattle.als_view.specs.Reading.{ReadsFront}
use Rattle.als_view.proofs.Knowing.{reads_known}
use Rattle.als_store.specs.Stored.{acknowledged}
use Rattle.als_engine.specs.Machine.{Machine}
use Rattle.als_engine.specs.Publishing.{published_in}
use Rattle.als_engine.specs.Telling.{Stands}

pub known_reads : (m : Machine) (key : Key) (known : Option (List Commit)) (a : Answer) → Stands m
    → Begins known (published_in m) → IsAnswer m.held.pages key known a
    → ReadsFront m.held.log (acknowledged m.held) m.held.pages key a
known_reads m key known a s begins is = go m.listed begins
  where
    none : (k : Option (List Commit)) → Begins k None → IsAnswer m.held.pages key k a
        → ReadsFront m.held.log (acknowledged m.held) m.held.pages key a
    none None b answers = absurd answers
    none (Some commits) b answers = absurd b

    go : (listed : Bool)
        → Begins known (if listed then Some (take m.published (commits_of m.held.log)) else None)
        → ReadsFront m.held.log (acknowledged m.held) m.held.pages key a
    go true b =
        reads_known m.held.log (acknowledged m.held) m.published m.held.pages key known a s.valid
        s.counted b is
    go false b = none known b is
