-- What a publishing of commits makes of the small machine, and what a reader is answered.
use Rattle.std.specs.Prelude.{◌≡◌, ◌⊎◌, ◌<◌, true, false, List, take, Option, Some, None, Result, Ok, Err, if◌then◌else◌}
use Rattle.als_record.specs.declared.key.Key.{Key}
use Rattle.als_record.specs.Commits.{Commit, commits_of}
use Rattle.als_view.specs.declared.answer.Answer.{Answer}
use Rattle.als_view.specs.declared.front.Front.{Front}
use Rattle.als_view.specs.Fronts.{front_of}
use Rattle.als_view.specs.Reading.{ReadsFront}
use Rattle.als_store.specs.Stored.{acknowledged}
use Rattle.als_engine.specs.declared.fault.Fault.{Fault}
use Rattle.als_engine.specs.declared.fault.Fault.TheVariants.{Warming, Memory, Stopped}
use Rattle.als_engine.specs.declared.step.Step.TheVariants as step
use Rattle.als_engine.specs.Machine.{Machine}
use Rattle.als_engine.specs.Readers.{ended_in}
use Rattle.als_engine.specs.Refusals.{Does}

-- the published commits are all of the held log that end at or below what is acknowledged: more
-- than before; or an allocation failed, and nothing changed
abbrev pub PublishesEnded : Machine → Result (Unit {0}) Fault → Machine → Type 0
PublishesEnded old (Ok done) new =
    (old.published < ended_in old.held)
    × (new ≡ record old { listed = true; published = ended_in old.held })
PublishesEnded old (Err fault) new = (fault ≡ Memory) × (new ≡ old)

abbrev pub PublishesView : Machine → Result (Unit {0}) Fault → Machine → Type 0
PublishesView old result new = Does old step.PublishView (PublishesEnded old) result new

-- What the committed transactions of a front of the held log left at a key: the front ends with the
-- last published commit, and all its commits are acknowledged. Or there is no list of published
-- commits yet, or the entry of the reader was refused.
abbrev pub ReadsKey : Machine → Key → Result Answer Fault → Type 0
ReadsKey m key (Ok answer) =
    ReadsFront m.held.log (acknowledged m.held) m.held.pages key answer
    × (m.listed ≡ true) × (answer.commits ≡ m.published)
ReadsKey m key (Err fault) = ((fault ≡ Warming) × (m.listed ≡ false)) ⊎ (fault ≡ Stopped)

-- the published commits, the first of the held log, where there is a list
abbrev pub published_in : Machine → Option (List Commit)
published_in m = if m.listed then Some (take m.published (commits_of m.held.log)) else None

-- What readers are told is each published commit.
abbrev pub TellsReaders : Machine → Front → Type 0
TellsReaders m told = front_of told ≡ published_in m
