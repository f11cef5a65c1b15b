-- What a writer of transactions of its own asks of an engine.
use Rattle.std.specs.Prelude.{◌≡◌, true, false, Option, Result, Ok, Err, MatchOption}
use Rattle.als_record.specs.declared.key.Key.{Key}
use Rattle.als_record.specs.declared.record.Record.{Record}
use Rattle.als_record.specs.Spelling.{IsKey}
use Rattle.als_store.specs.Takeover.{is_following}
use Rattle.als_store.specs.TailOwn.{TellsOwed}
use Rattle.als_store.specs.WritingOwn.{KeyNow, TellsOfOwnKey}
use Rattle.als_engine.specs.declared.fault.Fault.{Fault}
use Rattle.als_engine.specs.declared.fault.Fault.TheVariants.{BadKey, Sealed}
use Rattle.als_engine.specs.Machine.{Machine}
use Rattle.als_engine.specs.Refusals.{feed_refusal}

-- what the key has now and who holds it, of a key of the database
abbrev pub AnswersKeyNow : Machine → Key → Result KeyNow Fault → Type 0
AnswersKeyNow m key (Ok told) = TellsOfOwnKey m.held key told
AnswersKeyNow m key (Err fault) = (fault ≡ BadKey) × (IsKey m.held.pages key → ⊥)

-- the same, unless a feed is refused whatever it brings
abbrev pub TellsKeyNow : Machine → Key → Result KeyNow Fault → Type 0
TellsKeyNow m key result =
    MatchOption (feed_refusal m) (AnswersKeyNow m key result) (λ fault. result ≡ Err fault)

-- the first record of the log's tail, until the log is sealed
abbrev pub TellsNextOwed : Machine → Result (Option Record) Fault → Type 0
TellsNextOwed m (Ok found) = (is_following m.held ≡ true) × TellsOwed m.held.log found
TellsNextOwed m (Err fault) = (is_following m.held ≡ false) × (fault ≡ Sealed)
