-- Why a transaction is refused before anything is fed.
use Rattle.std.specs.Prelude.{◌≡◌, ℕ, ◌+◌, ◌*◌, ◌<◌, ◌≤◌, ◌^◌, ◌⊎◌, false, List, [], length, take, Some}
use Rattle.als_record.specs.declared.key.Key.{Key}
use Rattle.als_record.specs.declared.record.Record.{Record}
use Rattle.als_record.specs.Spelling.{IsKey}
use Rattle.als_record.specs.LogText.{end_of}
use Rattle.als_record.specs.Transactions.{unended, greatest_trans}
use Rattle.als_record.specs.Commits.{Write}
use Rattle.als_record.specs.Tail.{tail_of, reserve_of}
use Rattle.als_writing.specs.Writing.{room_for}
use Rattle.als_store.specs.Takeover.{is_following}
use Rattle.als_engine.specs.declared.fault.Fault.TheVariants.{Sealed}
use Rattle.als_engine.specs.Machine.{Machine}
use Rattle.als_engine.specs.Refusals.{feed_refusal}
use Rattle.als_writer.specs.declared.ask.Ask.{Ask}
use Rattle.als_writer.specs.declared.refusal.Refusal.{Refusal}
use Rattle.als_writer.specs.declared.refusal.Refusal.TheVariants.{Invalid, State, Untidy, Held, NotAsAsked, NumbersSpent, TooMany, LogFull, Memory, Unplanned}
use Rattle.als_writer.specs.declared.transaction.Transaction.{Transaction}
use Rattle.als_writer.specs.Checking.{IsFlaw}
use Rattle.als_writer.specs.Asking.{IsHeldBy, AreUnmet, AreFailing, unmet_by}

-- a key is not looked at: the engine takes nothing, the database has no such key, or another transaction holds it
abbrev pub KeyRefused : Machine → Key → Refusal → Type 0
KeyRefused m key (State f) = IsKey m.held.pages key → feed_refusal m ≡ Some f
KeyRefused m key (Held k by) = (k ≡ key) × IsHeldBy m.held.log k by
KeyRefused m key _ = ⊥

-- a key of the database is not looked at, or there is no memory for what the keys have
abbrev pub LookRefused : Machine → Refusal → Type 0
LookRefused m (State f) = feed_refusal m ≡ Some f
LookRefused m (Held key by) = IsHeldBy m.held.log key by
LookRefused m (Memory owed) = owed ≡ false
LookRefused m _ = ⊥

-- the log device has no room for a transaction with its reserve, or the log all but reaches 2^64
abbrev pub IsFull : Machine → List Write → Type 0
IsFull m ws =
    (512 * m.held.blocks < end_of m.held.log + reserve_of m.held.log + room_for m.held.log (greatest_trans m.held.log + 1) ws)
    ⊎ (2 ^ 64 ≤ end_of m.held.log + 131072)

-- the same, of a transaction that takes so many bytes besides
abbrev pub IsFullBeside : ℕ → Machine → List Write → Type 0
IsFullBeside extra m ws =
    (512 * m.held.blocks < end_of m.held.log + reserve_of m.held.log + room_for m.held.log (greatest_trans m.held.log + 1) ws + extra)
    ⊎ (2 ^ 64 ≤ end_of m.held.log + 131072)

-- why a transaction is not planned
abbrev pub PlanRefused : Machine → Transaction → Refusal → Type 0
PlanRefused m t (Invalid flaw) = IsFlaw m.held.pages t flaw
PlanRefused m t (State f) = (feed_refusal m ≡ Some f) ⊎ ((f ≡ Sealed) × (is_following m.held ≡ false))
PlanRefused m t Untidy = (m.partial ≡ [] → ⊥) ⊎ (tail_of m.held.log ≡ [] → ⊥)
PlanRefused m t (Held key by) = IsHeldBy m.held.log key by
PlanRefused m t (NotAsAsked failing) = AreUnmet m.held.log t.asks.items failing
PlanRefused m t NumbersSpent = greatest_trans m.held.log + 1 ≡ 2 ^ 32
PlanRefused m t TooMany = 256 ≤ length (unended m.held.log)
PlanRefused m t LogFull = IsFull m t.sets.items
PlanRefused m t (Memory owed) = owed ≡ false
PlanRefused m t (Unplanned f) = ⊥

-- why a transaction is not planned that takes so many bytes besides
abbrev pub PlanRefusedBeside : ℕ → Machine → Transaction → Refusal → Type 0
PlanRefusedBeside extra m t LogFull = IsFullBeside extra m t.sets.items
PlanRefusedBeside extra m t refusal = PlanRefused m t refusal

-- a refusal that shows asks shows the first eight that do not hold, and each other ask holds
abbrev pub ShowsFailing : List Record → List Ask → Refusal → Type 0
ShowsFailing log asks (NotAsAsked failing) = AreFailing log asks failing
ShowsFailing log asks _ = Unit {0}

-- a refusal that shows asks shows the first eight that are not met by these bounds of the last commits
abbrev pub ShowsUnmet : List ℕ → List Record → List Ask → Refusal → Type 0
ShowsUnmet bounds log asks (NotAsAsked failing) = failing ≡ take 8 (unmet_by bounds log asks)
ShowsUnmet bounds log asks _ = Unit {0}

-- records are owed or wait, or the log was sealed
abbrev pub TidyRefused : Machine → Refusal → Type 0
TidyRefused m Untidy = (m.partial ≡ [] → ⊥) ⊎ (tail_of m.held.log ≡ [] → ⊥)
TidyRefused m (State f) = (f ≡ Sealed) × (is_following m.held ≡ false)
TidyRefused m _ = ⊥

-- no new transaction may begin, or there is no room for it with so many bytes besides
abbrev pub StartRefused : ℕ → Machine → List Write → Refusal → Type 0
StartRefused extra m ws NumbersSpent = greatest_trans m.held.log + 1 ≡ 2 ^ 32
StartRefused extra m ws TooMany = 256 ≤ length (unended m.held.log)
StartRefused extra m ws LogFull = IsFullBeside extra m ws
StartRefused extra m ws _ = ⊥
