-- Why an event is refused before it does anything.
use Rattle.std.specs.Prelude.{◌≡◌, ℕ, nat_lt, nat_le, Bool, true, false, not, ◌||◌, is_some, is_none}
use Rattle.std.specs.Prelude.{List, [], ◌∷◌, ◌++◌, length, ◌==◌, Option, Some, None, MatchOption}
use Rattle.std.specs.Prelude.{Result, Ok, Err}
use Rattle.std.specs.Prelude.{if◌then◌else◌}
use Rattle.als_record.specs.LogText.{end_of}
use Rattle.als_record.specs.Tail.{is_undone}
use Rattle.als_record.specs.Transactions.{is_in_doubt}
use Rattle.als_ckpt.specs.declared.region.Region.{Region}
use Rattle.als_ckpt.specs.declared.region.Region.TheVariants.{First, Second}
use Rattle.als_ckpt.specs.Regions.{Begun, blocks_of, position_of}
use Rattle.als_pool.specs.Pooled.{view_of}
use Rattle.als_pool.specs.Refusals.{is_lent, has_waiting, are_spent, is_full as has_no_frame}
use Rattle.als_pool.specs.Refusals.{is_due, is_behind}
use Rattle.als_store.specs.Stored.{Stored, newest, pending_of, acknowledged}
use Rattle.als_store.specs.Takeover.{is_following, is_primary, is_drained, history_of}
use Rattle.als_epochs.specs.declared.fault.Fault.{Fault as EpochFault}
use Rattle.als_epochs.specs.declared.step.Step.{Step as Judged}
use Rattle.als_epochs.specs.declared.step.Step.TheVariants.{Stay, Adopt}
use Rattle.als_epochs.specs.Histories.{last_seal}
use Rattle.als_epochs.specs.Judging.{judged}
use Rattle.als_engine.specs.declared.fault.Fault.{Fault}
use Rattle.als_engine.specs.declared.fault.Fault.TheVariants.{Recovering, Sealed, LogBehind}
use Rattle.als_engine.specs.declared.fault.Fault.TheVariants.{NotDrained, CkptBusy, PoolFull}
use Rattle.als_engine.specs.declared.fault.Fault.TheVariants.{NothingToDo, Stopped, Backlog}
use Rattle.als_engine.specs.declared.fault.Fault.TheVariants.{NotSealed, PageLent, NumbersSpent}
use Rattle.als_engine.specs.declared.fault.Fault.TheVariants.{NotPrimary, NotInDoubt, EpochsSpent}
use Rattle.als_engine.specs.Faults.{from_epochs}
use Rattle.als_engine.specs.declared.step.Step.{Step}
use Rattle.als_engine.specs.declared.step.Step.TheVariants as step
use Rattle.als_engine.specs.Machine.{Machine}
use Rattle.als_engine.specs.Readers.{ended_in}

-- ---- the causes

-- a write or a sync has failed
abbrev pub has_stopped : Machine → Bool × Fault
has_stopped m = (m.held.broken, Stopped)

-- the engine was opened, and is not ready yet
abbrev pub is_recovering : Machine → Bool × Fault
is_recovering m = (m.held.recovering, Recovering)

-- it was not opened, or is ready
abbrev pub is_ready : Machine → Bool × Fault
is_ready m = (not m.held.recovering, NothingToDo)

-- the log was sealed
abbrev pub has_sealed : Machine → Bool × Fault
has_sealed m = (not (is_following m.held), Sealed)

-- it was not sealed yet
abbrev pub is_unsealed : Machine → Bool × Fault
is_unsealed m = (is_following m.held, NotSealed)

-- the log is not synced to its end
abbrev pub is_unsynced : Stored → Bool
is_unsynced held = nat_lt held.synced (end_of held.log)

-- the history has room for no more seals
abbrev pub is_spent : Stored → Bool
is_spent held = length (history_of held) == 32

-- the log ends below the last seal of the history
abbrev pub is_below_seal : Stored → Bool
is_below_seal held = nat_lt (end_of held.log) (last_seal (history_of held))

-- an offered history is the own one, or it is refused by the judgement on it
abbrev pub not_adopted : Result Judged EpochFault → List (Bool × Fault)
not_adopted (Ok Stay) = (true, NothingToDo) ∷ []
not_adopted (Ok Adopt) = []
not_adopted (Err fault) = (true, from_epochs fault) ∷ []

-- the judgement on an offered history
abbrev pub judgement_on : Stored → List ℕ → Result Judged EpochFault
judgement_on held offered = judged (history_of held) offered (end_of held.log)

-- a fault of the log was met, and is kept until a resync
abbrev pub has_refused : Option Fault → List (Bool × Fault)
has_refused None = []
has_refused (Some fault) = (true, fault) ∷ []

-- as many changes are pending as the limit allows
abbrev pub is_full : Machine → Bool
is_full m = nat_le m.limit (pending_of m.held)

-- a change waits for redo
abbrev pub is_pending : Stored → Bool
is_pending held = nat_lt 0 (pending_of held)

-- each commit that ends at or below what is acknowledged is published
abbrev pub is_published : Machine → Bool
is_published m = nat_le (ended_in m.held) m.published

-- the log has bytes that are not written
abbrev pub is_unwritten : Stored → Bool
is_unwritten held = nat_lt held.written (end_of held.log)

-- the synced end is above the last mark written
abbrev pub is_unmarked : Stored → Bool
is_unmarked held = nat_lt (newest held).mark.0 held.synced

-- whether the same region is published
abbrev pub same_region : Option Region → Option Region → Bool
same_region None None = true
same_region (Some First) (Some First) = true
same_region (Some Second) (Some Second) = true
same_region a b = false

-- a checkpoint is begun, or the last publish is not synced
abbrev pub is_ckpt_busy : Stored → Bool
is_ckpt_busy held =
    is_some held.begun || not (same_region (newest held).published held.control.published)

-- a block of the checkpoint is not written
abbrev pub has_block : Option Begun → Bool
has_block None = false
has_block (Some b) = nat_lt b.written (blocks_of b.checkpoint)

-- a block of it is not written and synced
abbrev pub is_partly_synced : Option Begun → Bool
is_partly_synced None = false
is_partly_synced (Some b) = nat_lt b.synced (blocks_of b.checkpoint)

-- its position is above an offset
abbrev pub is_ahead_of : Option Begun → Stored → Bool
is_ahead_of None held = false
is_ahead_of (Some b) held = nat_lt (acknowledged held) (position_of b)

-- ---- the table: each event's causes, in the order in which they are looked at

-- of a feed, whatever the piece
abbrev pub feed_causes : Machine → List (Bool × Fault)
feed_causes m =
    has_stopped m ∷ is_recovering m ∷ has_sealed m ∷ has_refused m.refused
    ++ (is_full m, Backlog) ∷ []

abbrev pub causes : Machine → Step → List (Bool × Fault)
causes m (step.Feed piece) = feed_causes m
causes m step.Resync = has_stopped m ∷ is_recovering m ∷ has_sealed m ∷ []
causes m (step.Recall page) = has_stopped m ∷ (not (is_lent m.held.pool page), NothingToDo) ∷ []
causes m (step.Flush page) =
    has_stopped m ∷ (is_lent m.held.pool page, PageLent)
    ∷ (not (is_due (view_of m.held.pool page)), NothingToDo)
    ∷ (is_behind (view_of m.held.pool page) (acknowledged m.held), LogBehind) ∷ []
causes m step.SyncPages = has_stopped m ∷ []
causes m step.LogWrite = has_stopped m ∷ (not (is_unwritten m.held), NothingToDo) ∷ []
causes m step.LogSync = has_stopped m ∷ []
causes m step.MarkWrite = has_stopped m ∷ (not (is_unmarked m.held), NothingToDo) ∷ []
causes m step.ControlSync = has_stopped m ∷ []
causes m step.PublishView = has_stopped m ∷ is_recovering m ∷ (is_published m, NothingToDo) ∷ []
causes m step.Ready = has_stopped m ∷ is_ready m ∷ (is_pending m.held, NotDrained) ∷ []
causes m step.Seal =
    has_stopped m ∷ is_recovering m ∷ has_sealed m ∷ (is_spent m.held, EpochsSpent)
    ∷ (is_unsynced m.held, LogBehind) ∷ (is_below_seal m.held, LogBehind) ∷ []
causes m (step.Adopt offered) =
    has_stopped m ∷ is_recovering m ∷ has_sealed m ∷ not_adopted (judgement_on m.held offered)
causes m step.UndoOne =
    has_stopped m ∷ is_recovering m ∷ is_unsealed m
    ∷ (is_undone m.held.log, NothingToDo) ∷ []
causes m step.Finish =
    has_stopped m ∷ is_recovering m ∷ is_unsealed m ∷ (is_primary m.held, NothingToDo)
    ∷ (not (is_drained m.held), NotDrained) ∷ []
causes m (step.Resolve trans verdict) =
    has_stopped m ∷ is_recovering m ∷ (not (is_primary m.held), NotPrimary)
    ∷ (not (is_in_doubt m.held.log trans.0), NotInDoubt) ∷ []
causes m step.CkptBegin = has_stopped m ∷ (is_ckpt_busy m.held, CkptBusy) ∷ []
causes m step.CkptBlock = has_stopped m ∷ (not (has_block m.held.begun), NothingToDo) ∷ []
causes m step.CkptPublish =
    has_stopped m ∷ (is_none m.held.begun, NothingToDo) ∷ (is_partly_synced m.held.begun, CkptBusy)
    ∷ (is_ahead_of m.held.begun m.held, LogBehind) ∷ []

-- of a lend, and of a give whatever its lease
abbrev pub lend_causes : Machine → ℕ → List (Bool × Fault)
lend_causes m page =
    has_stopped m ∷ (is_lent m.held.pool page, PageLent)
    ∷ (not (has_waiting m.held.pool page), NothingToDo) ∷ (are_spent m.held.pool, NumbersSpent)
    ∷ (has_no_frame m.held.pool page, PoolFull) ∷ []

abbrev pub give_causes : Machine → List (Bool × Fault)
give_causes m = has_stopped m ∷ []

-- the fault of the first cause that stands
abbrev pub first_of : List (Bool × Fault) → Option Fault
first_of [] = None
first_of (cause ∷ rest) = if cause.0 then Some cause.1 else first_of rest

-- the fault by which an event is refused, if it is
abbrev pub refusal : Machine → Step → Option Fault
refusal m event = first_of (causes m event)

-- the fault by which a feed is refused before it takes anything, if it is
abbrev pub feed_refusal : Machine → Option Fault
feed_refusal m = first_of (feed_causes m)

-- An event that is refused by one of its causes changes nothing, and answers its fault; any other
-- one acts.
abbrev pub DoesBy : {A B : Type 0} → List (Bool × Fault) → (Fault → B)
    → (Result A B → Machine → Type 0) → Machine → Result A B → Machine → Type 0
DoesBy causes answer acts old result new =
    MatchOption (first_of causes) (acts result new)
    (λ fault. (result ≡ Err (answer fault)) × (new ≡ old))

-- the same of an event of the table
abbrev pub Does : {A : Type 0} → Machine → Step → (Result A Fault → Machine → Type 0)
    → Result A Fault → Machine → Type 0
Does old event acts result new =
    MatchOption (refusal old event) (acts result new) (λ fault. (result ≡ Err fault) × (new ≡ old))
