-- The control block of a database: what it says, its bytes, and what is known of it between two syncs.
use Rattle.std.specs.Prelude.{◌≡◌, ◌≢◌, ◌⊎◌, ℕ, ◌+◌, ◌-◌, ◌*◌, ◌≤◌, Bool, true, List, [], ◌∷◌, ◌++◌, length, replicate, Option, None, Some, Contains, codes}
use Rattle.std.specs.Int.{w32, w64, to_be_bytes}
use Rattle.als_ckpt.specs.declared.phase.Phase.{Phase}
use Rattle.als_ckpt.specs.declared.phase.Phase.TheVariants.{Following, Sealed, Primary}
use Rattle.als_ckpt.specs.declared.region.Region.{Region}
use Rattle.als_ckpt.specs.declared.region.Region.TheVariants.{First, Second}
use Rattle.als_ckpt.specs.declared.control_state.ControlState.{ControlState}
use Rattle.als_disk.specs.Slot.{Slot, only}
use Rattle.als_epochs.specs.Histories.{IsHistory, RisesFrom, GoesOn, last_seal, next_seal, seals_bytes}
use Rattle.als_ckpt_codec.specs.declared.checkpoint.Checkpoint.{Checkpoint}
use Rattle.als_ckpt_codec.specs.Checkpoint.{IsCheckpoint}
use Rattle.als_ckpt.specs.Regions.{Held, nothing_held, held_in, held_at, with_held, next_region, Said, Begun, IsBegun, IsPublished, block_written, blocks_synced}

-- the byte of a phase
abbrev pub phase_byte : Phase → ℕ
phase_byte Following = 1
phase_byte Sealed = 2
phase_byte Primary = 3

-- the byte of the published region, 0 for none
abbrev pub region_byte : Option Region → ℕ
region_byte None = 0
region_byte (Some First) = 1
region_byte (Some Second) = 2

-- the front of a control block: a text, the version, the phase, the published region, the page count, mark, position and seal
unfoldable pub control_head : ℕ → ℕ → ControlState → List ℕ
control_head version pages s =
    codes "ALSCTL01" ++ (0 ∷ version ∷ phase_byte s.phase ∷ region_byte s.published ∷ (to_be_bytes w32 pages
    ++ (to_be_bytes w64 s.mark.0 ++ (to_be_bytes w64 s.position.0 ++ to_be_bytes w64 s.seal.0))))

-- what stands behind it: the epoch, four zeros, the seals of the history, and zeros to the block's end
unfoldable pub history_part : List ℕ → List ℕ
history_part seals = to_be_bytes w32 (length seals) ++ (replicate 4 0 ++ (seals_bytes seals ++ replicate (464 - 8 * length seals) 0))

-- the control block of a database with this many pages, which is version 2
abbrev pub control_block : ℕ → ControlState → List ℕ
control_block pages s = control_head 2 pages s ++ history_part s.history

-- the control block of version 1, which has no history: zeros stand there
abbrev pub version_1_block : ℕ → ControlState → List ℕ
version_1_block pages s = control_head 1 pages s ++ replicate 472 0

-- the history that version 1 implies: none while the log follows its source; from then on the one seal
abbrev pub implied_history : Phase → ℕ → List ℕ
implied_history Following seal = []
implied_history Sealed seal = seal ∷ []
implied_history Primary seal = seal ∷ []

-- a content spells a control state of a database with so many pages: it is its control block, or the block of version 1 of a
-- state whose history is what that version implies
abbrev pub Spells : ℕ → ControlState → List ℕ → Type 0
Spells pages state content =
    (content ≡ control_block pages state) ⊎ ((content ≡ version_1_block pages state) × (state.history ≡ implied_history state.phase state.seal.0))

-- A block spells the state, and a crash leaves nothing else of it.
pub record HoldsState (pages : ℕ) (slot : Slot) (state : ControlState) : Type 0 where
  pub content : List ℕ
  pub block : slot ≡ only content
  pub spelled : Spells pages state content

-- these contents spell these states, one each, in order
abbrev pub AreBlocks : ℕ → List ControlState → List (List ℕ) → Type 0
AreBlocks pages [] [] = Unit {0}
AreBlocks pages [] (content ∷ contents) = ⊥
AreBlocks pages (state ∷ states) [] = ⊥
AreBlocks pages (state ∷ states) (content ∷ contents) = Spells pages state content × AreBlocks pages states contents

-- a checkpoint's position is 0 exactly where no region is published, else from 16 to the mark
abbrev pub IsPosition : Option Region → ℕ → ℕ → Type 0
IsPosition None mark position = position ≡ 0
IsPosition (Some region) mark position = (16 ≤ position) × (position ≤ mark)

-- there is no seal while the log follows its source; from then on it is from 16 to the mark
abbrev pub IsSeal : Phase → ℕ → ℕ → Type 0
IsSeal Following mark seal = seal ≡ 0
IsSeal Sealed mark seal = (16 ≤ seal) × (seal ≤ mark)
IsSeal Primary mark seal = (16 ≤ seal) × (seal ≤ mark)

-- once the log is sealed, the last seal of the history is its own
abbrev pub IsLastSeal : Phase → List ℕ → ℕ → Type 0
IsLastSeal Following history seal = Unit {0}
IsLastSeal Sealed history seal = last_seal history ≡ seal
IsLastSeal Primary history seal = last_seal history ≡ seal

-- A control state as the format admits it, for a log device of so many bytes. No seal of its history is below 16 or below the one
-- before it.
pub record IsControlState (log_bytes : ℕ) (s : ControlState) : Type 0 where
  pub begins : 16 ≤ s.mark.0
  pub in_log : s.mark.0 ≤ log_bytes
  pub position : IsPosition s.published s.mark.0 s.position.0
  pub seal : IsSeal s.phase s.mark.0 s.seal.0
  pub history : IsHistory s.history
  pub lsns : RisesFrom 16 s.history
  pub last : IsLastSeal s.phase s.history s.seal.0

-- the control state of a new database
abbrev pub first_state : ControlState
first_state = record {
  phase = Following;
  published = None;
  mark = record { 0 = 16 };
  position = record { 0 = 0 };
  seal = record { 0 = 0 };
  history = [];
}

-- The control block of a database with so many pages and a log device of so many bytes: the state of the last sync, and
-- each that was written since, that of a failed write too. It is sure where no write has failed since that sync: a read
-- gives the last state then. The control device has so many blocks, has failed so often, and was called so often to write
-- or to sync. Its regions hold checkpoints whatever a crash leaves, and one may be on its way there.
pub record Controlled : Type 0 where
  pub pages : ℕ
  pub log_bytes : ℕ
  pub synced : ControlState
  pub since : List ControlState
  pub sure : Bool
  pub blocks : ℕ
  pub failures : ℕ
  pub attempts : ℕ
  pub held : Held
  pub begun : Option Begun

-- a control block of which the synced state alone stands, and no checkpoint
abbrev pub new_control : ℕ → ℕ → ControlState → ℕ → ℕ → ℕ → Controlled
new_control pages log_bytes state blocks failures attempts = record {
  pages = pages;
  log_bytes = log_bytes;
  synced = state;
  since = [];
  sure = true;
  blocks = blocks;
  failures = failures;
  attempts = attempts;
  held = nothing_held;
  begun = None;
}

-- the last of a state and those that follow it
abbrev pub last_state : ControlState → List ControlState → ControlState
last_state state [] = state
last_state state (next ∷ rest) = last_state next rest

-- the state that was written last
abbrev pub newest : Controlled → ControlState
newest control = last_state control.synced control.since

-- the state is the synced one or one that was written since, so a crash may leave it
abbrev pub IsAmong : Controlled → ControlState → Type 0
IsAmong control s = Contains (control.synced ∷ control.since) s

-- the content spells one of these states
pub record IsBlockOf (pages : ℕ) (states : List ControlState) (content : List ℕ) : Type 0 where
  pub state : ControlState
  pub among : Contains states state
  pub spelled : Spells pages state content

-- marks never fall from one state to the next
abbrev pub MarksRise : ControlState → List ControlState → Type 0
MarksRise state [] = Unit {0}
MarksRise state (next ∷ rest) = (state.mark.0 ≤ next.mark.0) × MarksRise next rest

-- The history of the later state goes on from that of the earlier one, whose mark is at or below the first seal that it lacks.
pub record Continues (before after : ControlState) : Type 0 where
  pub history : GoesOn before.history after.history
  pub below : (seal : ℕ) → next_seal before.history after.history ≡ Some seal → before.mark.0 ≤ seal

-- no history falls from one state to the next, and none goes on with a seal below the mark
abbrev pub HistoriesGrow : ControlState → List ControlState → Type 0
HistoriesGrow state [] = Unit {0}
HistoriesGrow state (next ∷ rest) = Continues state next × HistoriesGrow next rest

-- the state and the checkpoint that it publishes
abbrev pub said_of : Controlled → ControlState → Said
said_of control s = record { state = s; checkpoint = held_at control.held s.published }

-- the region of the next checkpoint
abbrev pub free_region : Controlled → Region
free_region control = next_region (newest control).published

-- A checkpoint can be begun and published: it is one of this database, at a position where a record may stand.
pub record IsBeginning (pages : ℕ) (c : Checkpoint) : Type 0 where
  pub is_checkpoint : IsCheckpoint pages c.numbers.position.0 c
  pub position : 16 ≤ c.numbers.position.0

-- While a checkpoint is begun every state names the same region, and the checkpoint goes to the other one.
pub record IsApart (pages : ℕ) (synced newest : ControlState) (held : Held) (b : Begun) : Type 0 where
  pub same : newest.published ≡ synced.published
  pub apart : b.region ≡ next_region newest.published
  pub unknown : held_in held b.region ≡ None
  pub beginning : IsBeginning pages b.checkpoint

-- the same where one is begun
abbrev pub IsApartIf : ℕ → ControlState → ControlState → Held → Option Begun → Type 0
IsApartIf pages synced newest held None = Unit {0}
IsApartIf pages synced newest held (Some b) = IsBegun b × IsApart pages synced newest held b

-- What is true of each control block: a crash leaves a state that the format admits, whose mark is at least that of the
-- synced state and at most that of the newest. It continues the synced state, and the newest continues it. It names the region that
-- the synced state names, or that of the newest, and that region holds the state's checkpoint.
pub record IsControlled (control : Controlled) : Type 0 where
  pub room : 321 ≤ control.blocks
  pub fits : (s : ControlState) → IsAmong control s → IsControlState control.log_bytes s
  pub rising : MarksRise control.synced control.since
  pub from_synced : (s : ControlState) → IsAmong control s → control.synced.mark.0 ≤ s.mark.0
  pub to_newest : (s : ControlState) → IsAmong control s → s.mark.0 ≤ (newest control).mark.0
  pub growing : HistoriesGrow control.synced control.since
  pub grown_from : (s : ControlState) → IsAmong control s → Continues control.synced s
  pub grown_to : (s : ControlState) → IsAmong control s → Continues s (newest control)
  pub named : (s : ControlState) → IsAmong control s → IsPublished control.pages s.published s.position.0 (held_at control.held s.published)
  pub places : (s : ControlState) → IsAmong control s → (s.published ≡ control.synced.published) ⊎ (s.published ≡ (newest control).published)
  pub apart : IsApartIf control.pages control.synced (newest control) control.held control.begun

-- the newest state alone stands, and the blocks that are written of a checkpoint, after one sync
abbrev pub settled : Controlled → Controlled
settled control = record control { synced = newest control; since = []; attempts = control.attempts + 1; begun = blocks_synced control.begun }

-- one more state is written, by one write
abbrev pub with_state : Controlled → ControlState → Controlled
with_state control s = record control { since = control.since ++ s ∷ []; attempts = control.attempts + 1 }

-- ---- checkpoints

-- no checkpoint can be begun: one is, or the last publish is not synced
abbrev pub IsBusy : Controlled → Type 0
IsBusy control = (control.begun ≢ None) ⊎ ((newest control).published ≢ control.synced.published)

-- the state names the region that the newest names, or another one where no checkpoint is begun and the last publish is synced
abbrev pub MayName : Controlled → ControlState → Type 0
MayName control s = (s.published ≡ (newest control).published) ⊎ ((control.begun ≡ None) × ((newest control).published ≡ control.synced.published))

-- a checkpoint is begun: none of its blocks is written, and what its region held may go away
abbrev pub with_begun : Controlled → Checkpoint → Controlled
with_begun control c = record control {
  held = with_held control.held (free_region control) None;
  begun = Some (record { region = free_region control; checkpoint = c; written = 0; synced = 0 });
}

-- the next block of the checkpoint is written, by one write
abbrev pub with_next : Controlled → Controlled
with_next control = record control { begun = block_written control.begun; attempts = control.attempts + 1 }

-- the newest state with another checkpoint
abbrev pub publishing : ControlState → Begun → ControlState
publishing s b = record s { published = Some b.region; position = b.checkpoint.numbers.position }

-- the region of a whole checkpoint holds it, and none is begun any more
abbrev pub with_whole : Controlled → Begun → Controlled
with_whole control b = record control { held = with_held control.held b.region (Some b.checkpoint); begun = None }

-- the checkpoint is published, by one write
abbrev pub published : Controlled → Begun → Controlled
published control b = with_state (with_whole control b) (publishing (newest control) b)
