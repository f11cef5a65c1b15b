-- An engine is ready again after each event.
use Rattle.std.proofs.Common.{◌≡◌, ℕ, ◌≤◌, ◌⊎◌, List, [], ◌∷◌, ◌++◌, Option, Some, None, inl, inr}
use Rattle.std.proofs.Common.{refl, sym, subst, arith}
use Rattle.std.specs.Prelude.{◌+◌, Bool, true, IsSomeAnd}
use Rattle.als_record.specs.declared.lsn.Lsn.{Lsn}
use Rattle.als_record.specs.declared.record.Record.{Record}
use Rattle.als_record.specs.LogText.{end_of}
use Rattle.als_receiver.specs.Reception.{Reception, fresh}
use Rattle.als_ckpt.specs.declared.control_state.ControlState.{ControlState}
use Rattle.als_ckpt.specs.Control.{last_state}
use Rattle.als_ckpt.specs.Regions.{Begun}
use Rattle.als_pool.specs.Pooled.{Pooled}
use Rattle.als_store.specs.declared.fault.Fault.{Fault as StoreFault}
use Rattle.als_store.specs.declared.fault.Fault.TheVariants.{NothingToDo, Device}
use Rattle.als_store.specs.Stored.{Stored, formatted, acknowledged, newest}
use Rattle.als_store.specs.Takeover.{WritesState, BreaksState, UndoesOne, NotUndone, Resolves}
use Rattle.als_store.specs.declared.decision.Decision.{Decision}
use Rattle.als_store.specs.CheckpointEvents.{Publishes, BreaksPublish, NotPublished}
use Rattle.als_store.specs.CheckpointEvents.{with_checkpoint}
use Rattle.als_store.specs.declared.fault.Fault.TheVariants as store_fault
use Rattle.als_record.specs.declared.cause.Cause.TheVariants as record_cause
use Rattle.als_engine.specs.Faults.{from_store}
use Rattle.als_store.specs.Events.{marked, HasUnmarked, WritesMark, BreaksMark}
use Rattle.als_engine.specs.declared.fault.Fault.{Fault}
use Rattle.als_engine.specs.declared.fault.Fault.TheVariants.{Device as DeviceFailed}
use Rattle.als_engine.specs.declared.fault.Fault.TheVariants.{Memory}
use Rattle.als_engine.specs.Feeds.{grown, kept_fault}
use Rattle.als_engine.specs.TakingIn.{Rests, IsReady}
use Rattle.als_engine.proofs.TakingLaws.{rests_new, rests_again}
use Rattle.als_engine.proofs.RoomLaws.{kept_fault-want}

-- the control state written last is the last one
pub last_state-push : (state : ControlState) (since : List ControlState) (next : ControlState)
    → last_state state (since ++ next ∷ []) ≡ next
last_state-push state [] next = refl
last_state-push state (x ∷ rest) next = last_state-push x rest next

-- an engine that refuses nothing does not refuse for want of memory
pub none_is_no_some : (f : Fault) → ◌≡◌ {A = Option Fault} None (Some f) → ⊥
none_is_no_some f e = cc e

pub ready_new : (held : Stored) (receiver : Reception) (pages : ℕ) (pool : Pooled)
    (blocks failures attempts : ℕ) → held ≡ formatted pages pool blocks failures attempts
    → receiver ≡ fresh 16 pages → IsReady held receiver None
ready_new held receiver pages pool blocks failures attempts e f = record {
  rests = rests_new held receiver pages pool blocks failures attempts e f;
  marks = subst (λ (h : Stored). acknowledged h ≤ (newest h).mark.0) (sym e) (omega arith);
  no_want = none_is_no_some Memory;
}

-- an engine over devices that were taken up again
pub ready_opened : (held : Stored) (receiver : Reception) (end pages : ℕ) → held.since ≡ []
    → receiver ≡ fresh end pages → end ≡ end_of held.log → pages ≡ held.pages
    → IsReady held receiver None
ready_opened held receiver end pages none f at same = record {
  rests = rests_again held receiver end pages f at same;
  marks = subst (λ (since : List ControlState). acknowledged held
      ≤ (last_state held.control since).mark.0) (sym none) (omega arith);
  no_want = none_is_no_some Memory;
}

-- a log that grew has the same marks
pub ready_grown : (held new : Stored) (receiver after : Reception) (refused : Option Fault)
    (records : List Record) → IsReady held receiver refused → new ≡ grown held records
    → Rests new after → IsReady new after refused
ready_grown held new receiver after refused records ready e rests = record {
  rests = rests;
  marks = subst (λ (h : Stored). acknowledged h ≤ (newest h).mark.0) (sym e) ready.marks;
  no_want = ready.no_want;
}

pub ready_again : (held new : Stored) (receiver after : Reception) (refused : Option Fault)
    (fault : Fault) (records : List Record) (end pages : ℕ) → IsReady held receiver refused
    → new ≡ grown held records → after ≡ fresh end pages → end ≡ end_of new.log → pages ≡ new.pages
    → IsReady new after (kept_fault fault)
ready_again held new receiver after refused fault records end pages ready e f at same = record {
  rests = rests_again new after end pages f at same;
  marks = subst (λ (h : Stored). acknowledged h ≤ (newest h).mark.0) (sym e) ready.marks;
  no_want = kept_fault-want fault;
}

-- the mark that is written is above the last one
marked_above : (held : Stored) → HasUnmarked held → acknowledged held ≤ (newest held).mark.0
    → acknowledged held ≤ (last_state held.control (held.since ++ marked held ∷ [])).mark.0
marked_above held above low =
    rw (last_state-push held.control held.since (marked held)) (omega (arith, above, low))

pub ready_marked : (held new : Stored) (receiver : Reception) (refused : Option Fault)
    → IsReady held receiver refused → WritesMark held new → IsReady new receiver refused
ready_marked held new receiver refused ready writes =
    subst (λ (h : Stored). IsReady h receiver refused) (sym writes.after) (record {
      rests = record {
        meets =
            record {
              wanted = ready.rests.meets.wanted;
              pages = ready.rests.meets.pages;
              takes =
                  ready.rests.meets.takes;
            };
        waits = ready.rests.waits;
        short = ready.rests.short;
      };
      marks = marked_above held writes.unmarked ready.marks;
      no_want = ready.no_want;
    })

pub ready_broken : (held new : Stored) (receiver : Reception) (refused : Option Fault)
    → IsReady held receiver refused → BreaksMark held new → IsReady new receiver refused
ready_broken held new receiver refused ready breaks =
    subst (λ (h : Stored). IsReady h receiver refused) (sym breaks.after) (record {
      rests = record {
        meets =
            record {
              wanted = ready.rests.meets.wanted;
              pages = ready.rests.meets.pages;
              takes =
                  ready.rests.meets.takes;
            };
        waits = ready.rests.waits;
        short = ready.rests.short;
      };
      marks = marked_above held breaks.unmarked ready.marks;
      no_want = ready.no_want;
    })

-- a mark that was not written, or perhaps
pub ready_failed : (held new : Stored) (receiver : Reception) (refused : Option Fault)
    (fault : StoreFault) → IsReady held receiver refused
    → ((fault ≡ NothingToDo) × (HasUnmarked held → ⊥) × (new ≡ held))
    ⊎ ((fault ≡ Device) × BreaksMark held new) → IsReady new receiver refused
ready_failed held new receiver refused fault ready failed = elim failed [
  | inl nothing ↦ subst (λ (h : Stored). IsReady h receiver refused) (sym nothing.2) ready
  | inr breaks ↦ ready_broken held new receiver refused ready breaks.1
]

-- ---- a takeover

-- a receiver of the same log, where a control state more is written
rests_written : (held : Stored) (state : ControlState) (attempts failures : ℕ) (broken : Bool)
    (receiver : Reception) → Rests held receiver
    → Rests (record held {
      since = held.since ++ state ∷ [];
      broken = broken;
      failures =
          failures;
      attempts = attempts;
    }) receiver
rests_written held state attempts failures broken receiver r =
    record {
      meets = record
          { wanted = r.meets.wanted; pages = r.meets.pages; takes = r.meets.takes };
      waits =
          r.waits;
      short = r.short;
    }

state_above : (held : Stored) (state : ControlState) → acknowledged held ≤ state.mark.0
    → acknowledged held ≤ (last_state held.control (held.since ++ state ∷ [])).mark.0
state_above held state low = rw (last_state-push held.control held.since state) low

pub ready_written : (held new : Stored) (state : ControlState) (receiver after : Reception)
    (refused : Option Fault) → Rests held after → (refused ≡ Some Memory → ⊥)
    → acknowledged held ≤ state.mark.0 → WritesState state held new → IsReady new after refused
ready_written held new state receiver after refused rests no_want low writes =
    subst (λ (h : Stored). IsReady h after refused) (sym writes.after) (record {
      rests = rests_written held state (held.attempts + 1) held.failures held.broken after rests;
      marks = state_above held state low;
      no_want = no_want;
    })

pub ready_torn : (held new : Stored) (state : ControlState) (receiver : Reception)
    (refused : Option Fault) → IsReady held receiver refused → acknowledged held ≤ state.mark.0
    → BreaksState state held new → IsReady new receiver refused
ready_torn held new state receiver refused ready low breaks =
    subst (λ (h : Stored). IsReady h receiver refused) (sym breaks.after) (record {
      rests = rests_written held state (held.attempts + 1) new.failures true receiver ready.rests;
      marks = state_above held state low;
      no_want = ready.no_want;
    })

pub ready_undone : (held new : Stored) (receiver after : Reception) (refused : Option Fault)
    (lsn : Lsn) (end pages : ℕ) → IsReady held receiver refused → UndoesOne held lsn new
    → after ≡ fresh end pages → end ≡ end_of new.log → pages ≡ new.pages → IsReady new after refused
ready_undone held new receiver after refused lsn end pages ready undoes f at same = record {
  rests = rests_again new after end pages f at same;
  marks = subst (λ (h : Stored). acknowledged h ≤ (newest h).mark.0) (sym undoes.after) ready.marks;
  no_want = ready.no_want;
}

pub ready_resolved : (held new : Stored) (receiver after : Reception) (refused : Option Fault)
    (trans : ℕ) (verdict : Decision) (lsn : Lsn) (end pages : ℕ) → IsReady held receiver refused
    → Resolves held trans verdict lsn new → after ≡ fresh end pages → end ≡ end_of new.log
    → pages ≡ new.pages → IsReady new after refused
ready_resolved held new receiver after refused trans verdict lsn end pages ready resolves f at same =
    record {
      rests = rests_again new after end pages f at same;
      marks = subst (λ (h : Stored). acknowledged h ≤ (newest h).mark.0) (sym resolves.after)
          ready.marks;
      no_want = ready.no_want;
    }

-- an undo that is refused for want of memory
pub undo_wants : (old new : Stored) (fault : StoreFault) → NotUndone old fault new
    → from_store fault ≡ Memory → fault ≡ store_fault.Memory
undo_wants old new store_fault.NothingToDo n e = absurd cc
undo_wants old new store_fault.Memory n e = refl
undo_wants old new (store_fault.Invalid cause) n e = absurd n
undo_wants old new store_fault.LogBehind n e = absurd n
undo_wants old new store_fault.CkptBusy n e = absurd n
undo_wants old new store_fault.PoolFull n e = absurd n
undo_wants old new store_fault.PageLent n e = absurd n
undo_wants old new store_fault.NumbersSpent n e = absurd n
undo_wants old new store_fault.LogFull n e = absurd n
undo_wants old new store_fault.Device n e = absurd cc
undo_wants old new (store_fault.BadPage page) n e = absurd n

-- a failed device keeps its name
pub device_of : (fault : StoreFault) → from_store fault ≡ DeviceFailed
    → fault ≡ store_fault.Device
device_of (store_fault.Invalid record_cause.BadPrev) e = absurd cc
device_of (store_fault.Invalid record_cause.OldTransaction) e = absurd cc
device_of (store_fault.Invalid record_cause.WrongState) e = absurd cc
device_of (store_fault.Invalid record_cause.WrongUndoNext) e = absurd cc
device_of (store_fault.Invalid record_cause.WrongCompensation) e = absurd cc
device_of (store_fault.Invalid (record_cause.RecordHeld by)) e = absurd cc
device_of (store_fault.Invalid record_cause.BeforeImage) e = absurd cc
device_of (store_fault.Invalid record_cause.TooManyTransactions) e = absurd cc
device_of (store_fault.Invalid record_cause.BadCheckpoint) e = absurd cc
device_of store_fault.LogBehind e = absurd cc
device_of store_fault.CkptBusy e = absurd cc
device_of store_fault.PoolFull e = absurd cc
device_of store_fault.PageLent e = absurd cc
device_of store_fault.NumbersSpent e = absurd cc
device_of store_fault.NothingToDo e = absurd cc
device_of store_fault.LogFull e = absurd cc
device_of store_fault.Memory e = absurd cc
device_of (store_fault.BadPage page) e = absurd cc
device_of store_fault.Device e = refl

-- ---- a checkpoint

pub ready_published : (held new : Stored) (receiver : Reception) (refused : Option Fault)
    → IsReady held receiver refused → (begun : Option Begun)
    → IsSomeAnd begun (λ b. Publishes held b new) → IsReady new receiver refused
ready_published held new receiver refused ready None publishes = absurd publishes
ready_published held new receiver refused ready (Some b) publishes =
    subst (λ (h : Stored). IsReady h receiver refused) (sym publishes.after) (record {
      rests = record {
        meets =
            record {
              wanted = ready.rests.meets.wanted;
              pages = ready.rests.meets.pages;
              takes =
                  ready.rests.meets.takes;
            };
        waits = ready.rests.waits;
        short = ready.rests.short;
      };
      marks = state_above held (with_checkpoint held b) ready.marks;
      no_want = ready.no_want;
    })

ready_publish_torn : (held new : Stored) (receiver : Reception) (refused : Option Fault)
    → IsReady held receiver refused → (begun : Option Begun)
    → IsSomeAnd begun (λ b. BreaksPublish held b new) → IsReady new receiver refused
ready_publish_torn held new receiver refused ready None breaks = absurd breaks
ready_publish_torn held new receiver refused ready (Some b) breaks =
    subst (λ (h : Stored). IsReady h receiver refused) (sym breaks.after) (record {
      rests = record {
        meets =
            record {
              wanted = ready.rests.meets.wanted;
              pages = ready.rests.meets.pages;
              takes =
                  ready.rests.meets.takes;
            };
        waits = ready.rests.waits;
        short = ready.rests.short;
      };
      marks = state_above held (with_checkpoint held b) ready.marks;
      no_want = ready.no_want;
    })

-- a checkpoint that was not published, or perhaps
pub ready_unpublished : (held new : Stored) (receiver : Reception) (refused : Option Fault)
    (fault : StoreFault) → IsReady held receiver refused → NotPublished held fault new
    → IsReady new receiver refused
ready_unpublished held new receiver refused store_fault.NothingToDo ready n =
    subst (λ (h : Stored). IsReady h receiver refused) (sym n.1) ready
ready_unpublished held new receiver refused store_fault.CkptBusy ready n =
    subst (λ (h : Stored). IsReady h receiver refused) (sym n.1) ready
ready_unpublished held new receiver refused store_fault.LogBehind ready n =
    subst (λ (h : Stored). IsReady h receiver refused) (sym n.1) ready
ready_unpublished held new receiver refused store_fault.Device ready n =
    ready_publish_torn held new receiver refused ready held.begun n
ready_unpublished held new receiver refused store_fault.Memory ready n = absurd n
ready_unpublished held new receiver refused (store_fault.Invalid cause) ready n = absurd n
ready_unpublished held new receiver refused store_fault.PoolFull ready n = absurd n
ready_unpublished held new receiver refused store_fault.PageLent ready n = absurd n
ready_unpublished held new receiver refused store_fault.NumbersSpent ready n = absurd n
ready_unpublished held new receiver refused store_fault.LogFull ready n = absurd n
ready_unpublished held new receiver refused (store_fault.BadPage page) ready n = absurd n
