-- When no cause stands against an event, and what a refused feed keeps.
use Rattle.std.proofs.Common.{◌≡◌, ℕ, ◌<◌, List, [], ◌∷◌, Option, Some, None, Ok, Err, refl, sym}
use Rattle.std.proofs.Common.{ap, subst, ◌∙◌, arith}
use Rattle.std.specs.Prelude.{false, true, Result, MatchOption}
use Rattle.als_record.specs.declared.lsn.Lsn.{Lsn}
use Rattle.als_record.specs.declared.record.Record.{Record}
use Rattle.als_record.specs.declared.trans_id.TransId.{TransId}
use Rattle.als_record.specs.Tail.{decision}
use Rattle.als_ckpt.specs.declared.control_state.ControlState.{ControlState}
use Rattle.als_store.specs.Takeover.{is_following, GoesOn, decision_body}
use Rattle.als_store.specs.declared.decision.Decision.{Decision}
use Rattle.als_store.specs.Warm.{WasWarm}
use Rattle.std.proofs.lemmas.Bool.{lt-leb}
use Rattle.als_store.specs.Stored.{Stored, pending_of, acknowledged}
use Rattle.als_engine.specs.declared.fault.Fault.{Fault}
use Rattle.als_engine.specs.declared.fed.Fed.{Fed}
use Rattle.als_engine.specs.declared.fed.FeedFault.{FeedFault}
use Rattle.als_engine.specs.declared.step.Step.TheVariants as step
use Rattle.als_engine.specs.Machine.{Machine, Keeps}
use Rattle.als_engine.specs.Refusals.{feed_refusal, refusal}
use Rattle.als_engine.specs.Readers.{ended_in}
use Rattle.als_engine.specs.Takeover.{Undoes, UndoesOneOf, ResolvesHeld}
use Rattle.als_engine.specs.Feeds.{Feeds, grown}
use Rattle.als_engine.proofs.KeepLaws.{goes_on_same, keeps_equal, IsReadAlike, read_alike}
use Rattle.als_engine.proofs.KeepLaws.{none_opened, below_same}

-- a piece is looked at: the engine has not stopped, it is not recovering, it refuses nothing, and
-- its pending changes are below their limit
pub feed_not_refused : (m : Machine) → m.held.broken ≡ false → m.held.recovering ≡ false
    → is_following m.held ≡ true → m.refused ≡ None → pending_of m.held < m.limit
    → feed_refusal m ≡ None
feed_not_refused m running ready open_ following room =
    rw (running, ready, open_, following, lt-leb m.limit (pending_of m.held) room) refl

-- records more are held
keeps_grown : (old new : Machine) (records : List Record) (m : Machine) → new ≡ m
    → m.held ≡ grown old.held records → m.limit ≡ old.limit → IsReadAlike old m → Keeps old new
keeps_grown old new records m is held limit alike =
    let h = ap (λ (x : Machine). x.held) is ∙ held in
    let a = read_alike old new m is alike.listed alike.published in
    record {
      acknowledged = omega (arith, ap (λ (x : Stored). acknowledged x) h);
      more = records;
      log = ap (λ (x : Stored). x.log) h;
      stopped = λ s. ap (λ (x : Stored). x.broken) h ∙ s;
      takeover = subst (λ (c : ControlState). GoesOn old.held.control c)
          (sym (ap (λ (x : Stored). x.control) h)) (goes_on_same old.held.control);
      pages = ap (λ (x : Stored). x.pages) h;
      limit = ap (λ (x : Machine). x.limit) is ∙ limit;
      warm = λ w. subst (λ (x : Stored). WasWarm x) (sym h) w;
      ready = λ r. ap (λ (x : Stored). x.recovering) h ∙ r;
      listed = λ l. a.listed ∙ l;
      published = omega (arith, a.published);
      shown = none_opened old new a (ended_in old.held);
      below = below_same old.held.control new.held.control (ap (λ (x : Stored). x.control) h);
    }

pub keeps_fed : (old new : Machine) (piece : List ℕ) (cause : Option Fault) (fed : Fed)
    → Feeds old piece cause (Ok fed) new → Keeps old new
keeps_fed old new piece None fed all =
    keeps_grown old new all.records _ all.after refl refl
    (record { listed = refl; published = refl })
keeps_fed old new piece (Some fault) fed same = keeps_equal old new same.1

pub keeps_undone : (old new : Machine) (lsn : Lsn) → UndoesOneOf old (Ok lsn) new → Keeps old new
keeps_undone old new lsn does = go (refusal old step.UndoOne) does
  where
    go : (r : Option Fault)
        → MatchOption r (Undoes old (Ok lsn) new)
        (λ fault. (◌≡◌ {A = Result Lsn Fault} (Ok lsn) (Err fault)) × (new ≡ old)) → Keeps old new
    go None u = keeps_grown old new (u.undoes.made ∷ []) _ u.after u.undoes.after refl
        (record { listed = refl; published = refl })
    go (Some fault) h = keeps_equal old new h.1

-- a transaction in doubt is decided
pub keeps_resolved : (old new : Machine) (trans : TransId) (verdict : Decision) (lsn : Lsn)
    → ResolvesHeld old trans verdict lsn new → Keeps old new
keeps_resolved old new trans verdict lsn r =
    keeps_grown old new (decision old.held.log trans.0 (decision_body verdict) ∷ []) _ r.after
    r.resolves.after refl (record { listed = refl; published = refl })

-- a refused feed holds records at most
pub keeps_refused : (old new : Machine) (piece : List ℕ) (cause : Option Fault)
    (refusal : FeedFault) → Feeds old piece cause (Err refusal) new → Keeps old new
keeps_refused old new piece None refusal front =
    keeps_grown old new front.records _ front.after refl refl
    (record { listed = refl; published = refl })
keeps_refused old new piece (Some fault) refusal same = keeps_equal old new same.1

pub keeps_feed : (old new : Machine) (piece : List ℕ) (cause : Option Fault)
    (answer : Result Fed FeedFault) → Feeds old piece cause answer new → Keeps old new
keeps_feed old new piece cause (Ok fed) f = keeps_fed old new piece cause fed f
keeps_feed old new piece cause (Err refusal) f = keeps_refused old new piece cause refusal f
