-- What each step keeps: what is acknowledged, the log's records, and that an engine has stopped.
use Rattle.std.proofs.Common.{◌≡◌, ℕ, ◌≤◌, true, false, List, [], Some, refl, sym, ap, subst, ◌∙◌}
use Rattle.std.proofs.Common.{append-nil, arith}
use Rattle.std.proofs.lemmas.Bool.{true≢false}
use Rattle.als_record.specs.declared.record.Record.{Record}
use Rattle.als_ckpt.specs.declared.control_state.ControlState.{ControlState}
use Rattle.als_ckpt.proofs.StateLaws.{Continues-same}
use Rattle.als_record.specs.LogText.{end_of}
use Rattle.als_record.proofs.PageLaws.{end_of-append}
use Rattle.als_log.specs.Local.{IsFrontEnd}
use Rattle.als_store.specs.Takeover.{GoesOn}
use Rattle.als_epochs.specs.Histories.{next_seal}
use Rattle.als_epochs.specs.HistoryLaws.{GoesOn-refl}
use Rattle.als_store.specs.Stored.{Stored, acknowledged}
use Rattle.als_engine.specs.Machine.{Machine, Keeps}
use Rattle.als_store.specs.Warm.{WasWarm}

pub le_refl : (n : ℕ) → n ≤ n
le_refl n = omega arith

pub goes_on_same : (s : ControlState) → GoesOn s s
goes_on_same s = record { phase = omega arith; seal = λ past. refl; history = GoesOn-refl s.history }

-- a synced control state that is as it was has the same history
pub below_same : (old new : ControlState) → new ≡ old → (seal : ℕ)
    → next_seal old.history new.history ≡ Some seal → old.mark.0 ≤ seal
below_same old new same =
    (Continues-same old new (ap (λ (c : ControlState). c.history) same)).below

keeps_same : (m : Machine) → Keeps m m
keeps_same m = record {
  acknowledged = le_refl (acknowledged m.held);
  more = [];
  log =
      sym (append-nil m.held.log);
  stopped = λ s. s;
  takeover = goes_on_same m.held.control;
  pages =
      refl;
  limit = refl;
  warm = λ w. w;
  ready = λ r. r;
  listed = λ l. l;
  published =
      le_refl m.published;
  shown = λ f t. absurd (true≢false (sym t ∙ f));
  below = below_same m.held.control m.held.control refl;
}

pub keeps_equal : (old new : Machine) → new ≡ old → Keeps old new
keeps_equal old new e = subst (λ (m : Machine). Keeps old m) (sym e) (keeps_same old)

-- what is counted is no part of the machine
pub keeps_then : (old mid new : Machine) → new ≡ mid → Keeps old mid → Keeps old new
keeps_then old mid new e k = subst (λ (m : Machine). Keeps old m) (sym e) k

-- readers see the same
pub record IsReadAlike (old new : Machine) : Type 0 where
  pub listed : new.listed ≡ old.listed
  pub published : new.published ≡ old.published

pub read_alike : (old new : Machine) (m : Machine) → new ≡ m → m.listed ≡ old.listed
    → m.published ≡ old.published → IsReadAlike old new
read_alike old new m is listed published =
    record {
      listed = ap (λ (x : Machine). x.listed) is ∙ listed;
      published =
          ap (λ (x : Machine). x.published) is ∙ published;
    }

-- then no list is opened
pub none_opened : (old new : Machine) → IsReadAlike old new → (limit : ℕ) → old.listed ≡ false
    → new.listed ≡ true → limit ≤ new.published
none_opened old new alike limit none list = absurd (true≢false (sym list ∙ alike.listed ∙ none))

-- the store has as many pages, was made over sound devices if it was, and does not begin to recover
pub record IsAsMade (old new : Stored) : Type 0 where
  pub pages : new.pages ≡ old.pages
  pub warm : WasWarm old → WasWarm new
  pub ready : old.recovering ≡ false → new.recovering ≡ false

-- so an event leaves it that says of none of them
pub as_made : (old new held : Stored) → new ≡ held → held.pages ≡ old.pages
    → (WasWarm old → WasWarm held) → (old.recovering ≡ false → held.recovering ≡ false)
    → IsAsMade old new
as_made old new held is pages warm ready = record {
  pages = ap (λ (s : Stored). s.pages) is ∙ pages;
  warm = λ w. subst (λ (s : Stored). WasWarm s) (sym is) (warm w);
  ready = λ r. ap (λ (s : Stored). s.recovering) is ∙ ready r;
}

-- the end of a front is not above that of the log
pub reaches_front : (log : List Record) (at : ℕ) → IsFrontEnd log at → at ≤ end_of log
reaches_front log at f = omega (arith, ap end_of f.parts, end_of-append f.front f.rest, f.ends)
