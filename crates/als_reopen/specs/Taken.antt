-- What a control state says of the log: past Following it is the one that was sealed, and what of its tail stands behind it; once the takeover
-- has ended also what was decided since of the transactions in doubt.
use Rattle.std.specs.Prelude.{◌≡◌, ◌⊎◌, ℕ, ◌≤◌, Bool, true, false, List, [], ◌∷◌, ◌++◌}
use Rattle.als_record.specs.declared.record.Record.{Record}
use Rattle.als_record.specs.LogText.{end_of}
use Rattle.als_record.specs.Transactions.{is_in_doubt, is_decision}
use Rattle.als_record.specs.Tail.{tail_of, decision}
use Rattle.als_ckpt.specs.declared.phase.Phase.{Phase}
use Rattle.als_ckpt.specs.declared.phase.Phase.TheVariants.{Following, Sealed, Primary}
use Rattle.als_ckpt.specs.declared.control_state.ControlState.{ControlState}

-- whether the log follows its source: it was not sealed
abbrev pub follows : Phase → Bool
follows Following = true
follows Sealed = false
follows Primary = false

-- the log is the one that was sealed at an offset and a front of its tail; the rest of the tail is still to come
pub record IsSealed (log : List Record) (seal : ℕ) : Type 0 where
  pub sealed : List Record
  pub undone : List Record
  pub rest : List Record
  pub parts : log ≡ sealed ++ undone
  pub ends : end_of sealed ≡ seal
  pub tail : undone ++ rest ≡ tail_of sealed

-- the record commits or rolls back a transaction that is in doubt in this log
pub record Decides (log : List Record) (r : Record) : Type 0 where
  pub doubt : is_in_doubt log r.trans.0 ≡ true
  pub decides : is_decision r.body ≡ true
  pub is : r ≡ decision log r.trans.0 r.body

-- the record is the first of the log's tail
pub record IsNextOfTail (log : List Record) (r : Record) : Type 0 where
  pub rest : List Record
  pub first : tail_of log ≡ r ∷ rest

-- What may come behind a takeover that has ended: a transaction in doubt is decided, or the next record of what then is left to append comes.
abbrev pub MayCome : List Record → Record → Type 0
MayCome log r = Decides log r ⊎ IsNextOfTail log r

-- each of these records may come behind the log with those before it
abbrev pub AreDecided : List Record → List Record → Type 0
AreDecided log [] = Unit {0}
AreDecided log (r ∷ rest) = MayCome log r × AreDecided (log ++ r ∷ []) rest

-- The log is the one that was sealed at an offset, its whole tail, all of it below the mark, and what was decided since.
pub record IsTakenOver (log : List Record) (mark seal : ℕ) : Type 0 where
  pub sealed : List Record
  pub more : List Record
  pub parts : log ≡ (sealed ++ tail_of sealed) ++ more
  pub ends : end_of sealed ≡ seal
  pub whole : end_of (sealed ++ tail_of sealed) ≤ mark
  pub decided : AreDecided (sealed ++ tail_of sealed) more

abbrev pub IsTaken : Phase → List Record → ℕ → ℕ → Type 0
IsTaken Following log mark seal = Unit {0}
IsTaken Sealed log mark seal = IsSealed log seal
IsTaken Primary log mark seal = IsTakenOver log mark seal

-- What a control state says of the log: past Following the log is the sealed one and a front of its tail; in Primary its whole tail, all of it
-- below the mark, and what was decided since.
abbrev pub IsTakenFrom : List Record → ControlState → Type 0
IsTakenFrom log c = IsTaken c.phase log c.mark.0 c.seal.0

-- What a control state that is not the newest says of the log: a front of it, which has all of the log or reaches the mark, is as the state says.
-- So is what a crash leaves of the log where it chooses that state.
pub record WasTakenFrom (log : List Record) (c : ControlState) : Type 0 where
  pub front : List Record
  pub since : List Record
  pub parts : log ≡ front ++ since
  pub reaches : (since ≡ []) ⊎ (c.mark.0 ≤ end_of front)
  pub taken : IsTakenFrom front c

-- no transaction in doubt was decided since the seal: the log is the one that was sealed and its whole tail
pub record IsUndecided (log : List Record) (seal : ℕ) : Type 0 where
  pub sealed : List Record
  pub parts : log ≡ sealed ++ tail_of sealed
  pub ends : end_of sealed ≡ seal
