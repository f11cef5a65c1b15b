-- Transactions in a log, each seen through its own records. (Mohan et al., TODS 1992, sections 3 and 4.1: what the LSNs, TransIDs
-- and compensation records of a log say of a transaction.)
use Rattle.std.specs.Prelude.{ℕ, ◌==◌, Bool, true, false, not, ◌&&◌, List, [], ◌∷◌, ◌++◌, drop, reverse, filter, fold, max, if◌then◌else◌}
use Rattle.std.specs.List.{list_any}
use Rattle.als_record.specs.declared.record.Body.{Body}
use Rattle.als_record.specs.declared.record.Body.TheVariants.{Update, Compensation, Commit, Rollback, End, BeginCheckpoint, EndCheckpoint, Prepare}
use Rattle.als_record.specs.declared.record.Record.{Record}

-- ---- kinds of records

-- an update, compensation, commit, rollback, end or prepare: not a checkpoint's record
abbrev pub is_transactional : Body → Bool
is_transactional (Update key before after) = true
is_transactional (Compensation undo_next key after) = true
is_transactional Commit = true
is_transactional Rollback = true
is_transactional End = true
is_transactional BeginCheckpoint = false
is_transactional (EndCheckpoint transactions pages) = false
is_transactional Prepare = true

abbrev pub is_update : Body → Bool
is_update (Update key before after) = true
is_update _ = false

abbrev pub is_compensation : Body → Bool
is_compensation (Compensation undo_next key after) = true
is_compensation _ = false

abbrev pub is_commit : Body → Bool
is_commit Commit = true
is_commit _ = false

abbrev pub is_rollback : Body → Bool
is_rollback Rollback = true
is_rollback _ = false

abbrev pub is_end : Body → Bool
is_end End = true
is_end _ = false

abbrev pub is_prepare : Body → Bool
is_prepare Prepare = true
is_prepare _ = false

-- what may follow a prepare: a commit or a rollback
abbrev pub is_decision : Body → Bool
is_decision Commit = true
is_decision Rollback = true
is_decision _ = false

-- ---- one transaction

-- a record of this transaction
abbrev pub is_of : ℕ → Record → Bool
is_of t r = is_transactional r.body && (r.trans.0 == t)

-- the records of one transaction, in order
unfoldable pub records_of : List Record → ℕ → List Record
records_of log t = filter (is_of t) log

-- one more record of a transaction: an update is to be undone first of all, a compensation (CLR) undoes the last one left
abbrev pub to_undo_after : List Record → Record → Body → List Record
to_undo_after left r (Update key before after) = r ∷ left
to_undo_after left r (Compensation undo_next key after) = drop 1 left
to_undo_after left r _ = left

-- the updates of a transaction that no compensation has undone, the newest first
unfoldable pub to_undo : List Record → ℕ → List Record
to_undo log t = fold (λ left r. to_undo_after left r r.body) [] (records_of log t)

-- the surviving updates of a transaction, in order
unfoldable pub surviving : List Record → ℕ → List Record
surviving log t = reverse (to_undo log t)

-- whether a list holds anything
abbrev pub is_some_left : List Record → Bool
is_some_left [] = false
is_some_left (r ∷ rest) = true

-- whether the log holds a record of the transaction, its commit record, its rollback record, its prepare record, its end record
unfoldable pub has_begun : List Record → ℕ → Bool
has_begun log t = is_some_left (records_of log t)

unfoldable pub is_committed : List Record → ℕ → Bool
is_committed log t = list_any (λ r. is_commit r.body) (records_of log t)

unfoldable pub has_rollback : List Record → ℕ → Bool
has_rollback log t = list_any (λ r. is_rollback r.body) (records_of log t)

unfoldable pub has_prepare : List Record → ℕ → Bool
has_prepare log t = list_any (λ r. is_prepare r.body) (records_of log t)

unfoldable pub has_ended : List Record → ℕ → Bool
has_ended log t = list_any (λ r. is_end r.body) (records_of log t)

-- from its first record until its end record
unfoldable pub is_unended : List Record → ℕ → Bool
is_unended log t = has_begun log t && not (has_ended log t)

-- unended and not committed: it holds the keys of its surviving updates
unfoldable pub is_open : List Record → ℕ → Bool
is_open log t = is_unended log t && not (is_committed log t)

-- in doubt: unended and prepared, with neither a commit nor a rollback record; its coordinator decides which of them follows
unfoldable pub is_in_doubt : List Record → ℕ → Bool
is_in_doubt log t = is_unended log t && has_prepare log t && not (is_committed log t) && not (has_rollback log t)

-- What a takeover has to undo: an unended transaction that has not committed and is not in doubt. One in doubt holds its keys
-- (it is open), and yet is not undone.
unfoldable pub is_loser : List Record → ℕ → Bool
is_loser log t = is_unended log t && not (is_committed log t) && not (is_in_doubt log t)

-- LastLSN: the LSN of the transaction's last record, 0 without one
unfoldable pub last_lsn : List Record → ℕ → ℕ
last_lsn log t = fold (λ last r. r.lsn.0) 0 (records_of log t)

-- UndoNxtLSN after one more record: an update's own LSN, the one that a compensation carries
abbrev pub undo_next_after : ℕ → ℕ → Body → ℕ
undo_next_after next lsn (Update key before after) = lsn
undo_next_after next lsn (Compensation undo_next key after) = undo_next.0
undo_next_after next lsn _ = next

-- UndoNxtLSN: from the transaction's last update or compensation, 0 without either
unfoldable pub undo_next_of : List Record → ℕ → ℕ
undo_next_of log t = fold (λ next r. undo_next_after next r.lsn.0 r.body) 0 (records_of log t)

-- ---- all transactions

-- whether there is none of these
abbrev pub is_nobody : List ℕ → Bool
is_nobody [] = true
is_nobody (t ∷ rest) = false

-- whether a number is among these
abbrev pub is_among : List ℕ → ℕ → Bool
is_among ids t = list_any (λ id. id == t) ids

-- one more record: its transaction, if it is new
abbrev pub with_transaction : List ℕ → Record → List ℕ
with_transaction ids r = if is_transactional r.body && not (is_among ids r.trans.0) then ids ++ r.trans.0 ∷ [] else ids

-- The transactions in the order of their first records. In a valid log that is the order of rising TransIDs.
unfoldable pub transactions : List Record → List ℕ
transactions log = fold with_transaction [] log

-- the unended transactions, and the losers and those in doubt among them, in the same order
unfoldable pub unended : List Record → List ℕ
unended log = filter (is_unended log) (transactions log)

unfoldable pub losers : List Record → List ℕ
losers log = filter (is_loser log) (transactions log)

unfoldable pub in_doubt : List Record → List ℕ
in_doubt log = filter (is_in_doubt log) (transactions log)

-- the greatest TransID of any record, 0 without one
unfoldable pub greatest_trans : List Record → ℕ
greatest_trans log = fold (λ greatest r. max greatest r.trans.0) 0 log

-- the list without its first update of a transaction
abbrev pub without_newest : ℕ → List Record → List Record
without_newest t [] = []
without_newest t (u ∷ rest) = if u.trans.0 == t then rest else u ∷ without_newest t rest

-- one more record, for all transactions together
abbrev pub survivors_after : List Record → Record → Body → List Record
survivors_after left r (Update key before after) = r ∷ left
survivors_after left r (Compensation undo_next key after) = without_newest r.trans.0 left
survivors_after left r _ = left

-- The surviving updates of all transactions, the newest first, which is in falling LSN. Those of one transaction are its
-- updates to undo.
unfoldable pub all_surviving : List Record → List Record
all_surviving log = fold (λ left r. survivors_after left r r.body) [] log
