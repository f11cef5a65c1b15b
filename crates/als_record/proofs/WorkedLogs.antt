-- Worked logs: what the definitions of transactions, tables, causes, tails and commits compute for them.
use Rattle.std.proofs.Common.{◌≡◌, ℕ, zero, suc, ◌+◌, ◌-◌, ◌*◌, true, List, [], ◌∷◌, Some, None, replicate, refl}
use Rattle.als_record.specs.declared.record.Body.TheVariants.{Update, Commit, Rollback, End, BeginCheckpoint, EndCheckpoint}
use Rattle.als_record.specs.declared.record.Record.{Record}
use Rattle.als_record.specs.declared.transaction_state.TransactionState.TheVariants.{Active, Committed}
use Rattle.als_record.specs.declared.cause.Cause.TheVariants.{BadPrev, OldTransaction, WrongState, WrongUndoNext, WrongCompensation, RecordHeld, BeforeImage, TooManyTransactions, BadCheckpoint}
use Rattle.als_record.specs.LogText.{end_of}
use Rattle.als_record.specs.Table.{table_of}
use Rattle.als_record.specs.Images.{image_now, won}
use Rattle.als_record.specs.Validity.{first_bad, is_valid}
use Rattle.als_record.specs.Tail.{tail_of, tail_len, reserve_of}
use Rattle.als_record.specs.Commits.{commits_of}
use Rattle.als_record.proofs.Worked.{definitions, at, key, one, clr, row}

-- ---- a transaction that did not commit

-- an update, and nothing more
abbrev open_update : List Record
open_update = (at 16 0 1 (Update (key 0 0) None (one 0xaa))) ∷ []

open_update-valid : is_valid open_update ≡ true
unfolding definitions
open_update-valid = refl

open_update-tail : tail_of open_update ≡ ((clr 52 16 1 (key 0 0) None 0) ∷ (at 94 52 1 End) ∷ [])
unfolding definitions
open_update-tail = refl

open_update-len : end_of open_update + tail_len open_update ≡ 122
unfolding definitions
open_update-len = refl

open_update-won : won open_update (key 0 0) ≡ None
unfolding definitions
open_update-won = refl

-- ---- a committed transaction, and one over it that did not commit

-- the second transaction writes over the first one's value
abbrev overwritten : List Record
overwritten = (at 16 0 1 (Update (key 0 0) None (one 0xaa))) ∷ (at 52 16 1 Commit) ∷ (at 80 0 2 (Update (key 0 1) None (one 0xbb))) ∷ (at 116 80 2 (Update (key 0 0) (one 0xaa) (one 0xcc))) ∷ []

overwritten-valid : is_valid overwritten ≡ true
unfolding definitions
overwritten-valid = refl

overwritten-table : table_of overwritten ≡ (row 1 Committed 52 16 ∷ row 2 Active 116 116 ∷ [])
unfolding definitions
overwritten-table = refl

overwritten-tail : tail_of overwritten ≡ ((at 153 52 1 End) ∷ (clr 181 116 2 (key 0 0) (one 0xaa) 80) ∷ (clr 224 181 2 (key 0 1) None 0) ∷ (at 266 224 2 End) ∷ [])
unfolding definitions
overwritten-tail = refl

overwritten-len : end_of overwritten + tail_len overwritten ≡ 294
unfolding definitions
overwritten-len = refl

overwritten-won : won overwritten (key 0 0) ≡ one 0xaa
unfolding definitions
overwritten-won = refl

overwritten-lost : won overwritten (key 0 1) ≡ None
unfolding definitions
overwritten-lost = refl

overwritten-now : image_now overwritten (key 0 0) ≡ one 0xcc
unfolding definitions
overwritten-now = refl

overwritten-commits : commits_of overwritten ≡ (record { trans = record { 0 = 1 }; lsn = record { 0 = 52 }; writes = record { key = key 0 0; after = one 0xaa } ∷ [] } ∷ [])
unfolding definitions
overwritten-commits = refl

-- ---- a transaction that wrote a key twice, committed and ended

abbrev written : List Record
written =
    (at 16 0 1 (Update (key 0 0) None (one 0x11)))
    ∷ (at 52 16 1 (Update (key 0 1) None (one 0x22)))
    ∷ (at 88 52 1 (Update (key 0 0) (one 0x11) (one 0x33)))
    ∷ (at 125 88 1 Commit)
    ∷ (at 153 125 1 End)
    ∷ []

written-valid : is_valid written ≡ true
unfolding definitions
written-valid = refl

written-table : table_of written ≡ []
unfolding definitions
written-table = refl

written-tail : tail_of written ≡ []
unfolding definitions
written-tail = refl

-- its writes stand in order
written-commits : commits_of written
    ≡ (record { trans = record { 0 = 1 }; lsn = record { 0 = 125 }; writes = record { key = key 0 0; after = one 0x11 } ∷ record { key = key 0 1; after = one 0x22 } ∷ record { key = key 0 0; after = one 0x33 } ∷ [] } ∷ [])
unfolding definitions
written-commits = refl

-- ---- a rollback by compensations, and then another transaction at the same key

-- the first transaction has compensated its update, and not ended
abbrev rolled_back : List Record
rolled_back = (at 16 0 1 (Update (key 0 0) None (one 0x11))) ∷ (clr 52 16 1 (key 0 0) None 0) ∷ (at 94 0 2 (Update (key 0 0) None (one 0x22))) ∷ (at 130 94 2 Commit) ∷ []

rolled_back-valid : is_valid rolled_back ≡ true
unfolding definitions
rolled_back-valid = refl

rolled_back-tail : tail_of rolled_back ≡ ((at 158 52 1 End) ∷ (at 186 130 2 End) ∷ [])
unfolding definitions
rolled_back-tail = refl

rolled_back-len : end_of rolled_back + tail_len rolled_back ≡ 214
unfolding definitions
rolled_back-len = refl

rolled_back-won : won rolled_back (key 0 0) ≡ one 0x22
unfolding definitions
rolled_back-won = refl

-- ---- a rollback to a savepoint

-- the second update is compensated, and the transaction goes on
abbrev savepoint : List Record
savepoint = (at 16 0 1 (Update (key 0 0) None (one 0x11))) ∷ (at 52 16 1 (Update (key 0 1) None (one 0x22))) ∷ (clr 88 52 1 (key 0 1) None 16) ∷ (at 130 88 1 (Update (key 0 2) None (one 0x33))) ∷ []

savepoint-valid : is_valid savepoint ≡ true
unfolding definitions
savepoint-valid = refl

savepoint-table : table_of savepoint ≡ (row 1 Active 130 130 ∷ [])
unfolding definitions
savepoint-table = refl

savepoint-tail : tail_of savepoint ≡ ((clr 166 130 1 (key 0 2) None 88) ∷ (clr 208 166 1 (key 0 0) None 0) ∷ (at 250 208 1 End) ∷ [])
unfolding definitions
savepoint-tail = refl

savepoint-len : end_of savepoint + tail_len savepoint ≡ 278
unfolding definitions
savepoint-len = refl

-- ---- ten savepoints one after another

-- an update, and ten times another one that is compensated
abbrev savepoints : List Record
savepoints = (at 16 0 1 (Update (key 0 0) None (one 0x11))) ∷ (at 52 16 1 (Update (key 0 1) None (one 0x22))) ∷ (clr 88 52 1 (key 0 1) None 16) ∷ (at 130 88 1 (Update (key 0 1) None (one 0x22))) ∷ (clr 166 130 1 (key 0 1) None 88) ∷ (at 208 166 1 (Update (key 0 1) None (one 0x22))) ∷ (clr 244 208 1 (key 0 1) None 166) ∷ (at 286 244 1 (Update (key 0 1) None (one 0x22))) ∷ (clr 322 286 1 (key 0 1) None 244) ∷ (at 364 322 1 (Update (key 0 1) None (one 0x22))) ∷ (clr 400 364 1 (key 0 1) None 322) ∷ (at 442 400 1 (Update (key 0 1) None (one 0x22))) ∷ (clr 478 442 1 (key 0 1) None 400) ∷ (at 520 478 1 (Update (key 0 1) None (one 0x22))) ∷ (clr 556 520 1 (key 0 1) None 478) ∷ (at 598 556 1 (Update (key 0 1) None (one 0x22))) ∷ (clr 634 598 1 (key 0 1) None 556) ∷ (at 676 634 1 (Update (key 0 1) None (one 0x22))) ∷ (clr 712 676 1 (key 0 1) None 634) ∷ (at 754 712 1 (Update (key 0 1) None (one 0x22))) ∷ (clr 790 754 1 (key 0 1) None 712) ∷ []

savepoints-valid : is_valid savepoints ≡ true
unfolding definitions
savepoints-valid = refl

savepoints-end : end_of savepoints ≡ 832
unfolding definitions
savepoints-end = refl

savepoints-table : table_of savepoints ≡ (row 1 Active 790 712 ∷ [])
unfolding definitions
savepoints-table = refl

savepoints-tail : tail_of savepoints ≡ ((clr 832 790 1 (key 0 0) None 0) ∷ (at 874 832 1 End) ∷ [])
unfolding definitions
savepoints-tail = refl

-- ---- the first cause against a record

-- an update that holds its key
abbrev held : List Record
held = (at 16 0 1 (Update (key 0 0) None (one 0x11))) ∷ []

held-by : first_bad held (at 52 0 2 (Update (key 0 0) (one 0x11) (one 0x22))) ≡ Some (RecordHeld (record { 0 = 1 }))
unfolding definitions
held-by = refl

-- an update, committed
abbrev committed : List Record
committed = (at 16 0 1 (Update (key 0 0) None (one 0xaa))) ∷ (at 52 16 1 Commit) ∷ []

committed-before : first_bad committed (at 80 0 2 (Update (key 0 0) (one 0xab) (one 0xcc))) ≡ Some BeforeImage
unfolding definitions
committed-before = refl

open_update-prev : first_bad open_update (at 52 0 1 Commit) ≡ Some BadPrev
unfolding definitions
open_update-prev = refl

-- a transaction with a greater number came first
abbrev second : List Record
second = (at 16 0 2 (Update (key 0 0) None (one 0xaa))) ∷ []

second-old : first_bad second (at 52 0 1 (Update (key 0 1) None (one 0xbb))) ≡ Some OldTransaction
unfolding definitions
second-old = refl

open_update-end : first_bad open_update (at 52 16 1 End) ≡ Some WrongState
unfolding definitions
open_update-end = refl

held-next : first_bad held (clr 52 16 1 (key 0 0) None 16) ≡ Some WrongUndoNext
unfolding definitions
held-next = refl

held-image : first_bad held (clr 52 16 1 (key 0 0) (one 0x22) 0) ≡ Some WrongCompensation
unfolding definitions
held-image = refl

-- a checkpoint that has ended
abbrev checkpoint : List Record
checkpoint = (at 16 0 0 BeginCheckpoint) ∷ (at 44 16 0 (EndCheckpoint [] [])) ∷ []

checkpoint-valid : is_valid checkpoint ≡ true
unfolding definitions
checkpoint-valid = refl

checkpoint-again : first_bad checkpoint (at 76 16 0 (EndCheckpoint [] [])) ≡ Some BadCheckpoint
unfolding definitions
checkpoint-again = refl

-- ---- corners: the end of a checkpoint that never began; the number 0; a checkpoint's record that names a transaction

empty-checkpoint : first_bad [] (at 16 0 0 (EndCheckpoint [] [])) ≡ Some BadCheckpoint
unfolding definitions
empty-checkpoint = refl

empty-zero : first_bad [] (at 16 0 0 (Update (key 0 0) None (one 0xaa))) ≡ Some OldTransaction
unfolding definitions
empty-zero = refl

committed-checkpoint : first_bad committed (at 80 0 1 BeginCheckpoint) ≡ Some WrongState
unfolding definitions
committed-checkpoint = refl

open_update-checkpoint : first_bad open_update (at 52 0 1 BeginCheckpoint) ≡ Some BadCheckpoint
unfolding definitions
open_update-checkpoint = refl

empty-commit : first_bad [] (at 16 0 1 Commit) ≡ None
unfolding definitions
empty-commit = refl

empty-end : first_bad [] (at 16 0 1 End) ≡ None
unfolding definitions
empty-end = refl

-- ---- many transactions

-- this many transactions that begin to roll back, the numbers from here on
abbrev rollbacks : ℕ → ℕ → List Record
rollbacks zero t = []
rollbacks (suc n) t = at (28 * t - 12) 0 t Rollback ∷ rollbacks n (t + 1)

rollbacks-few : first_bad (rollbacks 20 1) (at 576 0 21 Rollback) ≡ None
unfolding definitions
rollbacks-few = refl

rollbacks-many : first_bad (rollbacks 256 1) (at 7184 0 257 Rollback) ≡ Some TooManyTransactions
unfolding definitions
rollbacks-many = refl

rollbacks-end : end_of (rollbacks 256 1) ≡ 7184
unfolding definitions
rollbacks-end = refl

-- ---- a device of one block

abbrev six : ℕ → List Record
six bytes =
    at 16 0 1 (Update (key 0 0) None (one 1)) ∷ at 52 16 1 (Update (key 0 1) None (one 1)) ∷ at 88 52 1 (Update (key 0 2) None (one 1))
    ∷ at 124 88 1 (Update (key 0 3) None (one 1)) ∷ at 160 124 1 (Update (key 0 4) None (one 1))
    ∷ at 196 160 1 (Update (key 0 5) None (Some (record { items = replicate bytes 1 }))) ∷ []

-- with one byte in the sixth value the log and its tail fill it, with two they do not fit
six-fits : end_of (six 1) + reserve_of (six 1) ≡ 512
unfolding definitions
six-fits = refl

six-too_long : end_of (six 2) + reserve_of (six 2) ≡ 513
unfolding definitions
six-too_long = refl
