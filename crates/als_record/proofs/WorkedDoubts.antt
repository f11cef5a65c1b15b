-- Worked logs with transactions in doubt: their rows, tails, reserves, what is kept of them, and which records may follow.
use Rattle.std.proofs.Common.{◌≡◌, ℕ, zero, suc, ◌+◌, ◌-◌, ◌*◌, true, false, List, [], ◌∷◌, ◌++◌, Some, None, refl}
use Rattle.als_record.specs.declared.record.Body.TheVariants.{Update, Commit, Rollback, End, BeginCheckpoint, EndCheckpoint, Prepare}
use Rattle.als_record.specs.declared.record.Record.{Record}
use Rattle.als_record.specs.declared.transaction_state.TransactionState.TheVariants.{Active, Committed, RollingBack, Prepared}
use Rattle.als_record.specs.declared.cause.Cause.TheVariants.{BadPrev, OldTransaction, WrongState, RecordHeld, TooManyTransactions}
use Rattle.als_record.specs.LogText.{end_of}
use Rattle.als_record.specs.Transactions.{is_loser, is_open, in_doubt, losers, unended}
use Rattle.als_record.specs.Table.{table_of, is_closed}
use Rattle.als_record.specs.Images.{image_now, won, kept}
use Rattle.als_record.specs.Validity.{first_bad, is_valid}
use Rattle.als_record.specs.Tail.{tail_of, is_undone, reserve_of}
use Rattle.als_record.specs.Commits.{commits_of}
use Rattle.als_record.proofs.Worked.{definitions, at, key, one, clr, row}

-- ---- a transaction in doubt, and a loser behind it

abbrev waiting : List Record
waiting = (at 16 0 1 (Update (key 0 0) None (one 0xaa))) ∷ (at 52 16 1 Prepare) ∷ (at 80 0 2 (Update (key 0 1) None (one 0xbb))) ∷ []

waiting-valid : is_valid waiting ≡ true
unfolding definitions
waiting-valid = refl

waiting-end : end_of waiting ≡ 116
unfolding definitions
waiting-end = refl

waiting-table : table_of waiting ≡ (row 1 Prepared 52 16 ∷ row 2 Active 80 80 ∷ [])
unfolding definitions
waiting-table = refl

-- in doubt and a loser; both hold their keys
waiting-in_doubt : in_doubt waiting ≡ (1 ∷ [])
unfolding definitions
waiting-in_doubt = refl

waiting-losers : losers waiting ≡ (2 ∷ [])
unfolding definitions
waiting-losers = refl

waiting-open : is_open waiting 1 ≡ true
unfolding definitions
waiting-open = refl

-- the loser alone is undone and ended
waiting-tail : tail_of waiting ≡ ((clr 116 80 2 (key 0 1) None 0) ∷ (at 158 116 2 End) ∷ [])
unfolding definitions
waiting-tail = refl

waiting-undone : is_undone waiting ≡ false
unfolding definitions
waiting-undone = refl

waiting-closed : is_closed (table_of waiting) ≡ false
unfolding definitions
waiting-closed = refl

-- 70 bytes for the tail, 56 for the decision and 42 for the update that it may undo
waiting-reserve : reserve_of waiting ≡ 168
unfolding definitions
waiting-reserve = refl

-- what is in doubt is kept and not read
waiting-kept : kept waiting (key 0 0) ≡ one 0xaa
unfolding definitions
waiting-kept = refl

waiting-won : won waiting (key 0 0) ≡ None
unfolding definitions
waiting-won = refl

waiting-lost : kept waiting (key 0 1) ≡ None
unfolding definitions
waiting-lost = refl

waiting-commits : commits_of waiting ≡ []
unfolding definitions
waiting-commits = refl

-- ---- that log with its tail: a takeover ends here

abbrev finished : List Record
finished = waiting ++ (clr 116 80 2 (key 0 1) None 0) ∷ (at 158 116 2 End) ∷ []

finished-valid : is_valid finished ≡ true
unfolding definitions
finished-valid = refl

finished-end : end_of finished ≡ 186
unfolding definitions
finished-end = refl

finished-unended : unended finished ≡ (1 ∷ [])
unfolding definitions
finished-unended = refl

finished-undone : is_undone finished ≡ true
unfolding definitions
finished-undone = refl

finished-closed : is_closed (table_of finished) ≡ true
unfolding definitions
finished-closed = refl

finished-tail : tail_of finished ≡ []
unfolding definitions
finished-tail = refl

finished-reserve : reserve_of finished ≡ 98
unfolding definitions
finished-reserve = refl

finished-now : image_now finished (key 0 0) ≡ one 0xaa
unfolding definitions
finished-now = refl

-- ---- decided: it commits

abbrev decided : List Record
decided = finished ++ (at 186 52 1 Commit) ∷ []

decided-valid : is_valid decided ≡ true
unfolding definitions
decided-valid = refl

decided-table : table_of decided ≡ (row 1 Committed 186 16 ∷ [])
unfolding definitions
decided-table = refl

decided-tail : tail_of decided ≡ ((at 214 186 1 End) ∷ [])
unfolding definitions
decided-tail = refl

decided-reserve : reserve_of decided ≡ 28
unfolding definitions
decided-reserve = refl

decided-undone : is_undone decided ≡ false
unfolding definitions
decided-undone = refl

decided-won : won decided (key 0 0) ≡ one 0xaa
unfolding definitions
decided-won = refl

decided-kept : kept decided (key 0 0) ≡ one 0xaa
unfolding definitions
decided-kept = refl

-- ---- decided: it rolls back

abbrev decided_back : List Record
decided_back = finished ++ (at 186 52 1 Rollback) ∷ []

decided_back-valid : is_valid decided_back ≡ true
unfolding definitions
decided_back-valid = refl

decided_back-table : table_of decided_back ≡ (row 1 RollingBack 186 16 ∷ [])
unfolding definitions
decided_back-table = refl

decided_back-loser : is_loser decided_back 1 ≡ true
unfolding definitions
decided_back-loser = refl

decided_back-tail : tail_of decided_back ≡ ((clr 214 186 1 (key 0 0) None 0) ∷ (at 256 214 1 End) ∷ [])
unfolding definitions
decided_back-tail = refl

-- the room of the decision is used up exactly
decided_back-reserve : reserve_of decided_back ≡ 70
unfolding definitions
decided_back-reserve = refl

decided_back-kept : kept decided_back (key 0 0) ≡ None
unfolding definitions
decided_back-kept = refl

-- ---- in doubt with nothing written

abbrev blank : List Record
blank = (at 16 0 1 Prepare) ∷ []

blank-valid : is_valid blank ≡ true
unfolding definitions
blank-valid = refl

blank-table : table_of blank ≡ (row 1 Prepared 16 0 ∷ [])
unfolding definitions
blank-table = refl

-- not even an end
blank-tail : tail_of blank ≡ []
unfolding definitions
blank-tail = refl

blank-reserve : reserve_of blank ≡ 56
unfolding definitions
blank-reserve = refl

blank-undone : is_undone blank ≡ true
unfolding definitions
blank-undone = refl

blank-back : tail_of (blank ++ (at 44 16 1 Rollback) ∷ []) ≡ ((at 72 44 1 End) ∷ [])
unfolding definitions
blank-back = refl

-- ---- two in doubt among others

-- The first has overwritten a value and compensated an update, the second wrote over a committed value; the third committed, the
-- fourth is a loser, and the fifth rolls back though it was prepared.
abbrev many : List Record
many =
    (at 16 0 1 (Update (key 0 0) None (one 0x11)))
    ∷ (at 52 16 1 (Update (key 0 0) (one 0x11) (one 0x12)))
    ∷ (at 89 52 1 (Update (key 0 1) None (one 0x13)))
    ∷ (clr 125 89 1 (key 0 1) None 52)
    ∷ (at 167 0 3 (Update (key 1 0) None (one 0x31)))
    ∷ (at 203 167 3 Commit)
    ∷ (at 231 0 4 (Update (key 0 1) None (one 0x41)))
    ∷ (at 267 0 5 (Update (key 1 1) None (one 0x51)))
    ∷ (at 303 267 5 Prepare)
    ∷ (at 331 303 5 Rollback)
    ∷ (at 359 0 6 (Update (key 1 0) (one 0x31) (one 0x61)))
    ∷ (at 396 359 6 Prepare)
    ∷ (at 424 125 1 Prepare)
    ∷ []

many-valid : is_valid many ≡ true
unfolding definitions
many-valid = refl

many-table : table_of many
    ≡ (row 1 Prepared 424 52 ∷ row 3 Committed 203 167 ∷ row 4 Active 231 231 ∷ row 5 RollingBack 331 267 ∷ row 6 Prepared 396 359 ∷ [])
unfolding definitions
many-table = refl

many-in_doubt : in_doubt many ≡ (1 ∷ 6 ∷ [])
unfolding definitions
many-in_doubt = refl

many-tail : tail_of many ≡ ((at 452 203 3 End)
    ∷ (clr 480 331 5 (key 1 1) None 0)
    ∷ (at 522 480 5 End)
    ∷ (clr 550 231 4 (key 0 1) None 0)
    ∷ (at 592 550 4 End)
    ∷ [])
unfolding definitions
many-tail = refl

-- 168 bytes of tail; 56, 42 and 43 for the first, 56 and 43 for the sixth
many-reserve : reserve_of many ≡ 408
unfolding definitions
many-reserve = refl

many-kept : kept many (key 0 0) ≡ one 0x12
unfolding definitions
many-kept = refl

many-kept_over : kept many (key 1 0) ≡ one 0x61
unfolding definitions
many-kept_over = refl

many-won : won many (key 1 0) ≡ one 0x31
unfolding definitions
many-won = refl

many-lost : kept many (key 1 1) ≡ None
unfolding definitions
many-lost = refl

-- ---- a device of one block: six updates of one byte fill it with their tail, and leave no room for the rollback of a decision

abbrev six_prepared : List Record
six_prepared =
    at 16 0 1 (Update (key 0 0) None (one 1)) ∷ at 52 16 1 (Update (key 0 1) None (one 1)) ∷ at 88 52 1 (Update (key 0 2) None (one 1))
    ∷ at 124 88 1 (Update (key 0 3) None (one 1)) ∷ at 160 124 1 (Update (key 0 4) None (one 1))
    ∷ at 196 160 1 (Update (key 0 5) None (one 1)) ∷ at 232 196 1 Prepare ∷ []

six_prepared-valid : is_valid six_prepared ≡ true
unfolding definitions
six_prepared-valid = refl

six_prepared-too_long : end_of six_prepared + reserve_of six_prepared ≡ 568
unfolding definitions
six_prepared-too_long = refl

-- ---- which records may follow: 8 and 9 look at a prepare as at any record of a transaction

-- one update
abbrev begun : List Record
begun = (at 16 0 1 (Update (key 0 0) None (one 0x11))) ∷ []

prepare-prev : first_bad begun (at 52 0 1 Prepare) ≡ Some BadPrev
unfolding definitions
prepare-prev = refl

prepare-chain : first_bad begun (at 52 16 1 Prepare) ≡ None
unfolding definitions
prepare-chain = refl

prepare-first : first_bad begun (at 52 0 2 Prepare) ≡ None
unfolding definitions
prepare-first = refl

prepare-zero : first_bad [] (at 16 0 0 Prepare) ≡ Some OldTransaction
unfolding definitions
prepare-zero = refl

-- one update, committed and ended
abbrev ended : List Record
ended = (at 16 0 1 (Update (key 0 0) None (one 0x11))) ∷ (at 52 16 1 Commit) ∷ (at 80 52 1 End) ∷ []

ended-prepare : first_bad ended (at 108 0 1 Prepare) ≡ Some OldTransaction
unfolding definitions
ended-prepare = refl

-- ---- 10: who may not prepare

abbrev committed : List Record
committed = (at 16 0 1 (Update (key 0 0) None (one 0x11))) ∷ (at 52 16 1 Commit) ∷ []

committed-prepare : first_bad committed (at 80 52 1 Prepare) ≡ Some WrongState
unfolding definitions
committed-prepare = refl

abbrev rolling : List Record
rolling = (at 16 0 1 (Update (key 0 0) None (one 0x11))) ∷ (at 52 16 1 Rollback) ∷ []

rolling-prepare : first_bad rolling (at 80 52 1 Prepare) ≡ Some WrongState
unfolding definitions
rolling-prepare = refl

-- two updates, the second one compensated: no rollback of the whole
abbrev partial : List Record
partial = (at 16 0 1 (Update (key 0 0) None (one 0x11))) ∷ (at 52 16 1 (Update (key 0 1) None (one 0x22))) ∷ (clr 88 52 1 (key 0 1) None 16) ∷ []

partial-prepare : first_bad partial (at 130 88 1 Prepare) ≡ None
unfolding definitions
partial-prepare = refl

-- ---- 10: a transaction in doubt goes on by its decision alone

abbrev prepared : List Record
prepared = (at 16 0 1 (Update (key 0 0) None (one 0x11))) ∷ (at 52 16 1 Prepare) ∷ []

prepared-valid : is_valid prepared ≡ true
unfolding definitions
prepared-valid = refl

prepared-update : first_bad prepared (at 80 52 1 (Update (key 0 1) None (one 0x22))) ≡ Some WrongState
unfolding definitions
prepared-update = refl

prepared-compensation : first_bad prepared (clr 80 52 1 (key 0 0) None 0) ≡ Some WrongState
unfolding definitions
prepared-compensation = refl

prepared-end : first_bad prepared (at 80 52 1 End) ≡ Some WrongState
unfolding definitions
prepared-end = refl

prepared-prepare : first_bad prepared (at 80 52 1 Prepare) ≡ Some WrongState
unfolding definitions
prepared-prepare = refl

prepared-commit : first_bad prepared (at 80 52 1 Commit) ≡ None
unfolding definitions
prepared-commit = refl

prepared-rollback : first_bad prepared (at 80 52 1 Rollback) ≡ None
unfolding definitions
prepared-rollback = refl

-- with nothing written it may not end either
blank-end : first_bad blank (at 44 16 1 End) ≡ Some WrongState
unfolding definitions
blank-end = refl

-- a checkpoint's record may not name it, and other transactions go on
prepared-begin : first_bad prepared (at 80 0 1 BeginCheckpoint) ≡ Some WrongState
unfolding definitions
prepared-begin = refl

prepared-checkpoint : first_bad prepared (at 80 0 1 (EndCheckpoint [] [])) ≡ Some WrongState
unfolding definitions
prepared-checkpoint = refl

prepared-begin_none : first_bad prepared (at 80 0 0 BeginCheckpoint) ≡ None
unfolding definitions
prepared-begin_none = refl

prepared-other : first_bad prepared (at 80 0 2 (Update (key 0 1) None (one 0x22))) ≡ None
unfolding definitions
prepared-other = refl

-- it holds its keys
prepared-held : first_bad prepared (at 80 0 2 (Update (key 0 0) (one 0x11) (one 0x22))) ≡ Some (RecordHeld (record { 0 = 1 }))
unfolding definitions
prepared-held = refl

-- ---- 10: once it is decided to roll back it goes on as one that rolls back

abbrev prepared_back : List Record
prepared_back = (at 16 0 1 (Update (key 0 0) None (one 0x11))) ∷ (at 52 16 1 Prepare) ∷ (at 80 52 1 Rollback) ∷ []

prepared_back-valid : is_valid prepared_back ≡ true
unfolding definitions
prepared_back-valid = refl

prepared_back-compensation : first_bad prepared_back (clr 108 80 1 (key 0 0) None 0) ≡ None
unfolding definitions
prepared_back-compensation = refl

prepared_back-update : first_bad prepared_back (at 108 80 1 (Update (key 0 1) None (one 0x22))) ≡ Some WrongState
unfolding definitions
prepared_back-update = refl

prepared_back-commit : first_bad prepared_back (at 108 80 1 Commit) ≡ Some WrongState
unfolding definitions
prepared_back-commit = refl

prepared_back-prepare : first_bad prepared_back (at 108 80 1 Prepare) ≡ Some WrongState
unfolding definitions
prepared_back-prepare = refl

prepared_back-end : first_bad prepared_back (at 108 80 1 End) ≡ Some WrongState
unfolding definitions
prepared_back-end = refl

-- and once to commit as one that has committed
abbrev prepared_on : List Record
prepared_on = (at 16 0 1 (Update (key 0 0) None (one 0x11))) ∷ (at 52 16 1 Prepare) ∷ (at 80 52 1 Commit) ∷ []

prepared_on-end : first_bad prepared_on (at 108 80 1 End) ≡ None
unfolding definitions
prepared_on-end = refl

prepared_on-rollback : first_bad prepared_on (at 108 80 1 Rollback) ≡ Some WrongState
unfolding definitions
prepared_on-rollback = refl

prepared_on-free : first_bad prepared_on (at 108 0 2 (Update (key 0 0) (one 0x11) (one 0x22))) ≡ None
unfolding definitions
prepared_on-free = refl

-- ---- 10 before 11, 14 and 16, and 8 before 10

order-8_10 : first_bad prepared (at 80 16 1 End) ≡ Some BadPrev
unfolding definitions
order-8_10 = refl

order-10_11 : first_bad prepared (clr 80 52 1 (key 0 0) None 16) ≡ Some WrongState
unfolding definitions
order-10_11 = refl

order-10_14 : first_bad prepared (at 80 52 1 (Update (key 0 1) (one 0x11) (one 0x22))) ≡ Some WrongState
unfolding definitions
order-10_14 = refl

-- ---- 15: one in doubt is unended

-- this many transactions in doubt, the numbers from here on
abbrev prepares : ℕ → ℕ → List Record
prepares zero t = []
prepares (suc n) t = at (28 * t - 12) 0 t Prepare ∷ prepares n (t + 1)

prepares-full : first_bad (prepares 256 1) (at 7184 0 257 Prepare) ≡ Some TooManyTransactions
unfolding definitions
prepares-full = refl

prepares-decided : first_bad (prepares 256 1) (at 7184 16 1 Commit) ≡ None
unfolding definitions
prepares-decided = refl
