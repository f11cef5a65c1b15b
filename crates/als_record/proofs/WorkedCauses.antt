-- Worked causes: why a record may not follow a log, for each rule of validity, and where two of them speak against it.
use Rattle.std.proofs.Common.{◌≡◌, ℕ, zero, suc, ◌+◌, ◌-◌, ◌*◌, true, List, [], ◌∷◌, Some, None, refl}
use Rattle.als_record.specs.declared.record.Body.TheVariants.{Update, Commit, Rollback, End, BeginCheckpoint, EndCheckpoint}
use Rattle.als_record.specs.declared.record.Record.{Record}
use Rattle.als_record.specs.declared.cause.Cause.TheVariants.{BadPrev, OldTransaction, WrongState, WrongUndoNext, WrongCompensation, RecordHeld, BeforeImage, TooManyTransactions, BadCheckpoint}
use Rattle.als_record.specs.Validity.{first_bad, is_valid}
use Rattle.als_record.proofs.Worked.{definitions, at, key, one, clr}

-- ---- the logs that the records below follow

-- one update
abbrev begun : List Record
begun = (at 16 0 1 (Update (key 0 0) None (one 0x11))) ∷ []

begun-valid : is_valid begun ≡ true
unfolding definitions
begun-valid = refl

-- one update, committed
abbrev committed : List Record
committed = (at 16 0 1 (Update (key 0 0) None (one 0x11))) ∷ (at 52 16 1 Commit) ∷ []

committed-valid : is_valid committed ≡ true
unfolding definitions
committed-valid = refl

-- one update, committed and ended
abbrev ended : List Record
ended = (at 16 0 1 (Update (key 0 0) None (one 0x11))) ∷ (at 52 16 1 Commit) ∷ (at 80 52 1 End) ∷ []

ended-valid : is_valid ended ≡ true
unfolding definitions
ended-valid = refl

-- one update, and the record that its transaction rolls back
abbrev rolling : List Record
rolling = (at 16 0 1 (Update (key 0 0) None (one 0x11))) ∷ (at 52 16 1 Rollback) ∷ []

rolling-valid : is_valid rolling ≡ true
unfolding definitions
rolling-valid = refl

-- the update compensated behind that record
abbrev rolled : List Record
rolled = (at 16 0 1 (Update (key 0 0) None (one 0x11))) ∷ (at 52 16 1 Rollback) ∷ (clr 80 52 1 (key 0 0) None 0) ∷ []

rolled-valid : is_valid rolled ≡ true
unfolding definitions
rolled-valid = refl

-- two updates, the second one compensated
abbrev partial : List Record
partial = (at 16 0 1 (Update (key 0 0) None (one 0x11))) ∷ (at 52 16 1 (Update (key 0 1) None (one 0x22))) ∷ (clr 88 52 1 (key 0 1) None 16) ∷ []

partial-valid : is_valid partial ≡ true
unfolding definitions
partial-valid = refl

-- an update of one transaction, and then one of another
abbrev held : List Record
held = (at 16 0 1 (Update (key 0 0) None (one 0x11))) ∷ (at 52 0 2 (Update (key 0 1) None (one 0x22))) ∷ []

held-valid : is_valid held ≡ true
unfolding definitions
held-valid = refl

-- ---- 8: the PrevLSN of a first record, and of each kind of record behind another one of its transaction

first-prev : first_bad [] (at 16 8 1 (Update (key 0 0) None (one 0x11))) ≡ Some BadPrev
unfolding definitions
first-prev = refl

-- that of another transaction
second-prev : first_bad begun (at 52 16 2 (Update (key 0 1) None (one 0x22))) ≡ Some BadPrev
unfolding definitions
second-prev = refl

second-first : first_bad begun (at 52 0 2 (Update (key 0 1) None (one 0x22))) ≡ None
unfolding definitions
second-first = refl

-- the last record, but of another transaction
update-prev : first_bad held (at 88 52 1 (Update (key 1 0) None (one 0x33))) ≡ Some BadPrev
unfolding definitions
update-prev = refl

update-chain : first_bad held (at 88 16 1 (Update (key 1 0) None (one 0x33))) ≡ None
unfolding definitions
update-chain = refl

-- the update that it undoes, and not the record before it
compensation-prev : first_bad partial (clr 130 16 1 (key 0 0) None 0) ≡ Some BadPrev
unfolding definitions
compensation-prev = refl

compensation-chain : first_bad partial (clr 130 88 1 (key 0 0) None 0) ≡ None
unfolding definitions
compensation-chain = refl

commit-prev : first_bad partial (at 130 52 1 Commit) ≡ Some BadPrev
unfolding definitions
commit-prev = refl

commit-chain : first_bad partial (at 130 88 1 Commit) ≡ None
unfolding definitions
commit-chain = refl

rollback-prev : first_bad partial (at 130 52 1 Rollback) ≡ Some BadPrev
unfolding definitions
rollback-prev = refl

rollback-chain : first_bad partial (at 130 88 1 Rollback) ≡ None
unfolding definitions
rollback-chain = refl

end-prev : first_bad committed (at 80 16 1 End) ≡ Some BadPrev
unfolding definitions
end-prev = refl

end-chain : first_bad committed (at 80 52 1 End) ≡ None
unfolding definitions
end-chain = refl

-- ---- 9: each kind of record of a transaction that has ended; a new one that does not rise; one that goes on beside a greater one

ended-update : first_bad ended (at 108 0 1 (Update (key 0 1) None (one 0x22))) ≡ Some OldTransaction
unfolding definitions
ended-update = refl

ended-compensation : first_bad ended (clr 108 0 1 (key 0 0) None 0) ≡ Some OldTransaction
unfolding definitions
ended-compensation = refl

ended-commit : first_bad ended (at 108 0 1 Commit) ≡ Some OldTransaction
unfolding definitions
ended-commit = refl

ended-rollback : first_bad ended (at 108 0 1 Rollback) ≡ Some OldTransaction
unfolding definitions
ended-rollback = refl

ended-end : first_bad ended (at 108 0 1 End) ≡ Some OldTransaction
unfolding definitions
ended-end = refl

ended-next : first_bad ended (at 108 0 2 (Update (key 0 0) (one 0x11) (one 0x22))) ≡ None
unfolding definitions
ended-next = refl

held-new : first_bad held (at 88 0 3 (Update (key 1 0) None (one 0x33))) ≡ None
unfolding definitions
held-new = refl

-- a transaction that skips a number
abbrev third : List Record
third = (at 16 0 3 (Update (key 0 0) None (one 0x11))) ∷ []

third-valid : is_valid third ≡ true
unfolding definitions
third-valid = refl

third-below : first_bad third (at 52 0 2 Rollback) ≡ Some OldTransaction
unfolding definitions
third-below = refl

-- ---- 10: what a transaction that has committed may not write

committed-update : first_bad committed (at 80 52 1 (Update (key 0 1) None (one 0x22))) ≡ Some WrongState
unfolding definitions
committed-update = refl

committed-compensation : first_bad committed (clr 80 52 1 (key 0 0) None 0) ≡ Some WrongState
unfolding definitions
committed-compensation = refl

committed-commit : first_bad committed (at 80 52 1 Commit) ≡ Some WrongState
unfolding definitions
committed-commit = refl

committed-rollback : first_bad committed (at 80 52 1 Rollback) ≡ Some WrongState
unfolding definitions
committed-rollback = refl

-- a checkpoint's record may not name one that has ended either
ended-begin : first_bad ended (at 108 0 1 BeginCheckpoint) ≡ Some WrongState
unfolding definitions
ended-begin = refl

ended-checkpoint : first_bad ended (at 108 0 1 (EndCheckpoint [] [])) ≡ Some WrongState
unfolding definitions
ended-checkpoint = refl

-- ---- 10: what a transaction that rolls back may not write, before its updates are compensated and after

rolling-update : first_bad rolling (at 80 52 1 (Update (key 0 1) None (one 0x22))) ≡ Some WrongState
unfolding definitions
rolling-update = refl

rolling-commit : first_bad rolling (at 80 52 1 Commit) ≡ Some WrongState
unfolding definitions
rolling-commit = refl

rolling-rollback : first_bad rolling (at 80 52 1 Rollback) ≡ Some WrongState
unfolding definitions
rolling-rollback = refl

rolling-end : first_bad rolling (at 80 52 1 End) ≡ Some WrongState
unfolding definitions
rolling-end = refl

rolling-compensation : first_bad rolling (clr 80 52 1 (key 0 0) None 0) ≡ None
unfolding definitions
rolling-compensation = refl

rolled-update : first_bad rolled (at 122 80 1 (Update (key 0 1) None (one 0x22))) ≡ Some WrongState
unfolding definitions
rolled-update = refl

rolled-commit : first_bad rolled (at 122 80 1 Commit) ≡ Some WrongState
unfolding definitions
rolled-commit = refl

rolled-rollback : first_bad rolled (at 122 80 1 Rollback) ≡ Some WrongState
unfolding definitions
rolled-rollback = refl

rolled-end : first_bad rolled (at 122 80 1 End) ≡ None
unfolding definitions
rolled-end = refl

-- without a rollback record it may go on, but not end while an update survives
partial-update : first_bad partial (at 130 88 1 (Update (key 0 1) None (one 0x33))) ≡ None
unfolding definitions
partial-update = refl

partial-end : first_bad partial (at 130 88 1 End) ≡ Some WrongState
unfolding definitions
partial-end = refl

-- ---- 11: a compensation goes on at the PrevLSN of the newest update left

compensation-next_skips : first_bad held (clr 88 52 2 (key 0 1) None 16) ≡ Some WrongUndoNext
unfolding definitions
compensation-next_skips = refl

-- the LSN of that update
compensation-next_itself : first_bad partial (clr 130 88 1 (key 0 0) None 16) ≡ Some WrongUndoNext
unfolding definitions
compensation-next_itself = refl

-- the record before it
compensation-next_last : first_bad partial (clr 130 88 1 (key 0 0) None 88) ≡ Some WrongUndoNext
unfolding definitions
compensation-next_last = refl

-- ---- 12: a compensation of the newest update left, at its key, with its before image

compensation-nothing : first_bad rolled (clr 122 80 1 (key 0 0) None 0) ≡ Some WrongCompensation
unfolding definitions
compensation-nothing = refl

-- a first record
compensation-first : first_bad held (clr 88 0 3 (key 0 0) None 0) ≡ Some WrongCompensation
unfolding definitions
compensation-first = refl

compensation-slot : first_bad begun (clr 52 16 1 (key 0 1) None 0) ≡ Some WrongCompensation
unfolding definitions
compensation-slot = refl

compensation-page : first_bad begun (clr 52 16 1 (key 1 0) None 0) ≡ Some WrongCompensation
unfolding definitions
compensation-page = refl

-- its after image
compensation-image : first_bad begun (clr 52 16 1 (key 0 0) (one 0x11) 0) ≡ Some WrongCompensation
unfolding definitions
compensation-image = refl

-- the update that was compensated already
compensation-again : first_bad partial (clr 130 88 1 (key 0 1) None 16) ≡ Some WrongUndoNext
unfolding definitions
compensation-again = refl

-- ---- 13: a key is held by an open transaction with an update of it left

begun-held : first_bad begun (at 52 0 2 (Update (key 0 0) (one 0x11) (one 0x22))) ≡ Some (RecordHeld (record { 0 = 1 }))
unfolding definitions
begun-held = refl

second-held : first_bad held (at 88 16 1 (Update (key 0 1) (one 0x22) (one 0x33))) ≡ Some (RecordHeld (record { 0 = 2 }))
unfolding definitions
second-held = refl

rolling-held : first_bad rolling (at 80 0 2 (Update (key 0 0) (one 0x11) (one 0x22))) ≡ Some (RecordHeld (record { 0 = 1 }))
unfolding definitions
rolling-held = refl

begun-own : first_bad begun (at 52 16 1 (Update (key 0 0) (one 0x11) (one 0x22))) ≡ None
unfolding definitions
begun-own = refl

committed-free : first_bad committed (at 80 0 2 (Update (key 0 0) (one 0x11) (one 0x22))) ≡ None
unfolding definitions
committed-free = refl

rolled-free : first_bad rolled (at 122 0 2 (Update (key 0 0) None (one 0x22))) ≡ None
unfolding definitions
rolled-free = refl

partial-free : first_bad partial (at 130 0 2 (Update (key 0 1) None (one 0x22))) ≡ None
unfolding definitions
partial-free = refl

partial-held : first_bad partial (at 130 0 2 (Update (key 0 0) (one 0x11) (one 0x22))) ≡ Some (RecordHeld (record { 0 = 1 }))
unfolding definitions
partial-held = refl

-- ---- 14: the before image is what the key has now, and an absent image is no empty one

begun-absent : first_bad begun (at 52 16 1 (Update (key 0 0) None (one 0x22))) ≡ Some BeforeImage
unfolding definitions
begun-absent = refl

begun-present : first_bad begun (at 52 16 1 (Update (key 0 1) (one 0x11) (one 0x22))) ≡ Some BeforeImage
unfolding definitions
begun-present = refl

begun-empty : first_bad begun (at 52 16 1 (Update (key 0 1) (Some (record { items = [] })) (one 0x22))) ≡ Some BeforeImage
unfolding definitions
begun-empty = refl

-- what a compensation wrote
rolled-before : first_bad rolled (at 122 0 2 (Update (key 0 0) (one 0x11) (one 0x22))) ≡ Some BeforeImage
unfolding definitions
rolled-before = refl

-- ---- 15: 256 unended transactions, and what may follow them

-- this many transactions that begin to roll back, the numbers from here on
abbrev rollbacks : ℕ → ℕ → List Record
rollbacks zero t = []
rollbacks (suc n) t = at (28 * t - 12) 0 t Rollback ∷ rollbacks n (t + 1)

full-last : first_bad (rollbacks 255 1) (at 7156 0 256 Rollback) ≡ None
unfolding definitions
full-last = refl

full-update : first_bad (rollbacks 256 1) (at 7184 0 257 (Update (key 0 0) None (one 0x11))) ≡ Some TooManyTransactions
unfolding definitions
full-update = refl

-- an end leaves nothing unended, and one of the 256 may end
full-end : first_bad (rollbacks 256 1) (at 7184 0 257 End) ≡ None
unfolding definitions
full-end = refl

full-known : first_bad (rollbacks 256 1) (at 7184 16 1 End) ≡ None
unfolding definitions
full-known = refl

full-checkpoint : first_bad (rollbacks 256 1) (at 7184 0 0 BeginCheckpoint) ≡ None
unfolding definitions
full-checkpoint = refl

-- ---- 16: a checkpoint's record names no transaction, and the end names the last begin, once

begin-prev : first_bad begun (at 52 16 0 BeginCheckpoint) ≡ Some BadCheckpoint
unfolding definitions
begin-prev = refl

begin-trans : first_bad begun (at 52 0 1 BeginCheckpoint) ≡ Some BadCheckpoint
unfolding definitions
begin-trans = refl

begin-new_trans : first_bad begun (at 52 0 2 BeginCheckpoint) ≡ Some BadCheckpoint
unfolding definitions
begin-new_trans = refl

-- a begin
abbrev one_begin : List Record
one_begin = (at 16 0 0 BeginCheckpoint) ∷ []

one_begin-valid : is_valid one_begin ≡ true
unfolding definitions
one_begin-valid = refl

-- another one may follow
one_begin-begin : first_bad one_begin (at 44 0 0 BeginCheckpoint) ≡ None
unfolding definitions
one_begin-begin = refl

one_begin-chained : first_bad one_begin (at 44 16 0 BeginCheckpoint) ≡ Some BadCheckpoint
unfolding definitions
one_begin-chained = refl

one_begin-end : first_bad one_begin (at 44 16 0 (EndCheckpoint [] [])) ≡ None
unfolding definitions
one_begin-end = refl

one_begin-trans : first_bad one_begin (at 44 16 1 (EndCheckpoint [] [])) ≡ Some BadCheckpoint
unfolding definitions
one_begin-trans = refl

one_begin-prev : first_bad one_begin (at 44 0 0 (EndCheckpoint [] [])) ≡ Some BadCheckpoint
unfolding definitions
one_begin-prev = refl

-- two begins
abbrev two_begins : List Record
two_begins = (at 16 0 0 BeginCheckpoint) ∷ (at 44 0 0 BeginCheckpoint) ∷ []

two_begins-valid : is_valid two_begins ≡ true
unfolding definitions
two_begins-valid = refl

two_begins-last : first_bad two_begins (at 72 44 0 (EndCheckpoint [] [])) ≡ None
unfolding definitions
two_begins-last = refl

two_begins-first : first_bad two_begins (at 72 16 0 (EndCheckpoint [] [])) ≡ Some BadCheckpoint
unfolding definitions
two_begins-first = refl

-- two begins, and the end of the last
abbrev two_begins_ended : List Record
two_begins_ended = (at 16 0 0 BeginCheckpoint) ∷ (at 44 0 0 BeginCheckpoint) ∷ (at 72 44 0 (EndCheckpoint [] [])) ∷ []

two_begins_ended-valid : is_valid two_begins_ended ≡ true
unfolding definitions
two_begins_ended-valid = refl

two_begins_ended-first : first_bad two_begins_ended (at 104 16 0 (EndCheckpoint [] [])) ≡ Some BadCheckpoint
unfolding definitions
two_begins_ended-first = refl

two_begins_ended-last : first_bad two_begins_ended (at 104 44 0 (EndCheckpoint [] [])) ≡ Some BadCheckpoint
unfolding definitions
two_begins_ended-last = refl

two_begins_ended-none : first_bad two_begins_ended (at 104 0 0 (EndCheckpoint [] [])) ≡ Some BadCheckpoint
unfolding definitions
two_begins_ended-none = refl

-- an ended checkpoint, and another begin with an update behind it
abbrev begun_again : List Record
begun_again = (at 16 0 0 BeginCheckpoint) ∷ (at 44 16 0 (EndCheckpoint [] [])) ∷ (at 76 0 0 BeginCheckpoint) ∷ (at 104 0 1 (Update (key 0 0) None (one 0x11))) ∷ []

begun_again-valid : is_valid begun_again ≡ true
unfolding definitions
begun_again-valid = refl

begun_again-end : first_bad begun_again (at 140 76 0 (EndCheckpoint [] [])) ≡ None
unfolding definitions
begun_again-end = refl

begun_again-first : first_bad begun_again (at 140 16 0 (EndCheckpoint [] [])) ≡ Some BadCheckpoint
unfolding definitions
begun_again-first = refl

begun_again-last : first_bad begun_again (at 140 104 0 (EndCheckpoint [] [])) ≡ Some BadCheckpoint
unfolding definitions
begun_again-last = refl

-- ---- where two causes stand, the one with the lower number

order-8_9 : first_bad ended (at 108 80 1 (Update (key 0 1) None (one 0x22))) ≡ Some BadPrev
unfolding definitions
order-8_9 = refl

order-8_10 : first_bad committed (at 80 16 1 Commit) ≡ Some BadPrev
unfolding definitions
order-8_10 = refl

order-8_13 : first_bad held (at 88 52 1 (Update (key 0 1) (one 0x22) (one 0x33))) ≡ Some BadPrev
unfolding definitions
order-8_13 = refl

order-9_10 : first_bad ended (at 108 0 1 (Update (key 0 1) None (one 0x22))) ≡ Some OldTransaction
unfolding definitions
order-9_10 = refl

order-10_11 : first_bad committed (clr 80 52 1 (key 0 0) None 16) ≡ Some WrongState
unfolding definitions
order-10_11 = refl

order-10_12 : first_bad committed (clr 80 52 1 (key 0 1) None 0) ≡ Some WrongState
unfolding definitions
order-10_12 = refl

-- the second transaction rolls back
-- an update of one transaction, and another one that rolls back
abbrev held_rolling : List Record
held_rolling = (at 16 0 1 (Update (key 0 0) None (one 0x11))) ∷ (at 52 0 2 Rollback) ∷ []

held_rolling-valid : is_valid held_rolling ≡ true
unfolding definitions
held_rolling-valid = refl

order-10_13 : first_bad held_rolling (at 80 52 2 (Update (key 0 0) (one 0x11) (one 0x22))) ≡ Some WrongState
unfolding definitions
order-10_13 = refl

order-10_14 : first_bad held_rolling (at 80 52 2 (Update (key 0 1) (one 0x11) (one 0x22))) ≡ Some WrongState
unfolding definitions
order-10_14 = refl

order-10_16 : first_bad committed (at 80 16 1 BeginCheckpoint) ≡ Some WrongState
unfolding definitions
order-10_16 = refl

order-11_12 : first_bad begun (clr 52 16 1 (key 0 1) None 16) ≡ Some WrongUndoNext
unfolding definitions
order-11_12 = refl

order-13_14 : first_bad begun (at 52 0 2 (Update (key 0 0) None (one 0x22))) ≡ Some (RecordHeld (record { 0 = 1 }))
unfolding definitions
order-13_14 = refl

order-14_15 : first_bad (rollbacks 256 1) (at 7184 0 257 (Update (key 0 0) (one 0x11) (one 0x22))) ≡ Some BeforeImage
unfolding definitions
order-14_15 = refl

-- No other order of neighbours shows. 12 speaks of compensations and 13 of updates. 15 speaks of a transaction's first record and 16 of
-- a checkpoint's, which names none that is admitted. 11 and 12 speak of compensations, so neither meets 13 to 16; 8 and 9 speak of no
-- checkpoint's record, so neither meets 16; 10 stands against no transaction's first record, so it does not meet 15.
