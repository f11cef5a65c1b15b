-- Worked tails: what a takeover appends where the updates of several losers interleave.
use Rattle.std.proofs.Common.{◌≡◌, ◌+◌, true, List, [], ◌∷◌, None, refl}
use Rattle.als_record.specs.declared.record.Body.TheVariants.{Update, Commit, Rollback, End}
use Rattle.als_record.specs.declared.record.Record.{Record}
use Rattle.als_record.specs.declared.transaction_state.TransactionState.TheVariants.{Active, Committed, RollingBack}
use Rattle.als_record.specs.LogText.{end_of}
use Rattle.als_record.specs.Table.{table_of}
use Rattle.als_record.specs.Validity.{is_valid}
use Rattle.als_record.specs.Tail.{tail_of, reserve_of}
use Rattle.als_record.proofs.Worked.{definitions, at, key, one, clr, row}

-- ---- two losers whose updates interleave, one of them over a value of its own

-- the first one wrote at 16, 88 and 161, the second one at 52 and 125
abbrev two : List Record
two =
    (at 16 0 1 (Update (key 0 0) None (one 0x11)))
    ∷ (at 52 0 2 (Update (key 0 1) None (one 0x22)))
    ∷ (at 88 16 1 (Update (key 0 0) (one 0x11) (one 0x33)))
    ∷ (at 125 52 2 (Update (key 1 0) None (one 0x44)))
    ∷ (at 161 88 1 (Update (key 0 2) None (one 0x55)))
    ∷ []

two-valid : is_valid two ≡ true
unfolding definitions
two-valid = refl

-- undone at 161, 125, 88, 52, 16
two-tail : tail_of two ≡ ((clr 197 161 1 (key 0 2) None 88)
    ∷ (clr 239 125 2 (key 1 0) None 52)
    ∷ (clr 281 197 1 (key 0 0) (one 0x11) 16)
    ∷ (clr 324 239 2 (key 0 1) None 0)
    ∷ (at 366 324 2 End)
    ∷ (clr 394 281 1 (key 0 0) None 0)
    ∷ (at 436 394 1 End)
    ∷ [])
unfolding definitions
two-tail = refl

two-len : end_of two + reserve_of two ≡ 464
unfolding definitions
two-len = refl

-- ---- three losers, of which one has undone an update and one has begun to roll back; and two transactions with nothing to undo

-- the fourth transaction has committed, the fifth rolls back with nothing written
abbrev three : List Record
three =
    (at 16 0 1 (Update (key 0 0) None (one 0x11)))
    ∷ (at 52 0 2 (Update (key 0 1) None (one 0x22)))
    ∷ (at 88 0 3 (Update (key 0 2) None (one 0x33)))
    ∷ (at 124 0 4 (Update (key 1 0) None (one 0x44)))
    ∷ (at 160 124 4 Commit)
    ∷ (at 188 52 2 (Update (key 0 1) (one 0x22) (one 0x55)))
    ∷ (at 225 16 1 (Update (key 0 3) None (one 0x66)))
    ∷ (clr 261 188 2 (key 0 1) (one 0x22) 52)
    ∷ (at 304 88 3 (Update (key 0 4) None (one 0x77)))
    ∷ (at 340 0 5 Rollback)
    ∷ (at 368 261 2 (Update (key 0 5) None (one 0x88)))
    ∷ (at 404 225 1 Rollback)
    ∷ []

three-valid : is_valid three ≡ true
unfolding definitions
three-valid = refl

three-table : table_of three
    ≡ (row 1 RollingBack 404 225 ∷ row 2 Active 368 368 ∷ row 3 Active 304 304 ∷ row 4 Committed 160 124 ∷ row 5 RollingBack 340 0 ∷ [])
unfolding definitions
three-table = refl

-- ended at once: the fourth and the fifth; then undone at 368, 304, 225, 88, 52, 16
three-tail : tail_of three ≡ ((at 432 160 4 End)
    ∷ (at 460 340 5 End)
    ∷ (clr 488 368 2 (key 0 5) None 261)
    ∷ (clr 530 304 3 (key 0 4) None 88)
    ∷ (clr 572 404 1 (key 0 3) None 16)
    ∷ (clr 614 530 3 (key 0 2) None 0)
    ∷ (at 656 614 3 End)
    ∷ (clr 684 488 2 (key 0 1) None 0)
    ∷ (at 726 684 2 End)
    ∷ (clr 754 572 1 (key 0 0) None 0)
    ∷ (at 796 754 1 End)
    ∷ [])
unfolding definitions
three-tail = refl

three-len : end_of three + reserve_of three ≡ 824
unfolding definitions
three-len = refl
