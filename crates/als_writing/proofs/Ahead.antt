-- A transaction on its way: its reserve and what it owes after each front of it.
use Rattle.std.proofs.Common.{◌≡◌, ℕ, zero, suc, ◌+◌, ◌≤◌, Bool, true, false, not, ◌&&◌, ◌||◌, List, [], ◌∷◌, ◌++◌, map, take, reverse, sum_by, refl, sym, ap, ◌∙◌, inl, inr, subst, arith}
use Rattle.std.proofs.lemmas.Bool.{false≢true}
use Rattle.std.proofs.lemmas.List.Sums.{sum_by-cons, sum_by-take-le}
use Rattle.als_record.specs.declared.record.Record.{Record}
use Rattle.als_record.specs.Spelling.{record_len}
use Rattle.als_record.specs.LogText.{end_of}
use Rattle.als_record.specs.Transactions.{is_among, to_undo, has_begun, is_committed, has_rollback, is_unended, is_open, is_in_doubt, unended}
use Rattle.als_record.specs.Validity.{is_valid}
use Rattle.als_record.specs.Commits.{Write}
use Rattle.als_record.specs.Tail.{undo_len, undo_bytes, reserve_of}
use Rattle.als_record.proofs.Numbers.{eqb-refl}
use Rattle.als_record.proofs.Records.{has_begun-own, is_unended-none, is_committed-own, is_in_doubt-committed}
use Rattle.als_record.proofs.Unended.{is_among-unended, unended-more}
use Rattle.als_record.proofs.Places.{end_of-push}
use Rattle.als_writing.specs.Writing.{Writes, Commits, Ends, record_for, moved, updates, transaction, room_for, MayWrite}
use Rattle.als_writing.proofs.Moved.{moved-next, moved-append, moved-none, take-updates}
use Rattle.als_writing.proofs.Updates.{Writing, IsNew-number, Writing-updates}
use Rattle.als_writing.proofs.Committing.{Committed-transaction}
use Rattle.als_writing.proofs.Rolling.{MayWrite-front, undo_updates}
use Rattle.als_writing.proofs.Beside.{Beside, Beside-moved, has_begun-moved}
use Rattle.als_writing.proofs.Fronts.{take-moved, fronts}
use Rattle.als_writing.proofs.Rooms.{share, reserve_of-without, reserve_of-with, end_of-append, sum_by-reverse}

module _ (pages : ℕ) (log : List Record) (t : ℕ) (v : is_valid log ≡ true) where
  -- ---- with updates, at least one

  module _ (w : Write) (rest : List Write) (m : MayWrite pages log t (w ∷ rest)) where
    abbrev us : List Record
    us = updates log t (w ∷ rest)

    abbrev updated : List Record
    updated = log ++ updates log t (w ∷ rest)

    abbrev writing : Writing log t (w ∷ rest) (log ++ updates log t (w ∷ rest)) []
    writing = Writing-updates pages log t (w ∷ rest) v m

    pub out : is_among (unended log) t ≡ false
    out = is_among-unended log t ∙ is_unended-none log t (IsNew-number pages log t (w ∷ rest) v m).begun

    pub beside_updated : Beside t log updated
    unfolding updates
    beside_updated = Beside-moved t (map Writes (w ∷ rest)) log

    pub begun_updated : has_begun updated t ≡ true
    unfolding updates
    begun_updated =
        ap (λ l. has_begun l t) (moved-next log t (Writes w) (map Writes rest))
        ∙ has_begun-moved t t (map Writes rest) (log ++ record_for log t (Writes w) ∷ []) (has_begun-own log (record_for log t (Writes w)) t (eqb-refl t))

    pub unended_updated : unended updated ≡ unended log ++ t ∷ []
    unended_updated = writing.joins.joined begun_updated

    pub unended_one : is_unended updated t ≡ true
    unended_one = elim writing.active.goes_on [
      | inl u ↦ u
      | inr n ↦ absurd (false≢true (sym n.begun ∙ begun_updated))
    ]

    pub undoubted_one : is_in_doubt updated t ≡ false
    unfolding is_in_doubt
    undoubted_one = rw writing.active.prepared (go (is_unended updated t) (not (is_committed updated t)) (not (has_rollback updated t)))
      where
        go : (x y z : Bool) → (x && false && y && z) ≡ false
        go true y z = refl
        go false y z = refl

    pub open_one : is_open updated t ≡ true
    unfolding is_open
    open_one = rw (unended_one, writing.active.committed) refl

    pub undo_one : to_undo updated t ≡ reverse us
    undo_one = undo_updates pages log t (w ∷ rest) v m

    pub bytes_one : undo_bytes updated t ≡ sum_by undo_len us
    unfolding undo_bytes
    bytes_one = ap (sum_by undo_len) undo_one ∙ sum_by-reverse undo_len us

    pub reserve_updated : reserve_of updated ≡ reserve_of log + 28 + sum_by undo_len us
    reserve_updated =
        let a : reserve_of updated ≡ reserve_of log + share updated t = reserve_of-with t log updated beside_updated out unended_updated in
        let b : share updated t ≡ 28 + 0 + undo_bytes updated t = rw (undoubted_one, open_one) refl in
        let c : undo_bytes updated t ≡ sum_by undo_len us = bytes_one in
        omega arith

    -- ---- with the commit

    abbrev commit : Record
    commit = record_for (log ++ updates log t (w ∷ rest)) t Commits

    abbrev committed : List Record
    committed = (log ++ updates log t (w ∷ rest)) ++ record_for (log ++ updates log t (w ∷ rest)) t Commits ∷ []

    or-true : (b : Bool) → (b || true) ≡ true
    or-true true = refl
    or-true false = refl

    pub committed_one : is_committed committed t ≡ true
    committed_one = is_committed-own updated commit t (eqb-refl t) ∙ or-true (is_committed updated t)

    pub unended_committed : unended committed ≡ unended log ++ t ∷ []
    unended_committed = unended-more updated commit refl refl unended_one ∙ unended_updated

    pub committed-is : committed ≡ log ++ moved log t (map Writes (w ∷ rest) ++ Commits ∷ [])
    unfolding updates
    committed-is = sym (moved-append t (map Writes (w ∷ rest)) (Commits ∷ []) log ∙ moved-next updated t Commits [] ∙ moved-none committed t)

    pub beside_committed : Beside t log committed
    beside_committed = subst (Beside t log) (sym committed-is) (Beside-moved t (map Writes (w ∷ rest) ++ Commits ∷ []) log)

    closed_one : is_open committed t ≡ false
    unfolding is_open
    closed_one = rw committed_one (go (is_unended committed t))
      where
        go : (x : Bool) → (x && not true) ≡ false
        go true = refl
        go false = refl

    pub reserve_committed : reserve_of committed ≡ reserve_of log + 28
    reserve_committed =
        let a : reserve_of committed ≡ reserve_of log + share committed t = reserve_of-with t log committed beside_committed out unended_committed in
        let d : is_in_doubt committed t ≡ false = is_in_doubt-committed committed t committed_one in
        let b : share committed t ≡ 28 + 0 + 0 = rw (d, closed_one) refl in
        omega arith

    -- ---- with the end

    pub reserve_whole : reserve_of (log ++ transaction log t (w ∷ rest)) ≡ reserve_of log
    unfolding transaction
    reserve_whole = reserve_of-without t log (log ++ transaction log t (w ∷ rest)) (Beside-moved t (map Writes (w ∷ rest) ++ Commits ∷ Ends ∷ []) log) out (Committed-transaction pages log t (w ∷ rest) v m).unended

    -- ---- the room that each front takes

    -- what the updates and the reserve for them take, a compensation of 42 bytes at least among it
    one_undone : 42 ≤ sum_by undo_len us
    unfolding updates moved
    one_undone =
        let r : Record = record_for log t (Writes w) in
        let more : List Record = moved (log ++ r ∷ []) t (map Writes rest) in
        let a : sum_by undo_len (r ∷ more) ≡ undo_len r + sum_by undo_len more = sum_by-cons undo_len r more in
        omega arith

    commit_len : record_len commit ≡ 28
    unfolding record_len
    commit_len = refl

    pub room_updated : end_of updated + reserve_of updated ≡ end_of log + reserve_of log + room_for log t (w ∷ rest)
    unfolding room_for
    room_updated =
        let a : end_of updated ≡ end_of log + sum_by record_len us = end_of-append log us in
        let b : reserve_of updated ≡ reserve_of log + 28 + sum_by undo_len us = reserve_updated in
        omega arith

    room_committed : end_of committed + reserve_of committed ≤ end_of log + reserve_of log + room_for log t (w ∷ rest)
    unfolding room_for
    room_committed =
        let a : end_of updated ≡ end_of log + sum_by record_len us = end_of-append log us in
        let b : end_of committed ≡ end_of updated + record_len commit = end_of-push updated commit in
        let c : record_len commit ≡ 28 = commit_len in
        let d : reserve_of committed ≡ reserve_of log + 28 = reserve_committed in
        let e : 42 ≤ sum_by undo_len us = one_undone in
        omega arith

    abbrev the_end : Record
    the_end = record_for ((log ++ updates log t (w ∷ rest)) ++ record_for (log ++ updates log t (w ∷ rest)) t Commits ∷ []) t Ends

    end_len : record_len the_end ≡ 28
    unfolding record_len
    end_len = refl

    whole-is : log ++ transaction log t (w ∷ rest) ≡ committed ++ the_end ∷ []
    unfolding transaction updates
    whole-is =
        moved-append t (map Writes (w ∷ rest)) (Commits ∷ Ends ∷ []) log
        ∙ moved-next updated t Commits (Ends ∷ [])
        ∙ moved-next committed t Ends []
        ∙ moved-none (committed ++ the_end ∷ []) t

    pub end_of-whole : end_of (log ++ transaction log t (w ∷ rest)) ≡ end_of log + sum_by record_len us + 56
    end_of-whole =
        let a : end_of updated ≡ end_of log + sum_by record_len us = end_of-append log us in
        let b : end_of committed ≡ end_of updated + record_len commit = end_of-push updated commit in
        let c : record_len commit ≡ 28 = commit_len in
        let d : end_of (committed ++ the_end ∷ []) ≡ end_of committed + record_len the_end = end_of-push committed the_end in
        let e : record_len the_end ≡ 28 = end_len in
        let f : end_of (log ++ transaction log t (w ∷ rest)) ≡ end_of (committed ++ the_end ∷ []) = ap end_of whole-is in
        omega arith

    room_whole : end_of (log ++ transaction log t (w ∷ rest)) + reserve_of (log ++ transaction log t (w ∷ rest)) ≤ end_of log + reserve_of log + room_for log t (w ∷ rest)
    unfolding room_for
    room_whole =
        let a : end_of (log ++ transaction log t (w ∷ rest)) ≡ end_of log + sum_by record_len us + 56 = end_of-whole in
        let b : reserve_of (log ++ transaction log t (w ∷ rest)) ≡ reserve_of log = reserve_whole in
        let e : 42 ≤ sum_by undo_len us = one_undone in
        omega arith

  -- ---- all fronts

  module _ (w : Write) (rest : List Write) (m : MayWrite pages log t (w ∷ rest)) where
    -- a front of the writes wants no more
    room-some : (j : ℕ) → room_for log t (take j (w ∷ rest)) ≤ room_for log t (w ∷ rest)
    unfolding room_for
    room-some j =
        let us : List Record = updates log t (w ∷ rest) in
        let e : take j us ≡ updates log t (take j (w ∷ rest)) = take-updates j log t (w ∷ rest) in
        let a : sum_by record_len (take j us) ≤ sum_by record_len us = sum_by-take-le record_len us j in
        let b : sum_by undo_len (take j us) ≤ sum_by undo_len us = sum_by-take-le undo_len us j in
        let c : sum_by record_len (take j us) ≡ sum_by record_len (updates log t (take j (w ∷ rest))) = ap (sum_by record_len) e in
        let d : sum_by undo_len (take j us) ≡ sum_by undo_len (updates log t (take j (w ∷ rest))) = ap (sum_by undo_len) e in
        omega arith

    none : log ++ updates log t [] ≡ log
    unfolding updates
    none = moved-none log t

    abbrev Fits : List Record → Type 0
    Fits more = end_of (log ++ more) + reserve_of (log ++ more) ≤ end_of log + reserve_of log + room_for log t (w ∷ rest)

    pub some : (j : ℕ) → Fits (updates log t (take j (w ∷ rest)))
    some zero =
        let e : log ++ updates log t [] ≡ log = none in
        let a : end_of (log ++ updates log t []) ≡ end_of log = ap end_of e in
        let b : reserve_of (log ++ updates log t []) ≡ reserve_of log = ap reserve_of e in
        omega arith
    some (suc i) =
        let a : end_of (log ++ updates log t (w ∷ take i rest)) + reserve_of (log ++ updates log t (w ∷ take i rest)) ≡ end_of log + reserve_of log + room_for log t (w ∷ take i rest) = room_updated w (take i rest) (MayWrite-front pages log t (w ∷ rest) (suc i) m) in
        let b : room_for log t (w ∷ take i rest) ≤ room_for log t (w ∷ rest) = room-some (suc i) in
        omega arith

    pub room-front : (n : ℕ) → Fits (take n (transaction log t (w ∷ rest)))
    unfolding transaction updates
    room-front n = subst Fits (sym (take-moved n log t (map Writes (w ∷ rest) ++ Commits ∷ Ends ∷ [])))
        (fronts (λ moves. Fits (moved log t moves)) n (w ∷ rest) some
        (subst (λ l. end_of l + reserve_of l ≤ end_of log + reserve_of log + room_for log t (w ∷ rest)) (committed-is w rest m) (room_committed w rest m))
        (room_whole w rest m))
