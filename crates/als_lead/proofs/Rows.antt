-- A log in which a transaction is prepared before the first commit: an end that lies below the commit is none of its answer.
use Rattle.std.proofs.Common.{◌≡◌, ◌≤◌, ℕ, List, [], ◌∷◌, ◌++◌, Some, None, refl, arith}
use Rattle.als_record.specs.declared.key.Key.{Key}
use Rattle.als_record.specs.declared.record.Body.{Body}
use Rattle.als_record.specs.declared.record.Body.TheVariants.{Update, Commit, End, Prepare}
use Rattle.als_record.specs.declared.record.Record.{Record}
use Rattle.als_record.specs.Spelling.{Image, record_len}
use Rattle.als_record.specs.LogText.{end_of}
use Rattle.als_record.specs.Transactions.{records_of, has_begun, has_ended, is_committed, has_rollback, has_prepare, is_unended, is_open, last_lsn, transactions, unended, all_surviving, to_undo, surviving}
use Rattle.als_record.specs.Images.{image_now}
use Rattle.als_record.specs.Validity.{prev_of}
use Rattle.als_record.specs.Commits.{Commit as AnyCommit, Write, writes_of, commits_of}
use Rattle.als_engine.specs.Machine.{Machine}
use Rattle.als_writing.specs.Writing.{moved, updates, transaction}
use Rattle.als_writer.specs.declared.transaction.Transaction.{Transaction}
use Rattle.als_writer.specs.declared.written.Written.{Written}
use Rattle.als_lead.specs.Answers.{IsIn}
use Rattle.als_lead.proofs.Placing.{answered-end}

-- opens all definitions
unfoldable definitions : Unit {0}
unfolding to_undo surviving writes_of commits_of record_len end_of records_of has_begun has_ended is_committed has_rollback has_prepare is_unended is_open last_lsn transactions unended all_surviving image_now prev_of moved updates transaction
definitions = tt

abbrev at : ℕ → ℕ → ℕ → Body → Record
at lsn prev trans body = record { lsn = record { 0 = lsn }; prev = record { 0 = prev }; trans = record { 0 = trans }; body = body }

abbrev key : ℕ → Key
key slot = record { page = 0; slot = slot }

abbrev one : ℕ → Image
one byte = Some (record { items = byte ∷ [] })

-- the first transaction writes three keys and is prepared; the second writes another one and commits
abbrev held : List Record
held =
    at 16 0 1 (Update (key 0) None (one 0xaa)) ∷ at 52 16 1 (Update (key 1) None (one 0xaa)) ∷ at 88 52 1 (Update (key 2) None (one 0xaa)) ∷ at 124 88 1 Prepare
    ∷ at 152 0 2 (Update (key 3) None (one 0xab)) ∷ at 188 152 2 Commit ∷ at 216 188 2 End ∷ []

abbrev writes : List Write
writes = record { key = key 3; after = one 0xab } ∷ []

abbrev commit : AnyCommit
commit = record { trans = record { 0 = 2 }; lsn = record { 0 = 188 }; writes = writes }

-- A reading that does not say where the commit is: behind some front of the log, whose commits are those in front of it.
record IsSomewhere (records : List Record) (told : ℕ) : Type 0 where
  past : List Record
  rest : List Record
  later : List AnyCommit
  parts : records ≡ past ++ rest
  begins : end_of past ≤ 188
  ends : told ≡ end_of (past ++ transaction past 2 writes)
  commits : commits_of records ≡ commits_of past ++ commit ∷ later

-- by it the answer could end at 108, which is below its commit
somewhere : IsSomewhere held 108
unfolding definitions
somewhere = record { past = []; rest = held; later = []; parts = refl; begins = omega arith; ends = refl; commits = refl }

-- it can't
behind : (m : Machine) (t : Transaction) (w : Written) → w.lsn.0 ≡ 188 → w.end.0 ≡ 108 → IsIn m t w → ⊥
behind m t w lsn end i = omega (arith, lsn, end, answered-end m t w i)
