-- Where a commit of the log is, and where its transaction ends.
use Rattle.std.proofs.Common.{◌≡◌, ◌+◌, ℕ, List, [], ◌∷◌, ◌++◌, map, sym, ap, ◌∙◌, append_assoc, arith}
use Rattle.als_record.specs.declared.record.Record.{Record}
use Rattle.als_record.specs.LogText.{end_of}
use Rattle.als_record.specs.Spelling.{record_len}
use Rattle.als_record.specs.Commits.{Write}
use Rattle.als_record.proofs.Places.{end_of-push}
use Rattle.als_engine.specs.Machine.{Machine}
use Rattle.als_writing.specs.Writing.{Writes, Commits, Ends, record_for, moved, updates, transaction}
use Rattle.als_writing.proofs.Moved.{moved-split}
use Rattle.als_writer.specs.declared.transaction.Transaction.{Transaction}
use Rattle.als_writer.specs.declared.written.Written.{Written}
use Rattle.als_writer.specs.Committing.{committed}
use Rattle.als_lead.specs.Answers.{IsIn}

-- a transaction is its updates and its commit, and then its end
pub transaction-parts : (log : List Record) (t : ℕ) (writes : List Write) → transaction log t writes ≡ committed log t writes ++ record_for (log ++ committed log t writes) t Ends ∷ []
unfolding moved updates transaction
transaction-parts log t writes =
    let us : List Record = updates log t writes in
    let commit : Record = record_for (log ++ us) t Commits in
    moved-split t (map Writes writes) (Commits ∷ Ends ∷ []) log
    ∙ ap (λ (l : List Record). us ++ commit ∷ record_for l t Ends ∷ []) (append_assoc log us (commit ∷ []))
    ∙ sym (append_assoc us (commit ∷ []) (record_for (log ++ (us ++ commit ∷ [])) t Ends ∷ []))

-- its commit record ends 28 bytes behind its updates, and its end 28 bytes behind that
pub committed-end : (log : List Record) (t : ℕ) (writes : List Write) → end_of (log ++ committed log t writes) ≡ end_of (log ++ updates log t writes) + 28
unfolding record_len
committed-end log t writes =
    let us : List Record = updates log t writes in
    let commit : Record = record_for (log ++ us) t Commits in
    ap end_of (sym (append_assoc log us (commit ∷ []))) ∙ end_of-push (log ++ us) commit

pub transaction-end : (log : List Record) (t : ℕ) (writes : List Write) → end_of (log ++ transaction log t writes) ≡ end_of (log ++ committed log t writes) + 28
unfolding record_len
transaction-end log t writes =
    let last : Record = record_for (log ++ committed log t writes) t Ends in
    ap (λ (l : List Record). end_of (log ++ l)) (transaction-parts log t writes) ∙ ap end_of (sym (append_assoc log (committed log t writes) (last ∷ []))) ∙ end_of-push (log ++ committed log t writes) last

-- so the end that is answered is behind the commit record at the LSN that is answered
pub answered-end : (m : Machine) (t : Transaction) (w : Written) → IsIn m t w → w.end.0 ≡ w.lsn.0 + 56
answered-end m t w i =
    let first : end_of (i.past ++ committed i.past w.trans.0 t.sets.items) ≡ end_of (i.past ++ updates i.past w.trans.0 t.sets.items) + 28 = committed-end i.past w.trans.0 t.sets.items in
    let then : end_of (i.past ++ transaction i.past w.trans.0 t.sets.items) ≡ end_of (i.past ++ committed i.past w.trans.0 t.sets.items) + 28 = transaction-end i.past w.trans.0 t.sets.items in
    omega (arith, i.lsn, i.end, first, then)
