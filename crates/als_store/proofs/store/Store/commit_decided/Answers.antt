use Rattle.std.proofs.Common.{◌≡◌, true, sym, subst, ◌∙◌}
use Rattle.als_record.specs.Transactions.{is_in_doubt}
use Rattle.als_store.specs.Spare.{Holding}
use Rattle.als_store.proofs.StoredParts.{stored-unread}
use Rattle.als_store.proofs.DecisionLaws.{log_read, store_read}
use Rattle.als_store.proofs.store.Store.commit_decided.Goals.{in-Ok, in-Err}
use Rattle.als_store.proofs.store.Store.commit_decided.Given.{Over}
use Rattle.als_store.proofs.store.Store.commit_decided.Goals as goal

pub invariant_of-self : goal.invariant_of-self
invariant_of-self g c =
    let s = c.self.inside in
    stored-unread s.pages s.count s.log s.control s.pool.pool s.validator s.broken s.origin s.recovering c.self.invariant c.commit_at.new.log
    (log_read c.commit_at.result s.log c.commit_at.new.log c.commit_at.ensures.same (c.commit_at.ensures.err s.pages c.self.invariant.is_log.valid c.self.invariant.judged))

-- what is answered is what the commit came to
answered : (g : Over) (c : goal.Joined-commit_at g) → c.match-commit_at.result ≡ c.commit_at.result
answered g c = elim c.match-commit_at.branch [ in-Ok w ↦ w.result-is ∙ sym w.in-Ok.is | in-Err w ↦ w.result-is ∙ sym w.in-Err.is ]

pub returns-clause-ok : goal.returns-clause-ok
returns-clause-ok g c =
    let s = c.self.inside in
    let doubt = subst (λ (h : Holding). is_in_doubt h.stored.log c.args.trans.0 ≡ true) (sym c.self.view_is) c.requires in
    rw (answered g c, ← c.self.view_is) (c.commit_at.ensures.ok s.pages c.self.invariant.is_log.valid c.self.invariant.judged doubt)

pub returns-clause-err : goal.returns-clause-err
returns-clause-err g c =
    let s = c.self.inside in
    rw (answered g c, ← c.self.view_is)
    (store_read s.pages s.log c.commit_at.new.log s.control s.pool.pool s.broken s.origin s.recovering c.commit_at.result (c.commit_at.ensures.err s.pages c.self.invariant.is_log.valid c.self.invariant.judged))
