-- What a read of the log gives at a place of an undo chain.
use Rattle.std.proofs.Common.{◌≡◌, ℕ, true, Option, Some, None, ap, ◌∙◌, subst}
use Rattle.std.specs.Prelude.{IsSomeAnd, is_some}
use Rattle.std.proofs.lemmas.Bool.{false≢true, and_parts}
use Rattle.als_record.specs.declared.record.Body.{Body}
use Rattle.als_record.specs.declared.record.Body.TheVariants.{Update, Compensation, Commit, Rollback, End, BeginCheckpoint, EndCheckpoint, Prepare}
use Rattle.als_record.specs.declared.record.Record.{Record}
use Rattle.als_record.specs.Reading.{HasRows}
use Rattle.als_record.specs.Transactions.{is_transactional}
use Rattle.als_record.proofs.ChainReads.{ChainStep}
use Rattle.als_log.specs.declared.fault.Fault.{Fault}
use Rattle.als_log.specs.declared.fault.Fault.TheVariants.{NothingToDo, LogFull, Device, Memory}
use Rattle.als_log.specs.Local.{Local}
use Rattle.als_log.specs.Outcomes.{RefusesLook}
use Rattle.als_log.specs.Reading.{record_at, HasRecord}
use Rattle.als_takeover.specs.Next.{CannotRead}

no_rows : (b : Body) → is_transactional b ≡ true → HasRows b → ⊥
no_rows (Update key before after) e h = h
no_rows (Compensation undo_next key after) e h = h
no_rows Commit e h = h
no_rows Rollback e h = h
no_rows End e h = h
no_rows BeginCheckpoint e h = h
no_rows (EndCheckpoint transactions pages) e h = false≢true e
no_rows Prepare e h = h

module _ (old : Local) (t n : ℕ) (r : Record) (s : ChainStep old.log t n r) where
  -- a record stands there
  pub has-step : HasRecord old.log n
  has-step = ap (λ (o : Option Record). is_some o) s.found

  -- only the device can be in the way
  pub reads-only : (new : Local) (e : Fault) → RefusesLook n e old new → CannotRead e old new
  reads-only new Device h = h
  reads-only new Memory h = absurd (no_rows r.body (and_parts (is_transactional r.body) _ s.own).0 (subst (λ (o : Option Record). IsSomeAnd o (λ r. HasRows r.body)) s.found (h.0 has-step)))
  reads-only new NothingToDo h = absurd h
  reads-only new LogFull h = absurd h

  -- what is found there is it
  pub is-step : (found : Record) → Some found ≡ record_at old.log n → found ≡ r
  is-step found e = let both : ◌≡◌ {A = Option Record} (Some found) (Some r) = e ∙ s.found in cc both

  -- and something is found
  pub not-none : None ≡ record_at old.log n → ⊥
  not-none e = let both : ◌≡◌ {A = Option Record} None (Some r) = e ∙ s.found in cc both
