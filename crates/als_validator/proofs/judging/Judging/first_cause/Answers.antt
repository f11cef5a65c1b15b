use Rattle.std.proofs.Common.{◌≡◌, true, false, List, length, Option, Some, None, refl, sym, ap, ◌∙◌, subst}
use Rattle.std.proofs.lemmas.List.{length-map}
use Rattle.als_record.specs.Shown.{shown}
use Rattle.als_record.specs.declared.trans_id.TransId.{TransId}
use Rattle.als_record.specs.declared.transaction_row.TransactionRow.{TransactionRow}
use Rattle.als_record.specs.Transactions.{unended}
use Rattle.als_record.specs.Table.{table_of}
use Rattle.als_record.specs.Validity.{bad_prev, old_transaction, wrong_state, wrong_undo_next, wrong_compensation, held_by, before_image, too_many, bad_checkpoint, first_bad}
use Rattle.als_analysis.specs.declared.open_row.OpenRow.{OpenRow}
use Rattle.als_analysis.specs.Open.{rows_of}
use Rattle.als_analysis.proofs.LogSteps.{length-table_of}
use Rattle.als_validator.specs.Keys.{AreKeysOf}
use Rattle.als_validator.specs.Seen.{IsPastOf, AreCommitted}
use Rattle.als_validator.proofs.judging.Judging.first_cause.Goals as goal

none_of : (o : Option TransId) → ((by : TransId) → o ≡ Some by → ⊥) → o ≡ None
none_of None n = refl
none_of (Some by) n = absurd (n by refl)

pub returns-then-is_bad_prev : goal.returns-then-is_bad_prev
unfolding first_bad
returns-then-is_bad_prev c pages log v table greatest begun valid fits =
    let r = shown c.args.logged.now in
    let past : IsPastOf c.past_of-past.result log r.trans.0 = c.past_of-past.ensures log table v.survivors in
    let prev : bad_prev log r ≡ true = sym (c.is_bad_prev.ensures log past) ∙ c.if-is_bad_prev.true in
    rw prev refl

pub returns-then-is_old : goal.returns-then-is_old
unfolding first_bad
returns-then-is_old c pages log v table greatest begun valid fits =
    let r = shown c.args.logged.now in
    let past : IsPastOf c.past_of-past.result log r.trans.0 = c.past_of-past.ensures log table v.survivors in
    let prev : bad_prev log r ≡ false = sym (c.is_bad_prev.ensures log past) ∙ c.if-is_bad_prev.false in
    let old : old_transaction log r ≡ true = sym (c.is_old.ensures log past greatest) ∙ c.if-is_old.true in
    rw (prev, old) refl

pub returns-then-is_wrong_state : goal.returns-then-is_wrong_state
unfolding first_bad
returns-then-is_wrong_state c pages log v table greatest begun valid fits =
    let r = shown c.args.logged.now in
    let past : IsPastOf c.past_of-past.result log r.trans.0 = c.past_of-past.ensures log table v.survivors in
    let prev : bad_prev log r ≡ false = sym (c.is_bad_prev.ensures log past) ∙ c.if-is_bad_prev.false in
    let old : old_transaction log r ≡ false = sym (c.is_old.ensures log past greatest) ∙ c.if-is_old.false in
    let state : wrong_state log r ≡ true = sym (c.is_wrong_state.ensures log past (subst (λ ids. AreCommitted ids log) (sym c.as_slice.ensures.value) v.committed) old) ∙ c.if-is_wrong_state.true in
    rw (prev, old, state) refl

pub returns-then-is_wrong_undo_next : goal.returns-then-is_wrong_undo_next
unfolding first_bad
returns-then-is_wrong_undo_next c pages log v table greatest begun valid fits =
    let r = shown c.args.logged.now in
    let past : IsPastOf c.past_of-past.result log r.trans.0 = c.past_of-past.ensures log table v.survivors in
    let prev : bad_prev log r ≡ false = sym (c.is_bad_prev.ensures log past) ∙ c.if-is_bad_prev.false in
    let old : old_transaction log r ≡ false = sym (c.is_old.ensures log past greatest) ∙ c.if-is_old.false in
    let state : wrong_state log r ≡ false = sym (c.is_wrong_state.ensures log past (subst (λ ids. AreCommitted ids log) (sym c.as_slice.ensures.value) v.committed) old) ∙ c.if-is_wrong_state.false in
    let next : wrong_undo_next log r ≡ true = sym (c.is_wrong_undo_next.ensures log past old) ∙ c.if-is_wrong_undo_next.true in
    rw (prev, old, state, next) refl

pub returns-then-is_wrong_compensation : goal.returns-then-is_wrong_compensation
unfolding first_bad
returns-then-is_wrong_compensation c pages log v table greatest begun valid fits =
    let r = shown c.args.logged.now in
    let past : IsPastOf c.past_of-past.result log r.trans.0 = c.past_of-past.ensures log table v.survivors in
    let prev : bad_prev log r ≡ false = sym (c.is_bad_prev.ensures log past) ∙ c.if-is_bad_prev.false in
    let old : old_transaction log r ≡ false = sym (c.is_old.ensures log past greatest) ∙ c.if-is_old.false in
    let state : wrong_state log r ≡ false = sym (c.is_wrong_state.ensures log past (subst (λ ids. AreCommitted ids log) (sym c.as_slice.ensures.value) v.committed) old) ∙ c.if-is_wrong_state.false in
    let next : wrong_undo_next log r ≡ false = sym (c.is_wrong_undo_next.ensures log past old) ∙ c.if-is_wrong_undo_next.false in
    let clr : wrong_compensation log r ≡ true = sym (c.is_wrong_compensation.ensures log past old) ∙ c.if-is_wrong_compensation.true in
    rw (prev, old, state, next, clr) refl

pub returns-in-Some : goal.returns-in-Some
unfolding first_bad
returns-in-Some c pages log v table greatest begun valid fits =
    let r = shown c.args.logged.now in
    let past : IsPastOf c.past_of-past.result log r.trans.0 = c.past_of-past.ensures log table v.survivors in
    let prev : bad_prev log r ≡ false = sym (c.is_bad_prev.ensures log past) ∙ c.if-is_bad_prev.false in
    let old : old_transaction log r ≡ false = sym (c.is_old.ensures log past greatest) ∙ c.if-is_old.false in
    let state : wrong_state log r ≡ false = sym (c.is_wrong_state.ensures log past (subst (λ ids. AreCommitted ids log) (sym c.as_slice.ensures.value) v.committed) old) ∙ c.if-is_wrong_state.false in
    let next : wrong_undo_next log r ≡ false = sym (c.is_wrong_undo_next.ensures log past old) ∙ c.if-is_wrong_undo_next.false in
    let clr : wrong_compensation log r ≡ false = sym (c.is_wrong_compensation.ensures log past old) ∙ c.if-is_wrong_compensation.false in
    let held : held_by log r ≡ Some c.in-Some.by = sym (c.holder_of.ensures pages log (subst (λ ks. AreKeysOf ks pages log) (sym c.as_slice-2.ensures.value) v.keys) table valid.valid fits) ∙ c.in-Some.is in
    rw (prev, old, state, next, clr, held) refl

pub returns-then-is_stale : goal.returns-then-is_stale
unfolding first_bad
returns-then-is_stale c pages log v table greatest begun valid fits =
    let r = shown c.args.logged.now in
    let past : IsPastOf c.past_of-past.result log r.trans.0 = c.past_of-past.ensures log table v.survivors in
    let prev : bad_prev log r ≡ false = sym (c.is_bad_prev.ensures log past) ∙ c.if-is_bad_prev.false in
    let old : old_transaction log r ≡ false = sym (c.is_old.ensures log past greatest) ∙ c.if-is_old.false in
    let state : wrong_state log r ≡ false = sym (c.is_wrong_state.ensures log past (subst (λ ids. AreCommitted ids log) (sym c.as_slice.ensures.value) v.committed) old) ∙ c.if-is_wrong_state.false in
    let next : wrong_undo_next log r ≡ false = sym (c.is_wrong_undo_next.ensures log past old) ∙ c.if-is_wrong_undo_next.false in
    let clr : wrong_compensation log r ≡ false = sym (c.is_wrong_compensation.ensures log past old) ∙ c.if-is_wrong_compensation.false in
    let held : held_by log r ≡ None = sym (c.holder_of.ensures pages log (subst (λ ks. AreKeysOf ks pages log) (sym c.as_slice-2.ensures.value) v.keys) table valid.valid fits) ∙ none_of c.holder_of.result c.in_default.not-Some in
    let image : before_image log r ≡ true = sym (c.is_stale.ensures pages log (subst (λ ks. AreKeysOf ks pages log) (sym c.as_slice-3.ensures.value) v.keys) fits) ∙ c.if-is_stale.true in
    rw (prev, old, state, next, clr, held, image) refl

pub returns-then-is_one_too_many : goal.returns-then-is_one_too_many
unfolding first_bad
returns-then-is_one_too_many c pages log v table greatest begun valid fits =
    let r = shown c.args.logged.now in
    let past : IsPastOf c.past_of-past.result log r.trans.0 = c.past_of-past.ensures log table v.survivors in
    let prev : bad_prev log r ≡ false = sym (c.is_bad_prev.ensures log past) ∙ c.if-is_bad_prev.false in
    let old : old_transaction log r ≡ false = sym (c.is_old.ensures log past greatest) ∙ c.if-is_old.false in
    let state : wrong_state log r ≡ false = sym (c.is_wrong_state.ensures log past (subst (λ ids. AreCommitted ids log) (sym c.as_slice.ensures.value) v.committed) old) ∙ c.if-is_wrong_state.false in
    let next : wrong_undo_next log r ≡ false = sym (c.is_wrong_undo_next.ensures log past old) ∙ c.if-is_wrong_undo_next.false in
    let clr : wrong_compensation log r ≡ false = sym (c.is_wrong_compensation.ensures log past old) ∙ c.if-is_wrong_compensation.false in
    let held : held_by log r ≡ None = sym (c.holder_of.ensures pages log (subst (λ ks. AreKeysOf ks pages log) (sym c.as_slice-2.ensures.value) v.keys) table valid.valid fits) ∙ none_of c.holder_of.result c.in_default.not-Some in
    let image : before_image log r ≡ false = sym (c.is_stale.ensures pages log (subst (λ ks. AreKeysOf ks pages log) (sym c.as_slice-3.ensures.value) v.keys) fits) ∙ c.if-is_stale.false in
    let rows : length (rows_of c.rows.result.now) ≡ length (table_of log) = ap (λ (rs : List TransactionRow). length rs) (c.rows.ensures.table log table) in
    let all : length (rows_of c.rows.result.now) ≡ length c.rows.result.now = length-map c.rows.result.now (λ (o : OpenRow). o.row) in
    let count : length c.rows.result.now ≡ length (unended log) = sym all ∙ rows ∙ length-table_of log in
    let many : too_many log r ≡ true = sym (c.is_one_too_many.ensures log past count valid.valid old) ∙ c.if-is_one_too_many.true in
    rw (prev, old, state, next, clr, held, image, many) refl

pub returns-then-is_bad_checkpoint : goal.returns-then-is_bad_checkpoint
unfolding first_bad
returns-then-is_bad_checkpoint c pages log v table greatest begun valid fits =
    let r = shown c.args.logged.now in
    let past : IsPastOf c.past_of-past.result log r.trans.0 = c.past_of-past.ensures log table v.survivors in
    let prev : bad_prev log r ≡ false = sym (c.is_bad_prev.ensures log past) ∙ c.if-is_bad_prev.false in
    let old : old_transaction log r ≡ false = sym (c.is_old.ensures log past greatest) ∙ c.if-is_old.false in
    let state : wrong_state log r ≡ false = sym (c.is_wrong_state.ensures log past (subst (λ ids. AreCommitted ids log) (sym c.as_slice.ensures.value) v.committed) old) ∙ c.if-is_wrong_state.false in
    let next : wrong_undo_next log r ≡ false = sym (c.is_wrong_undo_next.ensures log past old) ∙ c.if-is_wrong_undo_next.false in
    let clr : wrong_compensation log r ≡ false = sym (c.is_wrong_compensation.ensures log past old) ∙ c.if-is_wrong_compensation.false in
    let held : held_by log r ≡ None = sym (c.holder_of.ensures pages log (subst (λ ks. AreKeysOf ks pages log) (sym c.as_slice-2.ensures.value) v.keys) table valid.valid fits) ∙ none_of c.holder_of.result c.in_default.not-Some in
    let image : before_image log r ≡ false = sym (c.is_stale.ensures pages log (subst (λ ks. AreKeysOf ks pages log) (sym c.as_slice-3.ensures.value) v.keys) fits) ∙ c.if-is_stale.false in
    let rows : length (rows_of c.rows.result.now) ≡ length (table_of log) = ap (λ (rs : List TransactionRow). length rs) (c.rows.ensures.table log table) in
    let all : length (rows_of c.rows.result.now) ≡ length c.rows.result.now = length-map c.rows.result.now (λ (o : OpenRow). o.row) in
    let count : length c.rows.result.now ≡ length (unended log) = sym all ∙ rows ∙ length-table_of log in
    let many : too_many log r ≡ false = sym (c.is_one_too_many.ensures log past count valid.valid old) ∙ c.if-is_one_too_many.false in
    let checkpoint : bad_checkpoint log r ≡ true = sym (c.is_bad_checkpoint.ensures log begun) ∙ c.if-is_bad_checkpoint.true in
    rw (prev, old, state, next, clr, held, image, many, checkpoint) refl

pub returns : goal.returns
unfolding first_bad
returns c pages log v table greatest begun valid fits =
    let r = shown c.args.logged.now in
    let past : IsPastOf c.past_of-past.result log r.trans.0 = c.past_of-past.ensures log table v.survivors in
    let prev : bad_prev log r ≡ false = sym (c.is_bad_prev.ensures log past) ∙ c.if-is_bad_prev.false in
    let old : old_transaction log r ≡ false = sym (c.is_old.ensures log past greatest) ∙ c.if-is_old.false in
    let state : wrong_state log r ≡ false = sym (c.is_wrong_state.ensures log past (subst (λ ids. AreCommitted ids log) (sym c.as_slice.ensures.value) v.committed) old) ∙ c.if-is_wrong_state.false in
    let next : wrong_undo_next log r ≡ false = sym (c.is_wrong_undo_next.ensures log past old) ∙ c.if-is_wrong_undo_next.false in
    let clr : wrong_compensation log r ≡ false = sym (c.is_wrong_compensation.ensures log past old) ∙ c.if-is_wrong_compensation.false in
    let held : held_by log r ≡ None = sym (c.holder_of.ensures pages log (subst (λ ks. AreKeysOf ks pages log) (sym c.as_slice-2.ensures.value) v.keys) table valid.valid fits) ∙ none_of c.holder_of.result c.in_default.not-Some in
    let image : before_image log r ≡ false = sym (c.is_stale.ensures pages log (subst (λ ks. AreKeysOf ks pages log) (sym c.as_slice-3.ensures.value) v.keys) fits) ∙ c.if-is_stale.false in
    let rows : length (rows_of c.rows.result.now) ≡ length (table_of log) = ap (λ (rs : List TransactionRow). length rs) (c.rows.ensures.table log table) in
    let all : length (rows_of c.rows.result.now) ≡ length c.rows.result.now = length-map c.rows.result.now (λ (o : OpenRow). o.row) in
    let count : length c.rows.result.now ≡ length (unended log) = sym all ∙ rows ∙ length-table_of log in
    let many : too_many log r ≡ false = sym (c.is_one_too_many.ensures log past count valid.valid old) ∙ c.if-is_one_too_many.false in
    let checkpoint : bad_checkpoint log r ≡ false = sym (c.is_bad_checkpoint.ensures log begun) ∙ c.if-is_bad_checkpoint.false in
    rw (prev, old, state, next, clr, held, image, many, checkpoint) refl
