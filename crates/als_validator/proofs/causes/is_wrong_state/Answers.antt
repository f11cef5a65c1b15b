use Rattle.std.proofs.Common.{◌≡◌, true, false, ◌||◌, sym, ap, ◌∙◌}
use Rattle.std.specs.Prelude.{is_some, option_copied}
use Rattle.als_record.specs.Shown.{shown}
use Rattle.als_record.specs.Transactions.{is_transactional, to_undo, is_some_left, is_committed, is_in_doubt}
use Rattle.als_record.specs.Table.{is_prepared, state_of}
use Rattle.als_validator.specs.Tests.{barred}
use Rattle.als_validator.proofs.StateSteps.{known_of, in_doubt-row, newest-known, state_in-known, is_some-first, is_some-copied, wrong_state-barred, wrong_state-checkpoint}
use Rattle.als_validator.proofs.causes.is_wrong_state.Goals as goal

pub returns-then-is_transaction_record : goal.returns-then-is_transaction_record
returns-then-is_transaction_record c log p ids o =
    let r = shown c.args.logged.now in
    let w : is_transactional r.body ≡ true = sym c.is_transaction_record.ensures ∙ c.if-is_transaction_record.true in
    let known = known_of log r w o in
    let state : c.state_of-state.result ≡ state_of log r.trans.0 = c.state_of-state.ensures ∙ state_in-known log r.trans.0 known c.args.past.now.row p.row in
    let left : c.is_some.result ≡ is_some_left (to_undo log r.trans.0) = c.is_some.ensures ∙ is_some-copied c.args.past.now.newest ∙ ap is_some (newest-known log r.trans.0 known (option_copied c.args.past.now.newest) p.newest) ∙ is_some-first (to_undo log r.trans.0) in
    c.is_barred.ensures ∙ ap (λ s. barred s c.is_some.result r.body) state ∙ ap (λ l. barred (state_of log r.trans.0) l r.body) left ∙ sym (wrong_state-barred log r known)

pub returns-then-waits : goal.returns-then-waits
returns-then-waits c log p ids o =
    let r = shown c.args.logged.now in
    let w : is_transactional r.body ≡ false = sym c.is_transaction_record.ensures ∙ c.if-is_transaction_record.false in
    let d : c.does_wait-waits.result ≡ is_in_doubt log r.trans.0 = c.does_wait-waits.ensures ∙ ap (λ s. is_prepared s) c.state_of-state.ensures ∙ in_doubt-row log r.trans.0 c.args.past.now.row p.row in
    let y : is_in_doubt log r.trans.0 ≡ true = sym d ∙ c.if-waits.true in
    c.if-waits.true ∙ sym (wrong_state-checkpoint log r w ∙ ap (λ b. b || is_committed log r.trans.0) y)

pub returns-else-waits : goal.returns-else-waits
returns-else-waits c log p ids o =
    let r = shown c.args.logged.now in
    let w : is_transactional r.body ≡ false = sym c.is_transaction_record.ensures ∙ c.if-is_transaction_record.false in
    let d : c.does_wait-waits.result ≡ is_in_doubt log r.trans.0 = c.does_wait-waits.ensures ∙ ap (λ s. is_prepared s) c.state_of-state.ensures ∙ in_doubt-row log r.trans.0 c.args.past.now.row p.row in
    let n : is_in_doubt log r.trans.0 ≡ false = sym d ∙ c.if-waits.false in
    c.is_listed.ensures ∙ ids.each r.trans.0 ∙ sym (wrong_state-checkpoint log r w ∙ ap (λ b. b || is_committed log r.trans.0) n)
