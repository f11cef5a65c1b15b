-- Walking the undo chain of one transaction until it has met as many updates as survive.
use Rattle.std.proofs.Common.{◌≡◌, ℕ, ◌+◌, ◌<◌, ◌≤◌, true, refl, List, [], ◌∷◌, ◌++◌, length, sym, ap, ◌∙◌, arith, length-append, append_assoc, append-nil}
use Rattle.als_record.specs.declared.record.Record.{Record}
use Rattle.als_record.specs.Transactions.{to_undo}
use Rattle.als_record.specs.UndoChain.{undone_at, goes_to, undo_chain, backwards}
use Rattle.als_record.specs.Validity.{is_valid}
use Rattle.als_record.proofs.ChainReads.{ChainStep, undo_chain-step}
use Rattle.als_log.specs.declared.fault.Fault.{Fault}
use Rattle.als_log.specs.declared.fault.Fault.TheVariants.{NothingToDo, LogFull, Device, Memory}
use Rattle.als_log.specs.Local.{Local}
use Rattle.als_takeover.specs.Next.{CannotRead, CannotCollect}

-- what is left of the chain is something while fewer updates were met
some_left : (us rest left : List Record) (count : ℕ) → left ≡ us ++ rest → length left ≡ count → length us < count → (u : Record) × (more : List Record) × (rest ≡ u ∷ more)
some_left us [] left count e n lt = let m : length left ≡ length us = ap (λ (xs : List Record). length xs) (e ∙ append-nil us) in absurd (omega arith)
some_left us (u ∷ more) left count e n lt = (u, more, refl)

-- and nothing once all were met
pub all_met : (us rest left : List Record) (count : ℕ) → left ≡ us ++ rest → length left ≡ count → count ≤ length us → us ≡ left
all_met us [] left count e n le = sym (e ∙ append-nil us)
all_met us (u ∷ more) left count e n le =
    let m : length left ≡ length us + length (u ∷ more) = ap (λ (xs : List Record). length xs) e ∙ length-append us (u ∷ more) in
    let k : length (u ∷ more) ≡ length more + 1 = omega arith in
    absurd (omega arith)

module _ (log : List Record) (t : ℕ) (v : is_valid log ≡ true) (us : List Record) (n count : ℕ) (e : to_undo log t ≡ us ++ undo_chain n (backwards log t)) (all : length (to_undo log t) ≡ count) (lt : length us < count) where
  -- there is a record of the chain there
  pub met : (r : Record) × ChainStep log t n r
  met =
      let some : (u : Record) × (more : List Record) × (undo_chain n (backwards log t) ≡ u ∷ more) = some_left us (undo_chain n (backwards log t)) (to_undo log t) count e all lt in
      undo_chain-step log t n some.0 some.1 v some.2

  -- it is met, and the chain goes on
  pub met-more : (r : Record) → ChainStep log t n r → to_undo log t ≡ us ++ undone_at r r.body ++ undo_chain (goes_to r r.body) (backwards log t)
  met-more r s = e ∙ ap (λ xs. us ++ xs) s.chain ∙ sym (append_assoc us (undone_at r r.body) (undo_chain (goes_to r r.body) (backwards log t)))

-- what is in the way of a read is in the way of all
pub collects : (e : Fault) (old new : Local) → CannotRead e old new → CannotCollect e old new
collects Device old new h = h
collects Memory old new h = absurd h
collects NothingToDo old new h = absurd h
collects LogFull old new h = absurd h
