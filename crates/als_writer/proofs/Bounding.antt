-- What bounds the last commits, behind a transaction that was or was not written.
use Rattle.std.proofs.Common.{ℕ, true, false, List, sym, ap, subst}
use Rattle.als_engine.specs.Machine.{Machine}
use Rattle.als_writer.specs.declared.refusal.Refusal.{Refusal}
use Rattle.als_writer.specs.declared.refusal.Refusal.TheVariants.{Invalid, State, Untidy, Held, NotAsAsked, NumbersSpent, TooMany, LogFull, Memory, Unplanned}
use Rattle.als_writer.specs.declared.transaction.Transaction.{Transaction}
use Rattle.als_writer.specs.Changes.{AreBounds}
use Rattle.als_writer.specs.Committing.{IsCut, FeedRefused}
use Rattle.als_writer.proofs.LastBounds.{AreBounds-same}

cut_bounds : (m : Machine) (t : Transaction) (new : Machine) (bounds : List ℕ) → IsCut m t new → AreBounds bounds m.held.pages m.held.log → AreBounds bounds new.held.pages new.held.log
cut_bounds m t new bounds cut a =
    subst (λ (pages : ℕ). AreBounds bounds pages new.held.log) (sym (ap (λ (x : Machine). x.held.pages) cut.after))
    (AreBounds-same bounds m.held.pages m.held.log new.held.log cut.commits a)

pub refused_bounds : (m : Machine) (t : Transaction) (r : Refusal) (new : Machine) (bounds : List ℕ) → FeedRefused m t r new → AreBounds bounds m.held.pages m.held.log → AreBounds bounds new.held.pages new.held.log
refused_bounds m t (Memory true) new bounds f a = cut_bounds m t new bounds f a
refused_bounds m t (Memory false) new bounds f a = subst (λ (x : Machine). AreBounds bounds x.held.pages x.held.log) (sym f) a
refused_bounds m t (Invalid flaw) new bounds f a = absurd f
refused_bounds m t (State fault) new bounds f a = absurd f
refused_bounds m t Untidy new bounds f a = absurd f
refused_bounds m t (Held key by) new bounds f a = absurd f
refused_bounds m t (NotAsAsked failing) new bounds f a = absurd f
refused_bounds m t NumbersSpent new bounds f a = absurd f
refused_bounds m t TooMany new bounds f a = absurd f
refused_bounds m t LogFull new bounds f a = absurd f
refused_bounds m t (Unplanned fault) new bounds f a = absurd f
