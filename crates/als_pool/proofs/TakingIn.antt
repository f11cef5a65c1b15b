-- The records of a log are taken in one after another.
use Rattle.std.proofs.Common.{◌≡◌, ◌⊎◌, ℕ, ◌+◌, ◌==◌, IsTrue, List, [], ◌∷◌, ◌++◌, Option, Some, None, inl, inr, refl, sym, subst, append_assoc, append-nil, eqb-true, arith}
use Rattle.std.specs.Prelude.{MatchOption}
use Rattle.std.proofs.lemmas.Bool.{and_parts}
use Rattle.als_record.specs.declared.change.Change.{Change}
use Rattle.als_record.specs.declared.record.Record.{Record}
use Rattle.als_record.specs.Spelling.{record_len}
use Rattle.als_record.specs.LogText.{end_of, follow_from}
use Rattle.als_record.specs.Pages.{change_of}
use Rattle.als_record.proofs.PageLaws.{end_of-push}
use Rattle.als_pool.specs.Pooled.{Pooled}
use Rattle.als_pool.specs.Outcomes.{CanRoute, with_change}
use Rattle.als_pool.specs.Images.{QueuesOf, IsFromOn, IsBelow, IsPoolOf}
use Rattle.als_pool.specs.Restart.{HoldsImagesOf, TakesInAll}
use Rattle.als_pool.proofs.Reading.{reads-route, reads-other, reads-below, reads-all}
use Rattle.als_pool.proofs.Opened.{holds-route}

abbrev Takes : Pooled → Option Change → Pooled → Type 0
Takes old o new = MatchOption o (new ≡ old) (λ c. (CanRoute old c × IsFromOn old c × (new ≡ with_change old c)) ⊎ (IsBelow old c × (new ≡ old)))

queue-more : (front : List Record) (r : Record) (old new : Pooled) (o : Option Change) → r.lsn.0 ≡ end_of front → change_of r ≡ o → Takes old o new → QueuesOf front old → QueuesOf (front ++ r ∷ []) new
queue-more front r old new None placed is same h = subst (λ (v : Pooled). QueuesOf (front ++ r ∷ []) v) (sym same) (reads-other front r placed old is h)
queue-more front r old new (Some c) placed is (inl (can, from, same)) h =
    subst (λ (v : Pooled). QueuesOf (front ++ r ∷ []) v) (sym same) (reads-route front r placed old c can.in_range is from h)
queue-more front r old new (Some c) placed is (inr (low, same)) h = subst (λ (v : Pooled). QueuesOf (front ++ r ∷ []) v) (sym same) (reads-below front r placed old c is low h)

holds-more : (log : List Record) (below : ℕ) (old new : Pooled) (o : Option Change) → Takes old o new → HoldsImagesOf log below old → HoldsImagesOf log below new
holds-more log below old new None same h = subst (λ (v : Pooled). HoldsImagesOf log below v) (sym same) h
holds-more log below old new (Some c) (inl (can, from, same)) h = subst (λ (v : Pooled). HoldsImagesOf log below v) (sym same) (holds-route log below old c can.in_range h)
holds-more log below old new (Some c) (inr (low, same)) h = subst (λ (v : Pooled). HoldsImagesOf log below v) (sym same) h

queue-all : (rest front : List Record) (old new : Pooled) → IsTrue (follow_from (end_of front) rest) → TakesInAll old rest new → QueuesOf front old → QueuesOf (front ++ rest) new
unfolding follow_from
queue-all [] front old new follow same h =
    subst (λ (log : List Record). QueuesOf log new) (sym (append-nil front)) (subst (λ (v : Pooled). QueuesOf front v) (sym same) h)
queue-all (r ∷ rest) front old new follow (next, takes, then') h =
    let (first, others) = and_parts (r.lsn.0 == end_of front) (follow_from (end_of front + record_len r) rest) follow in
    let placed : r.lsn.0 ≡ end_of front = eqb-true r.lsn.0 (end_of front) first in
    let further : IsTrue (follow_from (end_of (front ++ r ∷ [])) rest) = subst (λ (n : ℕ). IsTrue (follow_from n rest)) (sym (end_of-push front r)) others in
    subst (λ (log : List Record). QueuesOf log new) (append_assoc front (r ∷ []) rest)
    (queue-all rest (front ++ r ∷ []) next new further then' (queue-more front r old next (change_of r) placed refl takes h))

holds-all : (log rest : List Record) (below : ℕ) (old new : Pooled) → TakesInAll old rest new → HoldsImagesOf log below old → HoldsImagesOf log below new
holds-all log [] below old new same h = subst (λ (v : Pooled). HoldsImagesOf log below v) (sym same) h
holds-all log (r ∷ rest) below old new (next, takes, then') h = holds-all log rest below next new then' (holds-more log below old next (change_of r) takes h)

empty-end : end_of [] ≡ 16
unfolding end_of
empty-end = omega arith

pub taken_in : (log : List Record) (below : ℕ) (old new : Pooled) → HoldsImagesOf log below old → QueuesOf [] old → TakesInAll old log new → IsPoolOf log below new
taken_in log below old new held queues takes =
    let follow : IsTrue (follow_from (end_of []) log) = subst (λ (n : ℕ). IsTrue (follow_from n log)) (sym empty-end) held.frames.is_log.laid_out in
    let now = holds-all log log below old new takes held in
    reads-all now.position now.rows log below new now.reached now.listed now.given now.frames (queue-all log [] old new follow takes queues) now.lacks
