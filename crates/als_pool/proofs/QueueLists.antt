-- Lists of what waits: one of them changed, and how many changes wait over all.
use Rattle.std.proofs.Common.{◌≡◌, ℕ, zero, suc, ◌+◌, ◌<◌, ◌≤◌, Bool, List, [], ◌∷◌, length, get_or, map, replicate, None, refl, ap, subst, ◌∙◌, arith, false, inl, inr}
use Rattle.std.specs.Prelude.{slice_set}
use Rattle.std.proofs.lemmas.Bool.{cases_lt}
use Rattle.std.proofs.lemmas.Option.{slice_get_read, get_or_from_slice_get}
use Rattle.std.proofs.lemmas.List.{get_or-map}
use Rattle.std.proofs.lemmas.List.Sums.{sum_by-set, sum_by-cons}
use Rattle.als_record.specs.declared.change.Change.{Change}
use Rattle.als_dirty.specs.Images.{first_lsn}
use Rattle.als_lease.specs.Queue.{Queue, empty_queue}
use Rattle.als_pool.specs.Queues.{pending_of, total_waiting}

-- what the queue that an index gave shows
pub queue_at : (queues : List Queue) (page : ℕ) (q : Queue) → page < length queues → q ≡ get_or queues page q → pending_of (map (λ x. x.pending) queues) page ≡ q.pending
queue_at queues page q lt is =
    get_or-map (λ (x : Queue). x.pending) queues page empty_queue [] lt
    ∙ ap (λ (x : Queue). x.pending) (get_or_from_slice_get queues page q empty_queue (slice_get_read queues (length queues) page q refl lt is))

pub place_at : (queues : List Queue) (page : ℕ) (q : Queue) → page < length queues → q ≡ get_or queues page q → get_or (map (λ x. x.has_room) queues) page false ≡ q.has_room
place_at queues page q lt is =
    get_or-map (λ (x : Queue). x.has_room) queues page empty_queue false lt
    ∙ ap (λ (x : Queue). x.has_room) (get_or_from_slice_get queues page q empty_queue (slice_get_read queues (length queues) page q refl lt is))

pub total-set : (waits : List (List Change)) (page : ℕ) (new : List Change) → page < length waits
    → total_waiting (slice_set waits page new) + length (pending_of waits page) ≡ total_waiting waits + length new
total-set waits page new lt = sum_by-set (λ (cs : List Change). length cs) waits page new [] lt

pub total-empty : (count : ℕ) → total_waiting (replicate count []) ≡ 0
total-empty zero = refl
total-empty (suc count) = let rest = total-empty count in omega (arith, sum_by-cons (λ (cs : List Change). length cs) [] (replicate count []), rest)

pub map-empty : (count : ℕ) → map (λ (x : Queue). x.pending) (replicate count empty_queue) ≡ replicate count []
map-empty zero = refl
map-empty (suc count) = ap (λ (w : List (List Change)). [] ∷ w) (map-empty count)

pub map-no_place : (count : ℕ) → map (λ (x : Queue). x.has_room) (replicate count empty_queue) ≡ replicate count false
map-no_place zero = refl
map-no_place (suc count) = ap (λ (w : List Bool). false ∷ w) (map-no_place count)

-- past the end nothing waits
pub nothing_past : (waits : List (List Change)) (page : ℕ) → length waits ≤ page → pending_of waits page ≡ []
nothing_past [] page le = refl
nothing_past (q ∷ waits) zero le = absurd (omega arith)
nothing_past (q ∷ waits) (suc page) le = nothing_past waits page (omega (arith, le))

-- where a change waits there is a page
pub some_inside : (waits : List (List Change)) (page : ℕ) → (pending_of waits page ≡ [] → ⊥) → page < length waits
some_inside waits page some =
    elim (cases_lt page (length waits)) [
      | inl lt ↦ lt
      | inr le ↦ absurd (some (nothing_past waits page le))
    ]

-- whether something waits, by the first of it
pub none_waits : (waits : List Change) → first_lsn waits ≡ None → waits ≡ []
none_waits [] is = refl
none_waits (c ∷ waits) is = absurd cc

pub some_waits : (waits : List Change) → (first_lsn waits ≡ None → ⊥) → waits ≡ [] → ⊥
some_waits waits some is = some (ap first_lsn is)

-- one page more at which nothing waits
pub nothing_more : (waits : List (List Change)) (from page : ℕ) → ((other : ℕ) → from ≤ other → other < page → pending_of waits other ≡ []) → pending_of waits page ≡ []
    → (other : ℕ) → from ≤ other → other < page + 1 → pending_of waits other ≡ []
nothing_more waits from page before here other le lt =
    elim (cases_lt other page) [
      | inl below ↦ before other le below
      | inr above' ↦ let same : page ≡ other = omega arith in subst (λ p. pending_of waits p ≡ []) same here
    ]

-- nothing waits from a number on, if nothing waits up to the end
pub nothing_from : (waits : List (List Change)) (from to : ℕ) → length waits ≤ to → ((other : ℕ) → from ≤ other → other < to → pending_of waits other ≡ []) → (page : ℕ) → from ≤ page → pending_of waits page ≡ []
nothing_from waits from to end before page le =
    elim (cases_lt page to) [
      | inl below ↦ before page le below
      | inr above' ↦ let past : length waits ≤ page = omega arith in nothing_past waits page past
    ]

pub length_none : (cs : List Change) → length cs ≡ 0 → cs ≡ []
length_none [] is = refl
length_none (c ∷ cs) is = absurd (omega (arith, is))

pub none_left : (n : ℕ) → (1 ≤ n → ⊥) → n ≡ 0
none_left zero none = refl
none_left (suc n) none = absurd (none (omega arith))
