-- What a change of one queue makes of all.
use Rattle.std.proofs.Common.{◌≡◌, ℕ, zero, suc, ◌+◌, ◌<◌, ◌≤◌, Bool, true, false, List, [], ◌∷◌, ◌++◌, length, get_or, map, take, drop, replicate, refl, sym, ap, ap₂, ◌∙◌, subst, length-set, inl, inr, arith}
use Rattle.std.specs.Prelude.{slice_set, min, nat_le}
use Rattle.std.proofs.lemmas.Bool.{cases_lt, cond-true, cond-false, lt-leb, le-leb}
use Rattle.std.proofs.lemmas.List.{map-set, length-map, get_or-set_same, set-get_or, drop_all, take_min, length-replicate}
use Rattle.als_record.specs.declared.lsn.Lsn.{Lsn}
use Rattle.als_record.specs.declared.change.Change.{Change}
use Rattle.als_lease.specs.Queue.{Queue, empty_queue, count_up_to, flag_of}
use Rattle.als_pool.specs.Queues.{Waiting, pending_of, has_place, total_waiting, flags_of}
use Rattle.als_pool.proofs.QueueLists.{queue_at, place_at, total-set, total-empty, map-empty, map-no_place}

abbrev pub waits_in : List Queue → List (List Change)
waits_in queues = map (λ q. q.pending) queues

abbrev pub places_in : List Queue → List Bool
places_in queues = map (λ q. q.has_room) queues

pub waits-set : (queues : List Queue) (page : ℕ) (q : Queue) (w : List Change) → q.pending ≡ w → waits_in (slice_set queues page q) ≡ slice_set (waits_in queues) page w
waits-set queues page q w is = map-set (λ (x : Queue). x.pending) queues page q ∙ ap (λ (cs : List Change). slice_set (waits_in queues) page cs) is

pub places-set : (queues : List Queue) (page : ℕ) (q : Queue) (b : Bool) → q.has_room ≡ b → places_in (slice_set queues page q) ≡ slice_set (places_in queues) page b
places-set queues page q b is = map-set (λ (x : Queue). x.has_room) queues page q ∙ ap (λ (x : Bool). slice_set (places_in queues) page x) is

-- what waits does not change, or where there is room
pub waits-same : (queues : List Queue) (page : ℕ) (old q : Queue) → page < length queues → old ≡ get_or queues page old → q.pending ≡ old.pending → waits_in (slice_set queues page q) ≡ waits_in queues
waits-same queues page old q lt at is =
    waits-set queues page q (pending_of (waits_in queues) page) (is ∙ sym (queue_at queues page old lt at)) ∙ set-get_or (waits_in queues) page []

pub places-same : (queues : List Queue) (page : ℕ) (old q : Queue) → page < length queues → old ≡ get_or queues page old → q.has_room ≡ old.has_room → places_in (slice_set queues page q) ≡ places_in queues
places-same queues page old q lt at is =
    places-set queues page q (has_place (places_in queues) page) (is ∙ sym (place_at queues page old lt at)) ∙ set-get_or (places_in queues) page false

-- how many wait, after one queue has changed
pub total-after : (queues : List Queue) (page : ℕ) (old q : Queue) → page < length queues → old ≡ get_or queues page old
    → total_waiting (waits_in (slice_set queues page q)) + length old.pending ≡ total_waiting (waits_in queues) + length q.pending
total-after queues page old q lt at =
    let here : length (pending_of (waits_in queues) page) ≡ length old.pending = ap (λ (cs : List Change). length cs) (queue_at queues page old lt at) in
    let set = total-set (waits_in queues) page q.pending (omega (arith, lt, length-map queues (λ (x : Queue). x.pending))) in
    let is : total_waiting (waits_in (slice_set queues page q)) ≡ total_waiting (slice_set (waits_in queues) page q.pending) = ap total_waiting (waits-set queues page q q.pending refl) in
    omega (arith, here, set, is)

pub kept-total : (queues : List Queue) (page n m : ℕ) (old q : Queue) → page < length queues → old ≡ get_or queues page old → length queues ≤ 4096 → n ≡ total_waiting (waits_in queues)
    → m + length old.pending ≡ n + length q.pending → (length (slice_set queues page q) ≤ 4096) × (m ≡ total_waiting (waits_in (slice_set queues page q)))
kept-total queues page n m old q lt at few is count =
    let more = total-after queues page old q lt at in (
      omega (arith, few, length-set queues page q),
      omega (arith, more, is, count),
    )

-- new queues
pub total-new : (queues : List Queue) (count : ℕ) → queues ≡ replicate count empty_queue → count ≤ 4096 → (length queues ≤ 4096) × (0 ≡ total_waiting (waits_in queues))
total-new queues count is few = (
  omega (arith, few, ap (λ (qs : List Queue). length qs) is, length-replicate count empty_queue),
  sym (ap (λ (qs : List Queue). total_waiting (waits_in qs)) is ∙ ap total_waiting (map-empty count) ∙ total-empty count),
)

-- ---- for which pages changes wait

-- after one queue has changed
pub flags-after : (queues : List Queue) (page : ℕ) (q : Queue) (flags : List ℕ) (n : ℕ) → flags ≡ flags_of (waits_in queues) → n ≡ flag_of q.pending
    → slice_set flags page n ≡ flags_of (waits_in (slice_set queues page q))
flags-after queues page q flags n is here =
    ap₂ (λ (fs : List ℕ) (k : ℕ). slice_set fs page k) is here
    ∙ sym (map-set flag_of (waits_in queues) page q.pending)
    ∙ sym (ap flags_of (waits-set queues page q q.pending refl))

pub flags-same : (queues : List Queue) (page : ℕ) (old q : Queue) (flags : List ℕ) → page < length queues → old ≡ get_or queues page old → q.pending ≡ old.pending
    → flags ≡ flags_of (waits_in queues) → flags ≡ flags_of (waits_in (slice_set queues page q))
flags-same queues page old q flags lt at same is = is ∙ sym (ap flags_of (waits-same queues page old q lt at same))

pub flag-more : (w : List Change) (c : Change) → 1 ≡ flag_of (w ++ c ∷ [])
flag-more [] c = refl
flag-more (d ∷ w) c = refl

flags-empty : (count : ℕ) → flags_of (replicate count []) ≡ replicate count 0
flags-empty zero = refl
flags-empty (suc count) = ap (λ (fs : List ℕ). 0 ∷ fs) (flags-empty count)

pub flags-new : (queues : List Queue) (flags : List ℕ) (count : ℕ) → queues ≡ replicate count empty_queue → flags ≡ replicate count 0 → flags ≡ flags_of (waits_in queues)
flags-new queues flags count is all = all ∙ sym (flags-empty count) ∙ sym (ap flags_of (ap waits_in is ∙ map-empty count))

-- what a flag says of the page
pub flag-none : (waits : List (List Change)) (page : ℕ) → (get_or (flags_of waits) page 0 ≡ 1 → ⊥) → pending_of waits page ≡ []
flag-none [] page no' = refl
flag-none ([] ∷ waits) zero no' = refl
flag-none ((c ∷ w) ∷ waits) zero no' = absurd (no' refl)
flag-none (w ∷ waits) (suc page) no' = flag-none waits page no'

pub flag-some : (waits : List (List Change)) (page : ℕ) → get_or (flags_of waits) page 0 ≡ 1 → (page < length waits) × (pending_of waits page ≡ [] → ⊥)
flag-some [] page is = absurd (omega (arith, is))
flag-some ([] ∷ waits) zero is = absurd (omega (arith, is))
flag-some ((c ∷ w) ∷ waits) zero is = let lt : zero < suc (length waits) = omega arith in (lt, λ none. absurd cc)
flag-some (w ∷ waits) (suc page) is =
    let later = flag-some waits page is in
    let lt : suc page < suc (length waits) = omega (arith, later.0) in (lt, later.1)

-- ---- counting the first changes up to an LSN

pub count-more : (lsn : Lsn) (w : List Change) (i : ℕ) (c : Change) → i < length w → c ≡ get_or w i c → c.lsn.0 ≤ lsn.0 → count_up_to lsn w ≡ i + count_up_to lsn (drop i w)
    → count_up_to lsn w ≡ (i + 1) + count_up_to lsn (drop (i + 1) w)
count-more lsn w i c lt at le is =
    let one : suc i ≡ i + 1 = omega arith in
    let step : count_up_to lsn (drop i w) ≡ suc (count_up_to lsn (drop (suc i) w)) = go w i lt at in
    let same : count_up_to lsn (drop (suc i) w) ≡ count_up_to lsn (drop (i + 1) w) = ap (λ (n : ℕ). count_up_to lsn (drop n w)) one in
    omega (arith, is, step, same)
  where
    go : (xs : List Change) (k : ℕ) → k < length xs → c ≡ get_or xs k c → count_up_to lsn (drop k xs) ≡ suc (count_up_to lsn (drop (suc k) xs))
    go [] k below e = absurd (omega (arith, below))
    go (x ∷ xs) zero below e = cond-true (nat_le x.lsn.0 lsn.0) (suc (count_up_to lsn xs)) 0 (le-leb x.lsn.0 lsn.0 (subst (λ (d : Change). d.lsn.0 ≤ lsn.0) e le))
    go (x ∷ xs) (suc k) below e = go xs k (omega (arith, below)) e

pub count-stop : (lsn : Lsn) (w : List Change) (i : ℕ) (c : Change) → i < length w → c ≡ get_or w i c → lsn.0 < c.lsn.0 → count_up_to lsn w ≡ i + count_up_to lsn (drop i w) → i ≡ count_up_to lsn w
count-stop lsn w i c lt at above' is =
    let none : count_up_to lsn (drop i w) ≡ 0 = go w i lt at in
    omega (arith, is, none)
  where
    go : (xs : List Change) (k : ℕ) → k < length xs → c ≡ get_or xs k c → count_up_to lsn (drop k xs) ≡ 0
    go [] k below e = absurd (omega (arith, below))
    go (x ∷ xs) zero below e = cond-false (nat_le x.lsn.0 lsn.0) (suc (count_up_to lsn xs)) 0 (lt-leb x.lsn.0 lsn.0 (subst (λ (d : Change). lsn.0 < d.lsn.0) e above'))
    go (x ∷ xs) (suc k) below e = go xs k (omega (arith, below)) e

pub count-end : (lsn : Lsn) (w : List Change) (i : ℕ) → length w ≤ i → i ≤ length w → count_up_to lsn w ≡ i + count_up_to lsn (drop i w) → length w ≡ count_up_to lsn w
count-end lsn w i le ge is =
    let none : count_up_to lsn (drop i w) ≡ 0 = ap (count_up_to lsn) (drop_all i w le) in
    omega (arith, is, none, le, ge)

-- ---- by what callers see

pub inside_of : (queues : List Queue) (shown : Waiting) (page : ℕ) → ◌≡◌ {A = Waiting} (record { waits = waits_in queues; places = places_in queues }) shown → page < length shown.waits → page < length queues
inside_of queues shown page view lt =
    let len : length shown.waits ≡ length queues = sym (ap (λ (x : Waiting). length x.waits) view) ∙ length-map queues (λ (x : Queue). x.pending) in
    omega (arith, lt, len)

pub fits_in : (queues : List Queue) (shown : Waiting) (page count : ℕ) (old : Queue) → ◌≡◌ {A = Waiting} (record { waits = waits_in queues; places = places_in queues }) shown → page < length queues → old ≡ get_or queues page old
    → count ≤ length (pending_of shown.waits page) → (count ≤ length old.pending) × (length old.pending ≤ total_waiting (waits_in queues))
fits_in queues shown page count old view lt at le =
    let here : length (pending_of shown.waits page) ≡ length old.pending
    = sym (ap (λ (x : Waiting). length (pending_of x.waits page)) view) ∙ ap (λ (cs : List Change). length cs) (queue_at queues page old lt at) in
    let all = total-after queues page old empty_queue lt at in (
      omega (arith, le, here),
      omega (arith, all),
    )

pub take-least : (n : ℕ) (w : List Change) → n ≡ min (length w) 64 → take n w ≡ take 64 w
take-least n w is =
    let turned : n ≡ min 64 (length w) = omega (arith, is) in
    ap (λ (k : ℕ). take k w) turned ∙ take_min 64 w

pub count-fits : (lsn : Lsn) (w : List Change) → count_up_to lsn w ≤ length w
count-fits lsn [] = omega arith
count-fits lsn (c ∷ w) =
    elim (cases_lt lsn.0 c.lsn.0) [
      | inl lt ↦ let none : count_up_to lsn (c ∷ w) ≡ 0 = cond-false (nat_le c.lsn.0 lsn.0) (suc (count_up_to lsn w)) 0 (lt-leb c.lsn.0 lsn.0 lt) in omega (arith, none)
      | inr le ↦ let one : count_up_to lsn (c ∷ w) ≡ suc (count_up_to lsn w) = cond-true (nat_le c.lsn.0 lsn.0) (suc (count_up_to lsn w)) 0 (le-leb c.lsn.0 lsn.0 le) in omega (arith, one, count-fits lsn w)
    ]

pub shows-new : (queues : List Queue) (n count : ℕ) → queues ≡ replicate n empty_queue → n ≡ count
    → ◌≡◌ {A = Waiting} (record { waits = waits_in queues; places = places_in queues }) (record { waits = replicate count []; places = replicate count false })
shows-new queues n count is all =
    let make : List (List Change) → List Bool → Waiting = λ w p. record { waits = w; places = p } in
    ap₂ make (ap waits_in is ∙ map-empty n ∙ ap (λ (k : ℕ). replicate k []) all) (ap places_in is ∙ map-no_place n ∙ ap (λ (k : ℕ). replicate k false) all)

pub place-set : (queues : List Queue) (page : ℕ) (q : Queue) → page < length queues → q.has_room ≡ true → has_place (places_in (slice_set queues page q)) page ≡ true
place-set queues page q lt is =
    ap (λ (bs : List Bool). has_place bs page) (places-set queues page q true is)
    ∙ get_or-set_same (places_in queues) page true false (omega (arith, lt, length-map queues (λ (x : Queue). x.has_room)))
