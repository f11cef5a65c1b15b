-- What each change of a table says of the places of its frames.
use Rattle.std.proofs.Common.{◌≡◌, ◌≢◌, ◌⊎◌, ℕ, zero, suc, ◌<◌, ◌≤◌, ◌+◌, ◌-◌, List, [], ◌∷◌, ◌++◌, length, get_or, take, set, swap, slice_get, Option, Some, None, IfSome, if◌then◌else◌, is_some, true≢false, false, nat_eq, refl, sym, ap, subst, ◌∙◌, inl, inr, arith}
use Rattle.std.proofs.lemmas.Grind.{common_steps}
use Rattle.std.proofs.lemmas.Bool.{cases_eq, cases_lt}
use Rattle.std.proofs.lemmas.List.{get_or-set_same, get_or-set_other, length-take, length-append, get_or-take}
use Rattle.std.proofs.lemmas.List.Edits.{length-swap, swapped_from_swap}
use Rattle.std.proofs.lemmas.Map.Entries.{place_from_lookup, lookup_from_place}
use Rattle.std.proofs.lemmas.Option.{slice_get_past, slice_get_within, slice_get-get_or, get_or_from_slice_get}
use Rattle.std.specs.Cmp.{nat_eq_equiv}
use Rattle.std.specs.List.{swap_remove}
use Rattle.std.specs.Map.{lookup, values_of}
use Rattle.indexmap.specs.IndexMap.{IndexMap, values, IsUnique, set_value_at}
use Rattle.indexmap.proofs.CallerLemmas.{updates-with_value_at, index_map_len-with_value_at}
use Rattle.als_frames.specs.Frames.{Framed}
use Rattle.als_frames.specs.declared.zones.Zones.{Zones}
use Rattle.als_frames.specs.Table.{IsFreeAt, NoneIsFree, IsFresh}
use Rattle.als_frames.specs.Zones.{StandsAt, AreZoned, SetsAt, Swaps}

none≢some : {X : Type 0} {x : X} → None ≡ Some x → ⊥
none≢some e = true≢false (sym (ap is_some e))

abbrev some_or : {X : Type 0} → X → Option X → X
some_or d None = d
some_or d (Some x) = x

pub same_some : {X : Type 0} (x y : X) → Some x ≡ Some y → x ≡ y
same_some x y e = ap (some_or x) e

-- ---- one frame is changed

set_here : (es : List (ℕ × Framed)) (i page : ℕ) (f w : Framed) → slice_get es i ≡ Some (page, f) → slice_get (set_value_at es i w) i ≡ Some (page, w)
set_here [] i page f w at = absurd (none≢some at)
set_here (e ∷ es) zero page f w at = ap (λ (x : ℕ × Framed). Some (x.0, w)) (same_some e (page, f) at)
set_here (e ∷ es) (suc i) page f w at = set_here es i page f w at

set_others : (es : List (ℕ × Framed)) (i j : ℕ) (w : Framed) → j ≢ i → slice_get (set_value_at es i w) j ≡ slice_get es j
set_others [] i j w apart = refl
set_others (e ∷ es) zero zero w apart = absurd (apart refl)
set_others (e ∷ es) zero (suc j) w apart = refl
set_others (e ∷ es) (suc i) zero w apart = refl
set_others (e ∷ es) (suc i) (suc j) w apart = set_others es i j w (λ same. apart (ap suc same))

value_here : (es : List (ℕ × Framed)) (i page : ℕ) (f : Framed) → slice_get es i ≡ Some (page, f) → slice_get (values_of es) i ≡ Some f
value_here [] i page f at = absurd (none≢some at)
value_here (e ∷ es) zero page f at = ap (λ (x : ℕ × Framed). Some x.1) (same_some e (page, f) at)
value_here (e ∷ es) (suc i) page f at = value_here es i page f at

module _ {S : Type 0} (m : IndexMap ℕ Framed S) (i : ℕ) (g w : Framed) (change : Framed → Framed) where
  pub sets_changed : IsUnique nat_eq m → Some g ≡ slice_get (values m) i → w ≡ change g → (page : ℕ) (f : Framed) → slice_get m.entries i ≡ Some (page, f)
      → SetsAt m.entries (set_value_at m.entries i w) i page (change f)
  sets_changed unique value changed page f at =
      let is : g ≡ f = same_some g f (value ∙ value_here m.entries i page f at) in
      let now : w ≡ change f = changed ∙ ap change is in
      let updates = updates-with_value_at m i w nat_eq_equiv unique page f at in
      let made : SetsAt m.entries (set_value_at m.entries i w) i page w = record {
        here = set_here m.entries i page f w at;
        others = λ j apart. set_others m.entries i j w apart;
        len = index_map_len-with_value_at m i w;
        puts = record { frame = updates.1; others = λ other apart. updates.2 other (apart_eq page other apart) };
        was = λ old here. lookup_from_place nat_eq_equiv m.entries i page old unique here;
      } in
      subst (λ (x : Framed). SetsAt m.entries (set_value_at m.entries i w) i page x) now made
    where
      apart_eq : (a b : ℕ) → b ≢ a → nat_eq a b ≡ false
      apart_eq a b apart = grind (arith, common_steps)

-- a frame at a place has a value there
pub no_frame : {S : Type 0} (m : IndexMap ℕ Framed S) (i page : ℕ) (f : Framed) → None ≡ slice_get (values m) i → slice_get m.entries i ≡ Some (page, f) → ⊥
no_frame m i page f none at = none≢some (none ∙ value_here m.entries i page f at)

-- ---- two frames stand in each other's places

same_place : (xs ys : List (ℕ × Framed)) (i j : ℕ) (d : ℕ × Framed) → i < length ys → j < length xs → get_or ys i d ≡ get_or xs j d → slice_get ys i ≡ slice_get xs j
same_place xs ys i j d lt within same = slice_get-get_or ys i d lt ∙ ap Some same ∙ sym (slice_get-get_or xs j d within)

pub swaps_places : (es : List (ℕ × Framed)) (a b : ℕ) → a < length es → b < length es → ((page : ℕ) → lookup (nat_eq page) (swap es a b) ≡ lookup (nat_eq page) es) → Swaps es (swap es a b) a b
swaps_places [] a b first second lookups = absurd (omega (arith, first))
swaps_places (d ∷ ds) a b first second lookups =
    let es = d ∷ ds in
    let len : length (swap es a b) ≡ length es = length-swap es a b in
    let moved = swapped_from_swap es (swap es a b) a b d first second refl in
    record {
      first = same_place es (swap es a b) a b d (omega (arith, first, len)) second moved.0;
      second = same_place es (swap es a b) b a d (omega (arith, second, len)) first moved.1;
      others = λ j away apart. elim (cases_lt j (length es)) [
        | inl lt ↦ same_place es (swap es a b) j j d (omega (arith, lt, len)) lt (moved.2 j away apart)
        | inr past ↦ slice_get_past (swap es a b) j (omega (arith, past, len)) ∙ sym (slice_get_past es j past)
      ];
      len = len;
      lookups = lookups;
    }

-- ---- a frame is added, beside the others or in the place of a free one

pushed : (es : List (ℕ × Framed)) (x e : ℕ × Framed) (j : ℕ) → slice_get (es ++ x ∷ []) j ≡ Some e → (slice_get es j ≡ Some e) ⊎ ((j ≡ length es) × (x ≡ e))
pushed [] x e zero at = inr (refl, same_some x e at)
pushed [] x e (suc j) at = absurd (none≢some at)
pushed (y ∷ ys) x e zero at = inl at
pushed (y ∷ ys) x e (suc j) at = elim (pushed ys x e j at) [ inl here ↦ inl here | inr last ↦ inr (ap suc last.0, last.1) ]

-- what stands at a place once one frame is gone, and the last one stands there
left_after : (es : List (ℕ × Framed)) (i j : ℕ) (d e : ℕ × Framed) → i < length es → slice_get (swap_remove es i d) j ≡ Some e
    → (slice_get es j ≡ Some e) ⊎ ((j ≡ i) × (slice_get es (length es - 1) ≡ Some e))
left_after es i j d e within at =
    let n = length es - 1 in
    let moved = set es i (get_or es n d) in
    let lt : j < length (take n moved) = slice_get_within (take n moved) j e at in
    let below : j < n = omega (arith, lt, length-take n moved) in
    let is : get_or moved j d ≡ e = sym (get_or-take n moved j d below) ∙ get_or_from_slice_get (take n moved) j e d at in
    elim (cases_eq j i) [
      | inl same ↦
          let last : get_or es n d ≡ e = sym (get_or-set_same es i (get_or es n d) d within) ∙ ap (λ k. get_or moved k d) (sym same) ∙ is in
          inr (same, slice_get-get_or es n d (omega (arith, within)) ∙ ap Some last)
      | inr apart ↦ inl (slice_get-get_or es j d (omega (arith, below)) ∙ ap Some (sym (get_or-set_other es i j (get_or es n d) d apart) ∙ is))
    ]

-- what a removal of the frame at a place leaves
pub removed_is : (r : Option (ℕ × Framed)) (old new : List (ℕ × Framed)) (i : ℕ) (e : ℕ × Framed) → r ≡ slice_get old i → IfSome r (λ x. new ≡ swap_remove old i x)
    → slice_get old i ≡ Some e → (new ≡ swap_remove old i e) × (length new + (if is_some r then 1 else 0) ≡ length old → length new + 1 ≡ length old)
removed_is None old new i e is left here = absurd (none≢some (is ∙ here))
removed_is (Some x) old new i e is left here = (left ∙ ap (swap_remove old i) (same_some x e (is ∙ here)), λ len. len)

module _ (z : Zones) (page : ℕ) (f : Framed) (fresh : IsFresh f) where
  -- a frame as its page's block has it may stand among the free ones
  fresh_stands : (i : ℕ) → z.dirty ≤ i → StandsAt z i f
  fresh_stands i past = record {
    ordered = record { synced = omega (arith, fresh.0); written = omega (arith, fresh.0, fresh.1.0) };
    dirty = λ lt. absurd (omega (arith, lt, past));
    free = λ le. fresh.1;
    unwritten = λ le. fresh.0;
  }

  pub zoned_added : (old : List (ℕ × Framed)) → AreZoned z old → AreZoned z (old ++ (page, f) ∷ [])
  zoned_added old zoned = record {
    order = zoned.order;
    within = omega (arith, zoned.within, length-append old ((page, f) ∷ []));
    each = λ j p g at. elim (pushed old (page, f) (p, g) j at) [
      | inl here ↦ zoned.each j p g here
      | inr last ↦
          let is : f ≡ g = ap (λ (x : ℕ × Framed). x.1) last.1 in
          subst (λ (x : Framed). StandsAt z j x) is (fresh_stands j (omega (arith, zoned.within, last.0)))
    ];
  }

  pub zoned_replaced : (old : List (ℕ × Framed)) (victim : ℕ) (d : ℕ × Framed) → AreZoned z old → IsFreeAt old victim → length (swap_remove old victim d) + 1 ≡ length old
      → AreZoned z (swap_remove old victim d ++ (page, f) ∷ [])
  zoned_replaced old victim d zoned at len =
      let mid = swap_remove old victim d in
      let within : victim < length old = slice_get_within old victim (at.page, at.f) at.here in
      let past : z.dirty ≤ victim = elim (cases_lt victim z.dirty) [ inl lt ↦ absurd ((zoned.each victim at.page at.f at.here).dirty lt at.free) | inr le ↦ le ] in
      record {
        order = zoned.order;
        within = omega (arith, zoned.within, len, length-append mid ((page, f) ∷ []));
        each = λ j p g found. elim (pushed mid (page, f) (p, g) j found) [
          | inl here ↦ elim (left_after old victim j d (p, g) within here) [
            | inl same ↦ zoned.each j p g same
            | inr moved ↦
                let from : z.dirty ≤ length old - 1 = omega (arith, past, within) in
                let last : StandsAt z (length old - 1) g = zoned.each (length old - 1) p g moved.1 in
                record {
                  ordered = last.ordered;
                  dirty = λ lt. absurd (omega (arith, lt, past, moved.0));
                  free = λ le. last.free from;
                  unwritten = λ le. let behind : z.written ≤ length old - 1 = omega (arith, zoned.order, from) in last.unwritten behind;
                }
          ]
          | inr last ↦
              let is : f ≡ g = ap (λ (x : ℕ × Framed). x.1) last.1 in
              subst (λ (x : Framed). StandsAt z j x) is (fresh_stands j (omega (arith, past, within, len, last.0)))
        ];
      }

-- ---- where frames are free

-- behind all those that are not free there is a free one
pub free_behind : {S : Type 0} (m : IndexMap ℕ Framed S) (z : Zones) (i : ℕ) → IsUnique nat_eq m → AreZoned z m.entries → z.dirty ≤ i → i < length m.entries → IsFreeAt m.entries i
free_behind m z i unique zoned past within = at_place (slice_get m.entries i) refl
  where
    at_place : (o : Option (ℕ × Framed)) → slice_get m.entries i ≡ o → IsFreeAt m.entries i
    at_place None none = absurd (past_end none)
      where
        past_end : slice_get m.entries i ≡ None → ⊥
        past_end e = first m.entries i within e
          where
            first : (es : List (ℕ × Framed)) (k : ℕ) → k < length es → slice_get es k ≡ None → ⊥
            first [] k lt e = absurd (omega (arith, lt))
            first (x ∷ xs) zero lt e = none≢some (sym e)
            first (x ∷ xs) (suc k) lt e = first xs k (omega (arith, lt)) e
    at_place (Some e) here = record {
      page = e.0;
      f = e.1;
      here = here;
      found = lookup_from_place nat_eq_equiv m.entries i e.0 e.1 unique here;
      free = (zoned.each i e.0 e.1 here).free past;
    }

-- where all are before the first free place, none is free
pub none_behind : (es : List (ℕ × Framed)) (z : Zones) → AreZoned z es → length es ≤ z.dirty → NoneIsFree es
none_behind es z zoned all page f found free =
    let (i, k, here, same) = place_from_lookup (nat_eq page) es f found in
    let lt : i < length es = slice_get_within es i (k, f) here in
    (zoned.each i k f here).dirty (omega (arith, lt, all)) free
