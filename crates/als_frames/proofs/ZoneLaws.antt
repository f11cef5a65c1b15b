-- Frames stand where they may after each change of one of them.
use Rattle.std.proofs.Common.{◌≡◌, ◌≢◌, ℕ, ◌<◌, ◌≤◌, ◌+◌, List, length, slice_get, Option, Some, None, refl, sym, ap, subst, ◌∙◌, inl, inr, arith}
use Rattle.std.proofs.lemmas.Bool.{cases_eq, cases_lt}
use Rattle.als_frames.specs.declared.zones.Zones.{Zones}
use Rattle.als_frames.specs.Frames.{Framed, IsFree}
use Rattle.als_frames.specs.Outcomes.{synced_frame}
use Rattle.als_frames.specs.declared.lent.Lent.{Lent}
use Rattle.als_frames.specs.Leases.{lent_frame}
use Rattle.als_frames.specs.Table.{Puts, written_frame}
use Rattle.als_frames.specs.Zones.{IsOrdered, StandsAt, AreZoned, SetsAt, Swaps}

abbrev frame_or : Option (ℕ × Framed) → Framed → Framed
frame_or None g = g
frame_or (Some e) g = e.1

-- the one frame at a place
pub one_frame : (o : Option (ℕ × Framed)) (page p : ℕ) (f g : Framed) → o ≡ Some (page, f) → o ≡ Some (p, g) → f ≡ g
one_frame o page p f g here at = ap (λ x. frame_or x g) (sym here ∙ at)

module _ (z z' : Zones) (old : List (ℕ × Framed)) (i page : ℕ) (f : Framed) (zoned : AreZoned z old) (order : z'.written ≤ z'.dirty) (within : z'.dirty ≤ length old) where
  -- one frame is changed, and stays where it is
  pub zoned_set : (new : List (ℕ × Framed)) → SetsAt old new i page f → StandsAt z' i f
      → ((j : ℕ) (g : Framed) → j ≢ i → StandsAt z j g → StandsAt z' j g) → AreZoned z' new
  zoned_set new sets stands keep = record {
    order = order;
    within = omega (arith, within, sets.len);
    each = λ j p g at. elim (cases_eq j i) [
      | inl same ↦
          let here : slice_get new j ≡ Some (page, f) = ap (slice_get new) same ∙ sets.here in
          subst (λ (x : Framed). StandsAt z' j x) (one_frame (slice_get new j) page p f g here at) (subst (λ (n : ℕ). StandsAt z' n f) (sym same) stands)
      | inr apart ↦ keep j g apart (zoned.each j p g (sym (sets.others j apart) ∙ at))
    ];
  }

  -- one frame is changed, and then stands in another's place
  pub zoned_swapped : (mid new : List (ℕ × Framed)) (k : ℕ) → SetsAt old mid i page f → Swaps mid new i k → StandsAt z' k f
      → ((g : Framed) → i ≢ k → StandsAt z k g → StandsAt z' i g)
      → ((j : ℕ) (g : Framed) → j ≢ i → j ≢ k → StandsAt z j g → StandsAt z' j g) → AreZoned z' new
  zoned_swapped mid new k sets swaps stands other keep = record {
    order = order;
    within = omega (arith, within, sets.len, swaps.len);
    each = λ j p g at. elim (cases_eq j k) [
      | inl same ↦
          let here : slice_get new j ≡ Some (page, f) = ap (slice_get new) same ∙ swaps.second ∙ sets.here in
          subst (λ (x : Framed). StandsAt z' j x) (one_frame (slice_get new j) page p f g here at) (subst (λ (n : ℕ). StandsAt z' n f) (sym same) stands)
      | inr apart ↦ elim (cases_eq j i) [
        | inl first ↦
            let differ : i ≢ k = λ e. apart (first ∙ e) in
            let back : k ≢ i = λ e. differ (sym e) in
            let there : slice_get old k ≡ Some (p, g) = sym (sets.others k back) ∙ sym swaps.first ∙ ap (slice_get new) (sym first) ∙ at in
            subst (λ (n : ℕ). StandsAt z' n g) (sym first) (other g differ (zoned.each k p g there))
        | inr away ↦ keep j g away apart (zoned.each j p g (sym (sets.others j away) ∙ sym (swaps.others j away apart) ∙ at))
      ]
    ];
  }

-- what one page's frame becomes, wherever it stands
pub puts_swapped : (old mid new : List (ℕ × Framed)) (i k page : ℕ) (f : Framed) → SetsAt old mid i page f → Swaps mid new i k → Puts old new page f
puts_swapped old mid new i k page f sets swaps = record {
  frame = swaps.lookups page ∙ sets.puts.frame;
  others = λ other apart. swaps.lookups other ∙ sets.puts.others other apart;
}

-- ---- a lease

module _ (z : Zones) (i : ℕ) (f : Framed) (lent : Lent) (stands : StandsAt z i f) where
  -- the frame of a lent page is not free
  never_free : IsFree (lent_frame lent f) → ⊥
  never_free free = let no' : Some lent ≡ None = free.1 in absurd cc

  lent_ordered : IsOrdered (lent_frame lent f)
  lent_ordered = record { synced = stands.ordered.synced; written = stands.ordered.written }

  pub lent_stays : i < z.dirty → StandsAt z i (lent_frame lent f)
  lent_stays lt = record { ordered = lent_ordered; dirty = λ below. never_free; free = λ le. absurd (omega (arith, lt, le)); unwritten = stands.unwritten }

  pub lent_moves : (z' : Zones) → z'.written ≡ z.written → z'.dirty ≡ z.dirty + 1 → z.written ≤ z.dirty → z.dirty ≤ i → StandsAt z' z.dirty (lent_frame lent f)
  lent_moves z' written dirty order past = record {
    ordered = lent_ordered;
    dirty = λ lt. never_free;
    free = λ le. absurd (omega (arith, le, dirty));
    unwritten = λ le. let from : z.written ≤ i = omega (arith, order, past) in stands.unwritten from;
  }

-- the frame of a lent page stands with those that are not free
pub lent_inside : (z : Zones) (i : ℕ) (f : Framed) → StandsAt z i f → (f.lent ≡ None → ⊥) → i < z.dirty
lent_inside z i f stands lent = elim (cases_lt i z.dirty) [
  | inl lt ↦ lt
  | inr le ↦ absurd (lent (stands.free le).1)
]

-- where one frame more is not free, the others stand as they may
module _ (z z' : Zones) (written : z'.written ≡ z.written) (dirty : z'.dirty ≡ z.dirty + 1) where
  pub more_dirty : (j : ℕ) (g : Framed) → j ≢ z.dirty → StandsAt z j g → StandsAt z' j g
  more_dirty j g apart stands = record {
    ordered = stands.ordered;
    dirty = λ lt. let below : j < z.dirty = omega (arith, lt, dirty, apart) in stands.dirty below;
    free = λ le. let past : z.dirty ≤ j = omega (arith, le, dirty) in stands.free past;
    unwritten = λ le. let past : z.written ≤ j = omega (arith, le, written) in stands.unwritten past;
  }

  -- the first free one takes the place of one after it
  pub first_free_moves : (i : ℕ) (g : Framed) → z.written ≤ z.dirty → z.dirty ≤ i → i ≢ z.dirty → StandsAt z z.dirty g → StandsAt z' i g
  first_free_moves i g order past apart stands = record {
    ordered = stands.ordered;
    dirty = λ lt. absurd (omega (arith, lt, dirty, past, apart));
    free = λ le. let here : z.dirty ≤ z.dirty = omega arith in stands.free here;
    unwritten = λ le. stands.unwritten order;
  }

-- ---- a write

module _ (z : Zones) (i : ℕ) (f : Framed) (order : z.written ≤ z.dirty) (stands : StandsAt z i f) where
  written_ordered : IsOrdered (written_frame f)
  written_ordered = record { synced = omega (arith, stands.ordered.synced, stands.ordered.written); written = omega arith }

  pub written_stays : (z.written ≤ i → z.dirty ≤ i) → StandsAt z i (written_frame f)
  written_stays so = record {
    ordered = written_ordered;
    dirty = stands.dirty;
    free = stands.free;
    unwritten = λ le. (stands.free (so le)).0;
  }

  pub written_moves : (z' : Zones) → z'.written ≡ z.written + 1 → z'.dirty ≡ z.dirty → z.written ≤ i → i < z.dirty → StandsAt z' z.written (written_frame f)
  written_moves z' written dirty from lt = record {
    ordered = written_ordered;
    dirty = λ below. stands.dirty lt;
    free = λ le. absurd (omega (arith, le, dirty, from, lt));
    unwritten = λ le. absurd (omega (arith, le, written));
  }

module _ (z z' : Zones) (written : z'.written ≡ z.written + 1) (dirty : z'.dirty ≡ z.dirty) where
  pub more_written : (j : ℕ) (g : Framed) → StandsAt z j g → StandsAt z' j g
  more_written j g stands = record {
    ordered = stands.ordered;
    dirty = λ lt. let below : j < z.dirty = omega (arith, lt, dirty) in stands.dirty below;
    free = λ le. let past : z.dirty ≤ j = omega (arith, le, dirty) in stands.free past;
    unwritten = λ le. let past : z.written ≤ j = omega (arith, le, written) in stands.unwritten past;
  }

  -- the first unwritten one takes the place of one after it
  pub first_unwritten_moves : (i : ℕ) (g : Framed) → z.written ≤ i → i < z.dirty → StandsAt z z.written g → StandsAt z' i g
  first_unwritten_moves i g from lt stands = record {
    ordered = stands.ordered;
    dirty = λ below. let first : z.written < z.dirty = omega (arith, from, lt) in stands.dirty first;
    free = λ le. absurd (omega (arith, le, dirty, lt));
    unwritten = λ le. let here : z.written ≤ z.written = omega arith in stands.unwritten here;
  }

-- ---- a sync

module _ (z : Zones) (f : Framed) (ordered : IsOrdered f) where
  synced_ordered : IsOrdered (synced_frame f)
  synced_ordered = record { synced = omega arith; written = ordered.written }

  -- the last written one stays, not free
  pub synced_stays : (z' : Zones) (i : ℕ) → z'.dirty ≡ z.dirty → i < z.dirty → (IsFree (synced_frame f) → ⊥) → StandsAt z' i (synced_frame f)
  synced_stays z' i dirty lt not_free = record {
    ordered = synced_ordered;
    dirty = λ below. not_free;
    free = λ le. absurd (omega (arith, le, dirty, lt));
    unwritten = λ le. refl;
  }

  -- or becomes the first free one
  pub synced_moves : (z' : Zones) → IsFree (synced_frame f) → StandsAt z' z'.dirty (synced_frame f)
  synced_moves z' free = record {
    ordered = synced_ordered;
    dirty = λ below. absurd (omega (arith, below));
    free = λ le. free;
    unwritten = λ le. refl;
  }

module _ (z z' : Zones) (written : z'.written + 1 ≡ z.written) where
  pub less_written : (j : ℕ) (g : Framed) → z'.dirty ≡ z.dirty → j ≢ z'.written → StandsAt z j g → StandsAt z' j g
  less_written j g dirty apart stands = record {
    ordered = stands.ordered;
    dirty = λ lt. let below : j < z.dirty = omega (arith, lt, dirty) in stands.dirty below;
    free = λ le. let past : z.dirty ≤ j = omega (arith, le, dirty) in stands.free past;
    unwritten = λ le. let past : z.written ≤ j = omega (arith, le, written, apart) in stands.unwritten past;
  }

  pub less_dirty : (j : ℕ) (g : Framed) → z'.dirty + 1 ≡ z.dirty → j ≢ z'.written → j ≢ z'.dirty → StandsAt z j g → StandsAt z' j g
  less_dirty j g dirty apart away stands = record {
    ordered = stands.ordered;
    dirty = λ lt. let below : j < z.dirty = omega (arith, lt, dirty) in stands.dirty below;
    free = λ le. let past : z.dirty ≤ j = omega (arith, le, dirty, away) in stands.free past;
    unwritten = λ le. let past : z.written ≤ j = omega (arith, le, written, apart) in stands.unwritten past;
  }

  -- the last one that is not free takes the place of one before it
  pub last_dirty_moves : (g : Framed) → z'.dirty + 1 ≡ z.dirty → z.written ≤ z.dirty → z'.written ≢ z'.dirty → StandsAt z z'.dirty g → StandsAt z' z'.written g
  last_dirty_moves g dirty order apart stands = record {
    ordered = stands.ordered;
    dirty = λ lt. let below : z'.dirty < z.dirty = omega (arith, dirty) in stands.dirty below;
    free = λ le. absurd (omega (arith, le, dirty, order, written, apart));
    unwritten = λ le. let past : z.written ≤ z'.dirty = omega (arith, dirty, order, written, apart) in stands.unwritten past;
  }
