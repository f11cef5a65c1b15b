-- Frames stand where they may after a lease begins or ends, a write and a sync.
use Rattle.std.proofs.Common.{◌≡◌, ℕ, zero, suc, ◌<◌, ◌≤◌, ◌+◌, Bool, false, true≢false, List, [], ◌∷◌, length, slice_get, Option, Some, None, nat_eq, refl, sym, ap, subst, ◌∙◌, arith}
use Rattle.std.specs.Prelude.{IsTrue}
use Rattle.std.proofs.lemmas.Bool.{cases_eq}
use Rattle.std.proofs.Common.{inl, inr}
use Rattle.std.specs.Map.{lookup}
use Rattle.std.specs.Option.{option_map}
use Rattle.std.proofs.lemmas.Map.Entries.{place_from_lookup}
use Rattle.std.proofs.lemmas.Option.{slice_get_within}
use Rattle.als_frames.specs.declared.zones.Zones.{Zones}
use Rattle.als_frames.specs.Frames.{Framed, IsFree}
use Rattle.als_frames.specs.Outcomes.{synced_frame}
use Rattle.als_record.specs.Pages.{PageState}
use Rattle.als_frames.specs.declared.lent.Lent.{Lent}
use Rattle.als_frames.specs.Leases.{lent_frame, returned_frame}
use Rattle.als_frames.specs.Table.{IsFreeAt, Puts, written_frame}
use Rattle.als_frames.specs.Zones.{AreZoned, AreZonedBut, SetsAt, Swaps}
use Rattle.als_frames.proofs.TableLists.{same_some}
use Rattle.als_frames.proofs.ZoneLaws.{one_frame, zoned_set, zoned_swapped, lent_stays, lent_moves, lent_inside, more_dirty, first_free_moves, written_stays, written_moves, more_written, first_unwritten_moves, synced_stays, synced_moves, less_written, less_dirty, last_dirty_moves}

-- a frame stands at each place
pub frame_at : (es : List (ℕ × Framed)) (i : ℕ) → i < length es → (page : ℕ) × (f : Framed) × (slice_get es i ≡ Some (page, f))
frame_at [] i lt = absurd (omega (arith, lt))
frame_at (e ∷ es) zero lt = (e.0, e.1, refl)
frame_at (e ∷ es) (suc i) lt = frame_at es i (omega (arith, lt))

-- what is known of a page's frame is known of each that is its frame
pub puts_for : (old new : List (ℕ × Framed)) (page : ℕ) (x : Framed) (change : Framed → Framed) → lookup (nat_eq page) old ≡ Some x → Puts old new page (change x)
    → (f : Framed) → lookup (nat_eq page) old ≡ Some f → Puts old new page (change f)
puts_for old new page x change found puts f here = subst (λ (g : Framed). Puts old new page (change g)) (same_some x f (sym found ∙ here)) puts

-- whether the frame at a place is free
pub is_free_there : (es : List (ℕ × Framed)) (i page : ℕ) (f : Framed) → slice_get es i ≡ Some (page, f) → IsFreeAt es i → IsFree f
is_free_there es i page f here at = subst (λ (g : Framed). IsFree g) (sym (one_frame (slice_get es i) page at.page f at.f here at.here)) at.free

pub not_free_there : (es : List (ℕ × Framed)) (i page : ℕ) (f : Framed) (b : Bool) → slice_get es i ≡ Some (page, f) → lookup (nat_eq page) es ≡ Some f → (IsFreeAt es i → IsTrue b) → b ≡ false → IsFree f → ⊥
not_free_there es i page f b here found told no' free =
    let yes' : IsTrue b = told (record { page = page; f = f; here = here; found = found; free = free }) in
    true≢false (sym yes' ∙ no')

module _ (z : Zones) (old mid : List (ℕ × Framed)) (i page : ℕ) (f : Framed) (zoned : AreZoned z old) (here : slice_get old i ≡ Some (page, f)) where
  -- a page is lent whose frame was not free
  pub lend_stays : (lent : Lent) → SetsAt old mid i page (lent_frame lent f) → i < z.dirty → AreZoned z mid
  lend_stays lent sets lt =
      zoned_set z z old i page (lent_frame lent f) zoned zoned.order zoned.within mid sets (lent_stays z i f lent (zoned.each i page f here) lt) (λ j g apart stands. stands)

  -- a page is lent whose frame was free
  pub lend_moves : (new : List (ℕ × Framed)) (lent : Lent) → SetsAt old mid i page (lent_frame lent f) → Swaps mid new i z.dirty → z.dirty ≤ i
      → AreZoned (record { written = z.written; dirty = z.dirty + 1 }) new
  lend_moves new lent sets swaps past =
      let z' : Zones = record { written = z.written; dirty = z.dirty + 1 } in
      let within : i < length old = slice_get_within old i (page, f) here in
      zoned_swapped z z' old i page (lent_frame lent f) zoned (omega (arith, zoned.order)) (omega (arith, past, within)) mid new z.dirty sets swaps
      (lent_moves z i f lent (zoned.each i page f here) z' refl refl zoned.order past)
      (λ g apart stands. first_free_moves z z' refl refl i g zoned.order past apart stands)
      (λ j g away apart stands. more_dirty z z' refl refl j g apart stands)

  -- the lease of a page ends, and its content is not older
  pub ended_but : (content : PageState) → SetsAt old mid i page (returned_frame content f) → (f.lent ≡ None → ⊥) → f.content.lsn ≤ content.lsn → AreZonedBut i z mid
  ended_but content sets lent newer =
      let stands = zoned.each i page f here in
      record {
        order = zoned.order;
        within = omega (arith, zoned.within, sets.len);
        inside = lent_inside z i f stands lent;
        page = page;
        f = returned_frame content f;
        at = record { here = sets.here; found = sets.puts.frame };
        ordered = record { synced = stands.ordered.synced; written = omega (arith, stands.ordered.written, newer) };
        unwritten = stands.unwritten;
        others = λ j other g apart at. zoned.each j other g (sym (sets.others j apart) ∙ at);
      }

  -- a write that leaves the frame where it is
  pub write_stays : SetsAt old mid i page (written_frame f) → (z.written ≤ i → z.dirty ≤ i) → AreZoned z mid
  write_stays sets so =
      zoned_set z z old i page (written_frame f) zoned zoned.order zoned.within mid sets
      (written_stays z i f zoned.order (zoned.each i page f here) so) (λ j g apart stands. stands)

  -- a write of a frame that was not written since the last sync
  pub write_moves : (new : List (ℕ × Framed)) → SetsAt old mid i page (written_frame f) → Swaps mid new i z.written → z.written ≤ i → i < z.dirty
      → AreZoned (record { written = z.written + 1; dirty = z.dirty }) new
  write_moves new sets swaps from lt =
      let z' : Zones = record { written = z.written + 1; dirty = z.dirty } in
      zoned_swapped z z' old i page (written_frame f) zoned (omega (arith, from, lt)) zoned.within mid new z.written sets swaps
      (written_moves z i f zoned.order (zoned.each i page f here) z' refl refl from lt)
      (λ g apart stands. first_unwritten_moves z z' refl refl i g from lt stands)
      (λ j g away apart stands. more_written z z' refl refl j g stands)

  -- the last frame that was written is synced, and was changed since
  pub sync_stays : i + 1 ≡ z.written → SetsAt old mid i page (synced_frame f) → (IsFree (synced_frame f) → ⊥) → AreZoned (record { written = i; dirty = z.dirty }) mid
  sync_stays last sets not_free =
      let z' : Zones = record { written = i; dirty = z.dirty } in
      let lt : i < z.dirty = omega (arith, zoned.order, last) in
      let order : i ≤ z.dirty = omega (arith, lt) in
      zoned_set z z' old i page (synced_frame f) zoned order zoned.within mid sets
      (synced_stays z f (zoned.each i page f here).ordered z' i refl lt not_free)
      (λ j g apart stands. less_written z z' last j g refl apart stands)

  -- the last frame that was written is synced, and free
  pub sync_moves : (new : List (ℕ × Framed)) (k : ℕ) → i + 1 ≡ z.written → k + 1 ≡ z.dirty → SetsAt old mid i page (synced_frame f) → Swaps mid new i k → IsFree (synced_frame f)
      → AreZoned (record { written = i; dirty = k }) new
  sync_moves new k last first sets swaps free =
      let z' : Zones = record { written = i; dirty = k } in
      let order : i ≤ k = omega (arith, zoned.order, last, first) in
      zoned_swapped z z' old i page (synced_frame f) zoned order (omega (arith, zoned.within, first)) mid new k sets swaps
      (synced_moves z f (zoned.each i page f here).ordered z' free)
      (λ g apart stands. last_dirty_moves z z' last g first zoned.order apart stands)
      (λ j g away apart stands. less_dirty z z' last j g first away apart stands)

-- ---- what a sync makes of each page's frame

synced_again : (o : Option Framed) (f : Framed) → o ≡ Some f → option_map synced_frame (Some (synced_frame f)) ≡ option_map synced_frame o
synced_again o f is = ap (option_map synced_frame) (sym is)

-- a frame that is synced now would be synced by a sync of all
pub synced_one : (old mid : List (ℕ × Framed)) (i page : ℕ) (f : Framed) → slice_get old i ≡ Some (page, f) → SetsAt old mid i page (synced_frame f)
    → (q : ℕ) → option_map synced_frame (lookup (nat_eq q) mid) ≡ option_map synced_frame (lookup (nat_eq q) old)
synced_one old mid i page f here sets q = elim (cases_eq q page) [
  | inl same ↦
      let now : lookup (nat_eq q) mid ≡ Some (synced_frame f) = ap (λ n. lookup (nat_eq n) mid) same ∙ sets.puts.frame in
      let was : lookup (nat_eq q) old ≡ Some f = ap (λ n. lookup (nat_eq n) old) same ∙ sets.was f here in
      ap (option_map synced_frame) now ∙ synced_again (lookup (nat_eq q) old) f was
  | inr apart ↦ ap (option_map synced_frame) (sets.puts.others q apart)
]

-- where none is left that was written since the last sync, each is as a sync leaves it
pub all_synced : (z : Zones) (es : List (ℕ × Framed)) → AreZoned z es → z.written ≡ 0 → (q : ℕ) → lookup (nat_eq q) es ≡ option_map synced_frame (lookup (nat_eq q) es)
all_synced z es zoned none q = by (lookup (nat_eq q) es) refl
  where
    by : (o : Option Framed) → lookup (nat_eq q) es ≡ o → o ≡ option_map synced_frame o
    by None found = refl
    by (Some f) found =
        let (i, k, here, same) = place_from_lookup (nat_eq q) es f found in
        let from : z.written ≤ i = omega (arith, none) in
        ap (λ (n : ℕ). Some (record f { synced = n })) (sym ((zoned.each i k f here).unwritten from))
