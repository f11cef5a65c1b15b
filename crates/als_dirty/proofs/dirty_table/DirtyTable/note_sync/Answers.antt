use Rattle.std.proofs.Common.{◌≡◌, ◌<◌, ◌≤◌, ◌+◌, length, get_or, slice_set, false, refl, sym, ap, subst, ◌∙◌, arith}
use Rattle.std.specs.Vec.{vec_capacity}
use Rattle.als_dirty.specs.declared.dirty_page.DirtyPage.{DirtyPage}
use Rattle.als_dirty.specs.Entries.{entry_of, after_sync}
use Rattle.als_dirty.proofs.TableSteps.{entry_at, synced_kept}
use Rattle.als_dirty.proofs.ListSteps.{IsSyncedUpTo, number_at, synced-start, synced-more, synced-all, listed-none}
use Rattle.als_dirty.proofs.dirty_table.DirtyTable.note_sync.Goals as goal

pub loop-i-init : goal.loop-i-init
loop-i-init c = (refl, synced-start c.self.inside.pages.items c.self.inside.is_listed.items c.self.inside.listed.items)

pub index_mut-requires : goal.index_mut-requires
index_mut-requires c =
    let listed = c.self.inside.listed.items in
    let (same, so_far) = c.loop-i.invariant in
    let lt : c.loop-i.i < length listed = omega (arith, c.loop-i-test.true, c.len-i-end.ensures) in
    let read : c.index.result.now ≡ get_or listed c.loop-i.i c.index.result.now = rw same at c.index.ensures in
    let here = number_at listed c.loop-i.i c.index.result.now lt read in
    omega (arith, here, c.self.invariant.in_range c.loop-i.i lt, so_far.len)

pub index_mut-requires-in-loop-i : goal.index_mut-requires-in-loop-i
index_mut-requires-in-loop-i c =
    let listed = c.self.inside.listed.items in
    let (same, so_far) = c.loop-i.invariant in
    let lt : c.loop-i.i < length listed = omega (arith, c.loop-i-test.true, c.len-i-end.ensures) in
    let read : c.index.result.now ≡ get_or listed c.loop-i.i c.index.result.now = rw same at c.index.ensures in
    let here = number_at listed c.loop-i.i c.index.result.now lt read in
    omega (arith, here, c.self.invariant.in_range c.loop-i.i lt, so_far.flags_len, c.self.invariant.flagged)

pub loop-i-preserved : goal.loop-i-preserved
loop-i-preserved c =
    let old = c.self.inside.pages.items in
    let now = c.loop-i.self-inside.pages.items in
    let listed = c.self.inside.listed.items in
    let at = c.index.result.now in
    let (same, so_far) = c.loop-i.invariant in
    let lt : c.loop-i.i < length listed = omega (arith, c.loop-i-test.true, c.len-i-end.ensures) in
    let read : at ≡ get_or listed c.loop-i.i at = rw same at c.index.ensures in
    let here = number_at listed c.loop-i.i at lt read in
    let inside : at < length old = omega (arith, here, c.self.invariant.in_range c.loop-i.i lt) in
    let inside' : at < length now = omega (arith, inside, so_far.len) in
    let entry : entry_of now at ≡ c.index_mut.result.now = entry_at now at c.index_mut.result.now inside' c.index_mut.ensures.value in
    let is : after_sync (entry_of now at) ≡ c.note_sync.new.self = ap after_sync entry ∙ sym c.note_sync.ensures in (
      same,
      subst (λ (e : DirtyPage). IsSyncedUpTo old (slice_set now at e) c.self.inside.is_listed.items (slice_set c.loop-i.self-inside.is_listed.items at false) listed (c.loop-i.i + 1)) is
          (synced-more old now c.self.inside.is_listed.items c.loop-i.self-inside.is_listed.items listed c.loop-i.i at here inside c.self.invariant.flagged so_far),
    )

pub invariant_of-self : goal.invariant_of-self
invariant_of-self c =
    let (same, so_far) = c.loop-i.invariant in
    let end : length c.self.inside.listed.items ≤ c.loop-i.i = omega (arith, c.loop-i-test.false, c.len-i-end.ensures) in
    rw (c.clear.ensures.items, c.clear.ensures.capacity, same)
    (listed-none c.self.inside.pages.items c.loop-i.self-inside.pages.items c.self.inside.is_listed.items c.loop-i.self-inside.is_listed.items c.self.inside.listed.items c.loop-i.i (vec_capacity c.self.inside.listed) end c.self.invariant so_far)

pub returns-clause-value : goal.returns-clause-value
returns-clause-value c =
    let (same, so_far) = c.loop-i.invariant in
    let end : length c.self.inside.listed.items ≤ c.loop-i.i = omega (arith, c.loop-i-test.false, c.len-i-end.ensures) in
    rw (← c.self.view_is)
    (synced-all c.self.inside.pages.items c.loop-i.self-inside.pages.items c.self.inside.is_listed.items c.loop-i.self-inside.is_listed.items c.self.inside.listed.items c.loop-i.i (vec_capacity c.self.inside.listed) end c.self.invariant so_far)

pub returns-clause-kept : goal.returns-clause-kept
returns-clause-kept c =
    let (same, so_far) = c.loop-i.invariant in
    let pages = c.self.inside.pages.items in
    let end : length c.self.inside.listed.items ≤ c.loop-i.i = omega (arith, c.loop-i-test.false, c.len-i-end.ensures) in
    let whole = synced-all pages c.loop-i.self-inside.pages.items c.self.inside.is_listed.items c.loop-i.self-inside.is_listed.items c.self.inside.listed.items c.loop-i.i (vec_capacity c.self.inside.listed) end c.self.invariant so_far in
    rw (← c.self.view_is) (λ log synced written h. synced_kept log synced written pages c.loop-i.self-inside.pages.items whole h)
