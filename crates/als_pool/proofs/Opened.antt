-- What the blocks of a pool that was opened hold, for a log.
use Rattle.std.proofs.Common.{◌≡◌, ◌⊎◌, ℕ, ◌<◌, ◌≤◌, List, [], ◌∷◌, ◌++◌, length, Option, Some, None, inl, inr, refl, sym, ap, subst, ◌∙◌, length-set, arith}
use Rattle.std.specs.Prelude.{Contains, MatchOption}
use Rattle.std.specs.List.{AllByRecursion}
use Rattle.std.proofs.lemmas.Bool.{cases_lt}
use Rattle.als_record.specs.declared.lsn.Lsn.{Lsn}
use Rattle.als_record.specs.declared.change.Change.{Change}
use Rattle.als_record.specs.declared.record.Record.{Record}
use Rattle.als_record.specs.declared.rows.LoggedPage.{LoggedPage}
use Rattle.als_record.specs.LogText.{end_of}
use Rattle.als_record.specs.Pages.{changes_above}
use Rattle.als_disk.specs.Slot.{Slot, only}
use Rattle.als_frames.specs.Frames.{Paged, frame_of, without_frames}
use Rattle.als_frames.specs.Images.{synced_lsn, IsStoredAt, AreFramesOf}
use Rattle.als_frames.proofs.Keeping.{opened, synced_is}
use Rattle.als_pool.specs.Queues.{pending_of}
use Rattle.als_pool.specs.Pooled.{Pooled, unread_of}
use Rattle.als_pool.specs.Outcomes.{with_change}
use Rattle.als_pool.specs.Images.{LacksFrom, AllLackFrom}
use Rattle.als_pool.specs.Restart.{start_of, IsOpened, IsImageFrom, HasRowsFrom, HoldsImagesFrom, HoldsImagesOf, CoversPages}
use Rattle.als_pool.proofs.PoolSteps.{respelled}
use Rattle.als_pool.proofs.PoolLaws.{log-start}
use Rattle.als_pool.proofs.StartRows.{start-reached}
use Rattle.als_pool.proofs.Restarting.{opened-length, opened_rows, rows-route, row_start}

module _ (log : List Record) (below pages most blocks failures attempts : ℕ) (position : Lsn) (rows : List LoggedPage) (slots : ℕ → Slot) (h : HoldsImagesFrom log below pages position rows slots) where
  -- the only content of a page's block
  image : (page : ℕ) → (lt : page < pages) → IsImageFrom log page below (start_of position rows page) (h.settled page lt).0
  image page lt = h.images page (h.settled page lt).0 lt (subst (λ (s : Slot). Contains s.candidates (h.settled page lt).0) (sym (h.settled page lt).1) (0, omega arith, refl))

  -- the page_LSN of each page's image
  abbrev lsn-by : (page : ℕ) → (page < pages) ⊎ (pages ≤ page) → ℕ
  lsn-by page (inl lt) = (image page lt).lsn
  lsn-by page (inr le) = 0

  abbrev lsn-of : ℕ → ℕ
  lsn-of page = lsn-by page (cases_lt page pages)

  stored-by : (page : ℕ) (at : (page < pages) ⊎ (pages ≤ page)) → page < pages → IsStoredAt log page below (lsn-by page at) (slots page)
  stored-by page (inl lt) _ = record { stable = (image page lt).stable; settled = (h.settled page lt).1 ∙ ap only (image page lt).spelled }
  stored-by page (inr le) lt = absurd (omega (arith, le, lt))

  lacks-by : (page : ℕ) (at : (page < pages) ⊎ (pages ≤ page)) → page < pages → AllByRecursion (λ c. (start_of position rows page).0 ≤ c.lsn.0) (changes_above log page (lsn-by page at))
  lacks-by page (inl lt) _ = (image page lt).lacks
  lacks-by page (inr le) lt = absurd (omega (arith, le, lt))

  abbrev stored : Paged
  stored = without_frames pages most slots blocks failures attempts

  are : AreFramesOf log lsn-of below stored
  are = opened log lsn-of below pages most blocks failures attempts slots h.is_log (λ page lt. stored-by page (cases_lt page pages) lt)

  pub opened_holds : (v : Pooled) → IsOpened stored position rows v → HoldsImagesOf log below v
  opened_holds v is = record {
    frames = subst (λ (f : Paged). AreFramesOf log (synced_lsn f) below f) (sym is.frames) (respelled log lsn-of below stored are);
    lacks = each;
    position = position;
    rows = rows;
    given = opened_rows stored position rows v is refl;
    reached = h.reached;
    listed = h.listed;
  }
    where
      each : AllLackFrom log v
      each page lt =
          let lt' : page < pages = omega (arith, lt, opened-length stored position rows v is) in
          let same : synced_lsn v.frames page ≡ lsn-of page = ap (λ (f : Paged). synced_lsn f page) is.frames ∙ synced_is log lsn-of below stored page lt' are in
          let it : LacksFrom log page (frame_of v.frames page) (synced_lsn v.frames page) (start_of position rows page) = record {
            absent = ap (λ (f : Paged). frame_of f page) is.frames;
            reached = start-reached rows position page (end_of log) h.reached (log-start log) h.listed;
            lacks = subst (λ (n : ℕ). AllByRecursion (λ c. (start_of position rows page).0 ≤ c.lsn.0) (changes_above log page n)) (sym same) (lacks-by page (cases_lt page pages) lt');
          } in
          subst (λ (u : Option Lsn). MatchOption u ⊥ (λ from. LacksFrom log page (frame_of v.frames page) (synced_lsn v.frames page) from)) (sym (is.starts page lt')) it

-- a change is routed
pub holds-route : (log : List Record) (below : ℕ) (v : Pooled) (c : Change) → c.key.page < length v.waits → HoldsImagesOf log below v → HoldsImagesOf log below (with_change v c)
holds-route log below v c inside h = record {
  frames = h.frames;
  lacks = λ page lt. h.lacks page (omega (arith, length-set v.waits c.key.page (pending_of v.waits c.key.page ++ c ∷ []), lt));
  position = h.position;
  rows = h.rows;
  given = rows-route h.position h.rows v c inside h.given;
  reached = h.reached;
  listed = h.listed;
}

-- the checkpoint that a pool was opened with covers its pages
pub opened_covers : (log : List Record) (below : ℕ) (position : Lsn) (rows : List LoggedPage) (v : Pooled) → HoldsImagesOf log below v → HasRowsFrom position rows v → CoversPages log position rows v
opened_covers log below position rows v h given page lt = at (unread_of v.unread page) refl (h.lacks page lt)
  where
    at : (u : Option Lsn) → unread_of v.unread page ≡ u → MatchOption u ⊥ (λ from. LacksFrom log page (frame_of v.frames page) (synced_lsn v.frames page) from)
        → AllByRecursion (λ c. (start_of position rows page).0 ≤ c.lsn.0) (changes_above log page (synced_lsn v.frames page))
    at None is lacks = absurd lacks
    at (Some from) is lacks =
        subst (λ (l : Lsn). AllByRecursion (λ c. l.0 ≤ c.lsn.0) (changes_above log page (synced_lsn v.frames page))) (row_start position rows v page from given lt is) lacks.lacks
