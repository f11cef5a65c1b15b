-- What each call leaves of one page, for a log.
use Rattle.std.proofs.Common.{◌≡◌, ◌⊎◌, ℕ, ◌-◌, ◌<◌, ◌≤◌, List, [], ◌∷◌, ◌++◌, Option, Some, None, inl, inr, refl, sym, ap, subst, ◌∙◌, arith}
use Rattle.std.specs.List.{AllByRecursion}
use Rattle.std.specs.Option.{option_map}
use Rattle.std.proofs.lemmas.Option.{same_Some}
use Rattle.als_record.specs.declared.lsn.Lsn.{Lsn}
use Rattle.als_record.specs.declared.change.Change.{Change}
use Rattle.als_record.specs.declared.record.Body.{Body}
use Rattle.als_record.specs.declared.record.Body.TheVariants.{Update, Compensation, Commit, Rollback, End, BeginCheckpoint, EndCheckpoint, Prepare}
use Rattle.als_record.specs.declared.record.Record.{Record}
use Rattle.als_record.specs.LogText.{end_of, IsLog}
use Rattle.als_record.specs.Pages.{PageState, change_in, change_of, changes_on, changes_above, lsn_after}
use Rattle.als_record.proofs.PageLaws.{end_of-push, changes_on-same, changes_above-push, changes_above-front, lsn-fold}
use Rattle.als_frames.specs.Frames.{Framed, clean_frame}
use Rattle.als_frames.specs.Images.{lsn_or, written_or}
use Rattle.als_frames.specs.Outcomes.{synced_frame}
use Rattle.als_frames.specs.declared.lent.Lent.{Lent}
use Rattle.als_page.specs.Changes.{redone_all}
use Rattle.als_dirty.specs.declared.dirty_page.DirtyPage.{DirtyPage}
use Rattle.als_dirty.specs.Entries.{first_of, after_record, after_write, after_sync, after_load}
use Rattle.als_dirty.specs.Images.{first_lsn, IsDirtyPageOf}
use Rattle.als_dirty.proofs.ImageSteps.{changes_above-other}
use Rattle.als_dirty.proofs.TableSteps.{page-push, page-other, page-write, page-sync, page-load}
use Rattle.als_pool.specs.Queues.{above}
use Rattle.als_pool.specs.Images.{IsRead, IsPageOf}
use Rattle.als_pool.proofs.Waiting.{above-log, above-same, all-lower}

-- a page by equal parts
pub page-cong : (log : List Record) (p : ℕ) (o o' : Option Framed) (s s' : ℕ) (e e' : DirtyPage) (w w' : List Change) (u u' : Option Lsn) → o' ≡ o → s' ≡ s → e' ≡ e → w' ≡ w → u' ≡ u
    → IsPageOf log p o s e w u → IsPageOf log p o' s' e' w' u'
page-cong log p o o' s s' e e' w w' u u' oe se ee we ue h =
    subst (λ (x : Option Framed). IsPageOf log p x s' e' w' u') (sym oe)
    (subst (λ (x : ℕ). IsPageOf log p o x e' w' u') (sym se)
    (subst (λ (x : DirtyPage). IsPageOf log p o s x w' u') (sym ee)
    (subst (λ (x : List Change). IsPageOf log p o s e x u') (sym we)
    (subst (λ (x : Option Lsn). IsPageOf log p o s e w x) (sym ue) h))))

-- ---- a record more

-- the change of a record has its LSN
in_lsn : (r : Record) (b : Body) (c : Change) → change_in r b ≡ Some c → c.lsn ≡ r.lsn
in_lsn r (Update key before after) c is = sym (ap (λ (x : Change). x.lsn) (same_Some _ c is))
in_lsn r (Compensation undo_next key after) c is = sym (ap (λ (x : Change). x.lsn) (same_Some _ c is))
in_lsn r Commit c is = absurd cc
in_lsn r Rollback c is = absurd cc
in_lsn r End c is = absurd cc
in_lsn r BeginCheckpoint c is = absurd cc
in_lsn r (EndCheckpoint transactions pages) c is = absurd cc
in_lsn r Prepare c is = absurd cc

pub change_lsn : (r : Record) (c : Change) → change_of r ≡ Some c → c.lsn ≡ r.lsn
change_lsn r c is = in_lsn r r.body c is

pub first_lsn-push : (cs : List Change) (c : Change) → first_lsn (cs ++ c ∷ []) ≡ first_of (first_lsn cs) c.lsn
first_lsn-push [] c = refl
first_lsn-push (d ∷ cs) c = refl

all-push : (P : Change → Type 0) (cs : List Change) (c : Change) → AllByRecursion P cs → P c → AllByRecursion P (cs ++ c ∷ [])
all-push P [] c all last = (last, tt)
all-push P (d ∷ cs) c all last = (all.0, all-push P cs c all.1 last)

module _ (log : List Record) (r : Record) (placed : r.lsn.0 ≡ end_of log) where
  longer : end_of log ≤ end_of (log ++ r ∷ [])
  longer = omega (arith, end_of-push log r)

  -- what waits for a page, with the record's changes of it
  pub more_waits : (p lsn : ℕ) (w : List Change) → lsn < end_of log → w ≡ changes_above log p lsn → w ++ changes_on p (r ∷ []) ≡ changes_above (log ++ r ∷ []) p lsn
  more_waits p lsn w lt is =
      ap (λ (cs : List Change). cs ++ changes_on p (r ∷ [])) is ∙ sym (changes_above-push log r p lsn (omega (arith, lt, placed)))

  pub pushed-row : (c : Change) (from : Lsn) (e : DirtyPage) (w : List Change) → (e.synced ≡ Some from) ⊎ (e.synced ≡ first_lsn w)
      → (first_of e.synced c.lsn ≡ Some from) ⊎ (first_of e.synced c.lsn ≡ first_lsn (w ++ c ∷ []))
  pushed-row c from e w (inl is) = inl (ap (λ (n : Option Lsn). first_of n c.lsn) is)
  pushed-row c from e w (inr is) = inr (ap (λ (n : Option Lsn). first_of n c.lsn) is ∙ sym (first_lsn-push w c))

  -- a row that a checkpoint gave stays below the log's end
  more-row : (c : Change) (from : Lsn) (e : DirtyPage) (w : List Change) → ((e.synced ≡ Some from) × (from.0 < end_of log)) ⊎ (e.synced ≡ first_lsn w)
      → ((first_of e.synced c.lsn ≡ Some from) × (from.0 < end_of (log ++ r ∷ []))) ⊎ (first_of e.synced c.lsn ≡ first_lsn (w ++ c ∷ []))
  more-row c from e w (inl is) = let lt : from.0 < end_of (log ++ r ∷ []) = omega (arith, is.1, longer) in inl (ap (λ (n : Option Lsn). first_of n c.lsn) is.0, lt)
  more-row c from e w (inr is) = inr (ap (λ (n : Option Lsn). first_of n c.lsn) is ∙ sym (first_lsn-push w c))

  same-row : (from : Lsn) (e : DirtyPage) (w : List Change) → ((e.synced ≡ Some from) × (from.0 < end_of log)) ⊎ (e.synced ≡ first_lsn w)
      → ((e.synced ≡ Some from) × (from.0 < end_of (log ++ r ∷ []))) ⊎ (e.synced ≡ first_lsn w)
  same-row from e w (inl is) = let lt : from.0 < end_of (log ++ r ∷ []) = omega (arith, is.1, longer) in inl (is.0, lt)
  same-row from e w (inr is) = inr is

  -- that changes the page
  pub pushed : (c : Change) (o : Option Framed) (s : ℕ) (e : DirtyPage) (w : List Change) (u : Option Lsn) → change_of r ≡ Some c → s < end_of log → lsn_or o s < end_of log
      → IsPageOf log c.key.page o s e w u → IsPageOf (log ++ r ∷ []) c.key.page o s (after_record e c.lsn) (w ++ c ∷ []) u
  pushed c o s e w None is lt lt' h = record {
    row = page-push log r c s (written_or o s) e placed is h.row;
    wait = ap (λ (cs : List Change). w ++ cs) (sym (changes_on-same c.key.page r c is refl)) ∙ more_waits c.key.page (lsn_or o s) w lt' h.wait;
  }
  pushed c o s e w (Some from) is lt lt' h =
      let on : changes_on c.key.page (r ∷ []) ≡ c ∷ [] = changes_on-same c.key.page r c is refl in
      let at : c.lsn.0 ≡ end_of log = ap (λ (l : Lsn). l.0) (change_lsn r c is) ∙ placed in
      let low : from.0 - 1 < end_of log = omega (arith, h.first, h.reached) in
      let here : from.0 ≤ c.lsn.0 = omega (arith, at, h.reached) in
      record {
        absent = h.absent;
        first = h.first;
        reached = omega (arith, h.reached, longer);
        lacks = subst (λ (cs : List Change). AllByRecursion (λ d. from.0 ≤ d.lsn.0) cs) (ap (λ (cs : List Change). changes_above log c.key.page s ++ cs) (sym on) ∙ more_waits c.key.page s (changes_above log c.key.page s) lt refl)
            (all-push (λ d. from.0 ≤ d.lsn.0) (changes_above log c.key.page s) c h.lacks here);
        wait = ap (λ (cs : List Change). w ++ cs) (sym on) ∙ more_waits c.key.page (from.0 - 1) w low h.wait;
        row = more-row c from e w h.row;
        one = ap (λ (n : Option Lsn). first_of n c.lsn) h.one;
      }

  -- that does not
  pub passed : (p : ℕ) (o : Option Framed) (s : ℕ) (e : DirtyPage) (w : List Change) (u : Option Lsn) → changes_on p (r ∷ []) ≡ []
      → IsPageOf log p o s e w u → IsPageOf (log ++ r ∷ []) p o s e w u
  passed p o s e w None none h = record {
    row = page-other log r p s (written_or o s) e none h.row;
    wait = h.wait ∙ sym (changes_above-other log r p (lsn_or o s) none);
  }
  passed p o s e w (Some from) none h = record {
    absent = h.absent;
    first = h.first;
    reached = omega (arith, h.reached, longer);
    lacks = subst (λ (cs : List Change). AllByRecursion (λ d. from.0 ≤ d.lsn.0) cs) (sym (changes_above-other log r p s none)) h.lacks;
    wait = h.wait ∙ sym (changes_above-other log r p (from.0 - 1) none);
    row = same-row from e w h.row;
    one = h.one;
  }

-- ---- calls

module _ (log : List Record) (p : ℕ) where
  no-frame : (o : Option Framed) (f : Framed) → o ≡ Some f → o ≡ None → ⊥
  no-frame o f is none = let no' : Some f ≡ None = sym is ∙ none in absurd cc

  -- a resident page was read
  pub read-it : (f : Framed) (s : ℕ) (e : DirtyPage) (w : List Change) (u : Option Lsn) → IsPageOf log p (Some f) s e w u → (u ≡ None) × IsRead log p (Some f) s e w
  read-it f s e w None h = (refl, h)
  read-it f s e w (Some from) h = absurd (no-frame (Some f) f refl h.absent)

  -- the first changes that wait are redone
  pub redone-page : (f : Framed) (s : ℕ) (e : DirtyPage) (w front left : List Change) (u : Option Lsn) (pages : ℕ) → IsLog pages log → w ≡ front ++ left
      → IsPageOf log p (Some f) s e w u → IsPageOf log p (Some (record f { content = redone_all f.content front; lent = None })) s e left u
  redone-page f s e w front left u pages is_log waited h =
      let (none, it) = read-it f s e w u h in
      let passes = changes_above-front log p f.content.lsn front left is_log.laid_out (sym it.wait ∙ waited) in
      let lsn-is : lsn_after f.content.lsn front ≡ (redone_all f.content front).lsn = sym (lsn-fold f.content front) in
      subst (λ (x : Option Lsn). IsPageOf log p (Some (record f { content = redone_all f.content front; lent = None })) s e left x) (sym none) (record {
        row = it.row;
        wait = sym passes.changes_then ∙ ap (λ (n : ℕ). changes_above log p n) lsn-is;
      })

  -- the lease of the page begins or ends
  pub marked-page : (f : Framed) (l : Option Lent) (s : ℕ) (e : DirtyPage) (w : List Change) (u : Option Lsn)
      → IsPageOf log p (Some f) s e w u → IsPageOf log p (Some (record f { lent = l })) s e w u
  marked-page f l s e w u h =
      let (none, it) = read-it f s e w u h in
      subst (λ (x : Option Lsn). IsPageOf log p (Some (record f { lent = l })) s e w x) (sym none) (record { row = it.row; wait = it.wait })

  -- the page is written
  pub stored-page : (f : Framed) (s : ℕ) (e : DirtyPage) (w : List Change) (u : Option Lsn) → f.written ≤ f.content.lsn → f.content.lsn < end_of log
      → IsPageOf log p (Some f) s e w u → IsPageOf log p (Some (record f { written = f.content.lsn })) s (after_write e (first_lsn w)) w u
  stored-page f s e w u le lt h =
      let (none, it) = read-it f s e w u h in
      subst (λ (x : Option Lsn). IsPageOf log p (Some (record f { written = f.content.lsn })) s (after_write e (first_lsn w)) w x) (sym none) (record {
        row = page-write log p s f.written f.content.lsn e (first_lsn w) it.row le (record { reached = lt; first = ap first_lsn it.wait });
        wait = it.wait;
      })

  -- the device is synced
  pub synced-page : (o : Option Framed) (s : ℕ) (e : DirtyPage) (w : List Change) (u : Option Lsn) → IsPageOf log p o s e w u
      → IsPageOf log p (option_map synced_frame o) (written_or o s) (after_sync e) w u
  synced-page None s e w None h = record { row = page-sync log p s s e h.row; wait = h.wait }
  synced-page (Some f) s e w None h = record { row = page-sync log p s f.written e h.row; wait = h.wait }
  synced-page (Some f) s e w (Some from) h = absurd (no-frame (Some f) f refl h.absent)
  synced-page None s e w (Some from) h = record {
    absent = refl;
    first = h.first;
    reached = h.reached;
    lacks = h.lacks;
    wait = h.wait;
    row = rowed h.row;
    one = refl;
  }
    where
      rowed : ((e.synced ≡ Some from) × (from.0 < end_of log)) ⊎ (e.synced ≡ first_lsn w) → ((e.written ≡ Some from) × (from.0 < end_of log)) ⊎ (e.written ≡ first_lsn w)
      rowed (inl is) = inl (h.one ∙ is.0, is.1)
      rowed (inr is) = inr (h.one ∙ is)

  -- the page is read into a frame
  left-above : (o : Option Framed) (s : ℕ) (e : DirtyPage) (w : List Change) (u : Option Lsn) → o ≡ None → IsPageOf log p o s e w u → above s w ≡ changes_above log p s
  left-above o s e w None absent h =
      ap (above s) (h.wait ∙ ap (λ (x : Option Framed). changes_above log p (lsn_or x s)) absent) ∙ above-same log p s
  left-above o s e w (Some from) absent h =
      let low : from.0 - 1 < from.0 = omega (arith, h.first) in
      ap (above s) h.wait ∙ above-log log p (from.0 - 1) s (all-lower (from.0 - 1) from.0 (changes_above log p s) low h.lacks)

  pub loaded-page : (o : Option Framed) (s : ℕ) (e : DirtyPage) (w : List Change) (u : Option Lsn) (content : PageState) → o ≡ None → content.lsn ≡ s → s < end_of log
      → IsPageOf log p o s e w u → IsPageOf log p (Some (clean_frame p content)) s (after_load (first_lsn (above content.lsn w))) (above content.lsn w) None
  loaded-page o s e w u content absent lsn lt h =
      let left : above content.lsn w ≡ changes_above log p s = ap (λ (n : ℕ). above n w) lsn ∙ left-above o s e w u absent h in
      record {
        row = subst (λ (n : ℕ). IsDirtyPageOf log p s n (after_load (first_lsn (above content.lsn w)))) (sym lsn)
            (page-load log p s (first_lsn (above content.lsn w)) (record { reached = lt; first = ap first_lsn left }));
        wait = left ∙ ap (λ (n : ℕ). changes_above log p n) (sym lsn);
      }

  -- a free frame is taken from it
  pub replaced-page : (f : Framed) (s : ℕ) (e : DirtyPage) (w : List Change) (u : Option Lsn) → f.written ≡ s → f.content.lsn ≡ s
      → IsPageOf log p (Some f) s e w u → IsPageOf log p None s e w u
  replaced-page f s e w u written now h =
      let (none, it) = read-it f s e w u h in
      subst (λ (x : Option Lsn). IsPageOf log p None s e w x) (sym none) (record {
        row = subst (λ (n : ℕ). IsDirtyPageOf log p s n e) written it.row;
        wait = it.wait ∙ ap (λ (n : ℕ). changes_above log p n) now;
      })
