-- The list of pages that were written since the last sync.
use Rattle.std.proofs.Common.{◌≡◌, ℕ, zero, suc, ◌+◌, ◌<◌, ◌≤◌, Bool, true, false, List, [], ◌∷◌, ◌++◌, length, get_or, replicate, map, ◌⊎◌, refl, ap, sym, subst, ◌∙◌, arith, length-set, length-append, inl, inr, true≢false}
use Rattle.std.specs.Prelude.{slice_set, Contains}
use Rattle.std.proofs.lemmas.Option.{slice_get_read, get_or_from_slice_get}
use Rattle.std.proofs.lemmas.Bool.{cases_eq, cases_lt, cases_Bool}
use Rattle.std.proofs.lemmas.List.{length-map, length-replicate, get_or-map, get_or-set_same, get_or-set_other, ext_get_or}
use Rattle.std.proofs.lemmas.List.Elements.{Contains-push, Contains-append_left}
use Rattle.std.proofs.lemmas.List.Sums.{sum_by-set, sum_by-cons}
use Rattle.als_dirty.specs.declared.dirty_page.DirtyPage.{DirtyPage}
use Rattle.als_dirty.specs.Entries.{untouched_page, entry_of, after_sync}
use Rattle.als_dirty.specs.Listed.{is_on, one_if, count_on, Lists, IsListed}

count-most : (flags : List Bool) → count_on flags ≤ length flags
count-most [] = omega arith
count-most (true ∷ flags) = omega (arith, sum_by-cons one_if true flags, count-most flags)
count-most (false ∷ flags) = omega (arith, sum_by-cons one_if false flags, count-most flags)

count-none : (flags : List Bool) → ((page : ℕ) → is_on flags page ≡ true → ⊥) → count_on flags ≡ 0
count-none [] none = refl
count-none (true ∷ flags) none = absurd (none 0 refl)
count-none (false ∷ flags) none = let rest : count_on flags ≡ 0 = count-none flags (λ page on. none (suc page) on) in omega (arith, sum_by-cons one_if false flags, rest)

-- one page more
pub count-more : (flags : List Bool) (page : ℕ) → page < length flags → is_on flags page ≡ false → count_on (slice_set flags page true) ≡ count_on flags + 1
count-more flags page lt off =
    let set = sum_by-set one_if flags page true false lt in
    let zero-is : one_if (is_on flags page) ≡ 0 = ap one_if off in
    omega (arith, set, zero-is)

-- there is room for one that is not on the list
pub room-more : (pages : List DirtyPage) (flags : List Bool) (listed : List ℕ) (room page : ℕ) → page < length flags → is_on flags page ≡ false
    → IsListed pages flags listed room → length listed < room
room-more pages flags listed room page lt off h =
    let more = count-more flags page lt off in
    let most = count-most (slice_set flags page true) in
    omega (arith, more, most, length-set flags page true, h.count, h.flagged, h.room)

pub listed-more : (pages : List DirtyPage) (flags : List Bool) (listed more : List ℕ) (room page : ℕ) → page < length pages → is_on flags page ≡ false
    → more ≡ listed ++ page ∷ [] → IsListed pages flags listed room → IsListed pages (slice_set flags page true) more room
listed-more pages flags listed more room page lt off is h = rw is (record {
  few = h.few;
  flagged = length-set flags page true ∙ h.flagged;
  room = h.room;
  count = omega (arith, count-more flags page inside off, h.count, length-append listed (page ∷ []));
  clean = λ p on. elim (cases_eq p page) [
    | inl same ↦
        let now : is_on (slice_set flags page true) p ≡ true = ap (is_on (slice_set flags page true)) same ∙ get_or-set_same flags page true false inside in
        absurd (true≢false (sym now ∙ on))
    | inr ne ↦ h.clean p (sym (get_or-set_other flags page p true false ne) ∙ on)
  ];
  all = λ p on. elim (cases_eq p page) [
    | inl same ↦ subst (λ (q : ℕ). Contains (listed ++ page ∷ []) q) (sym same) (Contains-push listed page)
    | inr ne ↦ Contains-append_left listed (page ∷ []) p (h.all p (sym (get_or-set_other flags page p true false ne) ∙ on))
  ];
  in_range = λ k below. range listed page (length pages) k lt h.in_range below;
})
  where
    inside : page < length flags
    inside = omega (arith, lt, h.flagged)

    range : (xs : List ℕ) (x bound k : ℕ) → x < bound → ((i : ℕ) → i < length xs → get_or xs i 0 < bound) → k < length (xs ++ x ∷ []) → get_or (xs ++ x ∷ []) k 0 < bound
    range [] x bound zero here all below = here
    range [] x bound (suc k) here all below = absurd (omega (arith, below))
    range (y ∷ xs) x bound zero here all below = all 0 (omega arith)
    range (y ∷ xs) x bound (suc k) here all below = range xs x bound k here (λ i lt'. all (suc i) (omega (arith, lt'))) (omega (arith, below))

-- an entry is another one: of a page that is on the list, or with its image last written synced if it is not
pub entry-set : (pages : List DirtyPage) (flags : List Bool) (listed : List ℕ) (room page : ℕ) (e : DirtyPage) → page < length pages
    → (is_on flags page ≡ false → e.synced ≡ e.written) → IsListed pages flags listed room → IsListed (slice_set pages page e) flags listed room
entry-set pages flags listed room page e lt clean h = record {
  few = omega (arith, length-set pages page e, h.few);
  flagged = h.flagged ∙ sym (length-set pages page e);
  room = omega (arith, length-set pages page e, h.room);
  count = h.count;
  clean = λ p off. elim (cases_eq p page) [
    | inl same ↦
        let now : entry_of (slice_set pages page e) p ≡ e = ap (entry_of (slice_set pages page e)) same ∙ get_or-set_same pages page e untouched_page lt in
        rw now (clean (ap (is_on flags) (sym same) ∙ off))
    | inr ne ↦ rw (get_or-set_other pages page p e untouched_page ne) (h.clean p off)
  ];
  all = h.all;
  in_range = λ k below. omega (arith, length-set pages page e, h.in_range k below);
}

-- a page is put on the list, and its entry is another one
pub written-list : (pages : List DirtyPage) (flags flags' : List Bool) (listed listed' : List ℕ) (capacity page : ℕ) (e : DirtyPage) → page < length pages
    → Lists flags flags' listed listed' page → IsListed pages flags listed capacity → IsListed (slice_set pages page e) flags' listed' capacity
written-list pages flags flags' listed listed' capacity page e lt (inl (on, same, all)) h =
    rw (same, all) (entry-set pages flags listed capacity page e lt (λ off. absurd (true≢false (sym on ∙ off))) h)
written-list pages flags flags' listed listed' capacity page e lt (inr (off, more, all)) h =
    let inside : page < length flags = omega (arith, lt, h.flagged) in
    let now : is_on flags' page ≡ true = ap (λ (fs : List Bool). is_on fs page) more ∙ get_or-set_same flags page true false inside in
    entry-set pages flags' listed' capacity page e lt (λ out. absurd (true≢false (sym now ∙ out)))
    (rw more (listed-more pages flags listed listed' capacity page lt off all h))

-- the number that an index gave
pub number_at : (xs : List ℕ) (i x : ℕ) → i < length xs → x ≡ get_or xs i x → get_or xs i 0 ≡ x
number_at xs i x lt is = get_or_from_slice_get xs i x 0 (slice_get_read xs (length xs) i x refl lt is)

-- ---- a sync

-- the first pages of the list have a number among them
abbrev pub NotAmong : List ℕ → ℕ → ℕ → Type 0
NotAmong listed i page = (k : ℕ) → k < i → get_or listed k 0 ≡ page → ⊥

-- The first pages of the list are synced and off it, and the others are as they were.
pub record IsSyncedUpTo (old now : List DirtyPage) (flags flags' : List Bool) (listed : List ℕ) (i : ℕ) : Type 0 where
  pub len : length now ≡ length old
  pub flags_len : length flags' ≡ length flags
  pub each : (page : ℕ) → page < length old → (entry_of now page ≡ after_sync (entry_of old page)) ⊎ ((entry_of now page ≡ entry_of old page) × NotAmong listed i page)
  pub off : (page : ℕ) → is_on flags' page ≡ true → (is_on flags page ≡ true) × NotAmong listed i page

pub synced-start : (old : List DirtyPage) (flags : List Bool) (listed : List ℕ) → IsSyncedUpTo old old flags flags listed 0
synced-start old flags listed = record {
  len = refl;
  flags_len = refl;
  each = λ page lt. inr (refl, λ k below is. omega (arith, below));
  off = λ page on. (on, λ k below is. omega (arith, below));
}

not-more : (listed : List ℕ) (i page at : ℕ) → get_or listed i 0 ≡ at → (page ≡ at → ⊥) → NotAmong listed i page → NotAmong listed (i + 1) page
not-more listed i page at here ne before k below is =
    elim (cases_lt k i) [
      | inl lt ↦ before k lt is
      | inr le ↦
          let same : k ≡ i = omega (arith, le, below) in
          ne (sym is ∙ ap (λ (n : ℕ). get_or listed n 0) same ∙ here)
    ]

pub synced-more : (old now : List DirtyPage) (flags flags' : List Bool) (listed : List ℕ) (i at : ℕ) → get_or listed i 0 ≡ at → at < length old → length flags ≡ length old
    → IsSyncedUpTo old now flags flags' listed i → IsSyncedUpTo old (slice_set now at (after_sync (entry_of now at))) flags (slice_set flags' at false) listed (i + 1)
synced-more old now flags flags' listed i at here lt flagged h = record {
  len = length-set now at e ∙ h.len;
  flags_len = length-set flags' at false ∙ h.flags_len;
  each = λ page inside. elim (cases_eq page at) [
    | inl same ↦
        let is : entry_of (slice_set now at e) page ≡ after_sync (entry_of now at) = ap (entry_of (slice_set now at e)) same ∙ get_or-set_same now at e untouched_page at-now in
        inl (is ∙ twice at (h.each at lt) ∙ ap (λ (p : ℕ). after_sync (entry_of old p)) (sym same))
    | inr ne ↦
        let is : entry_of (slice_set now at e) page ≡ entry_of now page = get_or-set_other now at page e untouched_page ne in
        other page ne is (h.each page inside)
  ];
  off = λ page on. elim (cases_eq page at) [
    | inl same ↦
        let now-off : is_on (slice_set flags' at false) page ≡ false = ap (is_on (slice_set flags' at false)) same ∙ get_or-set_same flags' at false false at-flags in
        absurd (true≢false (sym on ∙ now-off))
    | inr ne ↦
        let before = h.off page (sym (get_or-set_other flags' at page false false ne) ∙ on) in
        (before.0, not-more listed i page at here ne before.1)
  ];
}
  where
    e : DirtyPage
    e = after_sync (entry_of now at)

    at-now : at < length now
    at-now = omega (arith, lt, h.len)

    at-flags : at < length flags'
    at-flags = omega (arith, lt, h.flags_len, flagged)

    twice : (page : ℕ) → (entry_of now page ≡ after_sync (entry_of old page)) ⊎ ((entry_of now page ≡ entry_of old page) × NotAmong listed i page)
        → after_sync (entry_of now page) ≡ after_sync (entry_of old page)
    twice page (inl is) = ap after_sync is
    twice page (inr is) = ap after_sync is.0

    other : (page : ℕ) → (page ≡ at → ⊥) → entry_of (slice_set now at e) page ≡ entry_of now page
        → (entry_of now page ≡ after_sync (entry_of old page)) ⊎ ((entry_of now page ≡ entry_of old page) × NotAmong listed i page)
        → (entry_of (slice_set now at e) page ≡ after_sync (entry_of old page)) ⊎ ((entry_of (slice_set now at e) page ≡ entry_of old page) × NotAmong listed (i + 1) page)
    other page ne is (inl done) = inl (is ∙ done)
    other page ne is (inr left) = inr (is ∙ left.0, not-more listed i page at here ne left.1)

-- no page of the list is not among all of them
among-all : (listed : List ℕ) (i page : ℕ) → length listed ≤ i → Contains listed page → NotAmong listed i page → ⊥
among-all listed i page le (k, below, is) none = none k (omega (arith, below, le)) (default listed k page below is)
  where
    default : (xs : List ℕ) (j x : ℕ) → j < length xs → get_or xs j x ≡ x → get_or xs j 0 ≡ x
    default [] j x lt e = absurd (omega (arith, lt))
    default (y ∷ xs) zero x lt e = e
    default (y ∷ xs) (suc j) x lt e = default xs j x (omega (arith, lt)) e

-- the end: the whole list was gone over
pub synced-all : (old now : List DirtyPage) (flags flags' : List Bool) (listed : List ℕ) (i room : ℕ) → length listed ≤ i → IsListed old flags listed room
    → IsSyncedUpTo old now flags flags' listed i → now ≡ map after_sync old
synced-all old now flags flags' listed i room le h s =
    ext_get_or untouched_page now (map after_sync old) (s.len ∙ sym (length-map old after_sync)) (λ page lt.
    let inside : page < length old = omega (arith, lt, s.len) in
    one page (s.each page inside) ∙ sym (get_or-map after_sync old page untouched_page untouched_page inside))
  where
    same : (e : DirtyPage) → e.synced ≡ e.written → e ≡ after_sync e
    same e is = λ j. record { synced = is j; written = e.written }

    one : (page : ℕ) → (entry_of now page ≡ after_sync (entry_of old page)) ⊎ ((entry_of now page ≡ entry_of old page) × NotAmong listed i page)
        → entry_of now page ≡ after_sync (entry_of old page)
    one page (inl is) = is
    one page (inr left) = elim (cases_Bool (is_on flags page)) [
      | inl on ↦ absurd (among-all listed i page le (h.all page on) left.1)
      | inr off ↦ left.0 ∙ same (entry_of old page) (h.clean page off)
    ]

pub listed-none : (old now : List DirtyPage) (flags flags' : List Bool) (listed : List ℕ) (i room : ℕ) → length listed ≤ i → IsListed old flags listed room
    → IsSyncedUpTo old now flags flags' listed i → IsListed now flags' [] room
listed-none old now flags flags' listed i room le h s = record {
  few = omega (arith, s.len, h.few);
  flagged = s.flags_len ∙ h.flagged ∙ sym s.len;
  room = omega (arith, s.len, h.room);
  count = sym (count-none flags' none);
  clean = λ page off. clean page;
  all = λ page on. absurd (none page on);
  in_range = λ k below. absurd (omega (arith, below));
}
  where
    none : (page : ℕ) → is_on flags' page ≡ true → ⊥
    none page on = let was = s.off page on in among-all listed i page le (h.all page was.0) was.1

    past : (pages : List DirtyPage) (page : ℕ) → length pages ≤ page → entry_of pages page ≡ untouched_page
    past [] page le' = refl
    past (e ∷ pages) zero le' = absurd (omega (arith, le'))
    past (e ∷ pages) (suc page) le' = past pages page (omega (arith, le'))

    whole : now ≡ map after_sync old
    whole = synced-all old now flags flags' listed i room le h s

    clean : (page : ℕ) → (entry_of now page).synced ≡ (entry_of now page).written
    clean page = elim (cases_lt page (length old)) [
      | inl lt ↦
          let is : entry_of now page ≡ after_sync (entry_of old page) = ap (λ (es : List DirtyPage). entry_of es page) whole ∙ get_or-map after_sync old page untouched_page untouched_page lt in
          rw is refl
      | inr ge ↦ rw (past now page (omega (arith, ge, s.len))) refl
    ]

-- a new list
pub listed-new : (pages : List DirtyPage) (flags : List Bool) (count room : ℕ) → count ≤ 4096 → pages ≡ replicate count untouched_page → flags ≡ replicate count false → count ≤ room
    → IsListed pages flags [] room
listed-new pages flags count room few are off le = rw (are, off) (record {
  few = omega (arith, few, length-replicate count untouched_page);
  flagged = length-replicate count false ∙ sym (length-replicate count untouched_page);
  room = omega (arith, le, length-replicate count untouched_page);
  count = sym (none count);
  clean = λ page is. same count page;
  all = λ page on. absurd (true≢false (sym on ∙ never count page));
  in_range = λ k below. absurd (omega (arith, below));
})
  where
    none : (n : ℕ) → count_on (replicate n false) ≡ 0
    none zero = refl
    none (suc n) = omega (arith, sum_by-cons one_if false (replicate n false), none n)

    never : (n page : ℕ) → is_on (replicate n false) page ≡ false
    never zero page = refl
    never (suc n) zero = refl
    never (suc n) (suc page) = never n page

    same : (n page : ℕ) → (entry_of (replicate n untouched_page) page).synced ≡ (entry_of (replicate n untouched_page) page).written
    same zero page = refl
    same (suc n) zero = refl
    same (suc n) (suc page) = same n page
