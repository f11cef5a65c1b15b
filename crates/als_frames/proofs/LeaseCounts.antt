-- How many pages are lent, after each change of a frame.
use Rattle.std.proofs.Common.{◌≡◌, ◌≢◌, ◌⊎◌, ℕ, zero, suc, ◌<◌, ◌≤◌, ◌+◌, List, Option, Some, None, nat_eq, inl, inr, refl, sym, ap, subst, ◌∙◌, arith}
use Rattle.std.specs.Map.{lookup}
use Rattle.std.specs.Option.{option_map}
use Rattle.std.proofs.lemmas.Bool.{cases_eq}
use Rattle.als_frames.specs.declared.lent.Lent.{Lent}
use Rattle.als_frames.specs.Frames.{Framed}
use Rattle.als_frames.specs.Outcomes.{IsReplaced, synced_frame}
use Rattle.als_frames.specs.Leases.{lent_in, lent_flag, count_lent}
use Rattle.als_frames.specs.Table.{Puts, Replaces, IsFresh}

-- 1 for a page that is lent, else 0
abbrev pub flag_at : List (ℕ × Framed) → ℕ → ℕ
flag_at es page = lent_flag (lent_in (lookup (nat_eq page) es))

pub count_zero : (es : List (ℕ × Framed)) → count_lent 0 es ≡ 0
unfolding count_lent
count_zero es = refl

pub count_more : (n : ℕ) (es : List (ℕ × Framed)) → count_lent (suc n) es ≡ count_lent n es + flag_at es n
unfolding count_lent
count_more n es = refl

flag-most : (l : Option Lent) → lent_flag l ≤ 1
flag-most None = omega arith
flag-most (Some l) = omega arith

-- no more pages are lent than there are
pub count_most : (n : ℕ) (es : List (ℕ × Framed)) → count_lent n es ≤ n
count_most zero es = omega (arith, count_zero es)
count_most (suc n) es =
    let flag : flag_at es n ≤ 1 = flag-most (lent_in (lookup (nat_eq n) es)) in
    omega (arith, count_more n es, count_most n es, flag)

-- each page's flag is what it was
pub count_same : (n : ℕ) (old new : List (ℕ × Framed)) → ((page : ℕ) → flag_at new page ≡ flag_at old page) → count_lent n new ≡ count_lent n old
count_same zero old new same = count_zero new ∙ sym (count_zero old)
count_same (suc n) old new same = omega (arith, count_more n old, count_more n new, count_same n old new same, same n)

-- no page is lent
pub count_unlent : (n : ℕ) (es : List (ℕ × Framed)) → ((page : ℕ) → lent_in (lookup (nat_eq page) es) ≡ None) → count_lent n es ≡ 0
count_unlent zero es none = count_zero es
count_unlent (suc n) es none =
    let flag : flag_at es n ≡ 0 = ap lent_flag (none n) in
    omega (arith, count_more n es, count_unlent n es none, flag)

-- no page has a frame
pub count_none : (n : ℕ) (es : List (ℕ × Framed)) → ((page : ℕ) → lookup (nat_eq page) es ≡ None) → count_lent n es ≡ 0
count_none n es none = count_unlent n es (λ page. ap lent_in (none page))

-- one page's flag has changed
count_below : (n page : ℕ) (old new : List (ℕ × Framed)) → n ≤ page → ((other : ℕ) → other ≢ page → flag_at new other ≡ flag_at old other) → count_lent n new ≡ count_lent n old
count_below zero page old new le others = count_zero new ∙ sym (count_zero old)
count_below (suc n) page old new le others =
    let apart : n ≢ page = λ e. absurd (omega (arith, e, le)) in
    omega (arith, count_more n old, count_more n new, count_below n page old new (omega (arith, le)) others, others n apart)

pub count_one : (n page : ℕ) (old new : List (ℕ × Framed)) → page < n → ((other : ℕ) → other ≢ page → flag_at new other ≡ flag_at old other)
    → count_lent n new + flag_at old page ≡ count_lent n old + flag_at new page
count_one zero page old new lt others = absurd (omega (arith, lt))
count_one (suc n) page old new lt others = elim (cases_eq page n) [
  | inl same ↦
      let old-is : flag_at old page ≡ flag_at old n = ap (flag_at old) same in
      let new-is : flag_at new page ≡ flag_at new n = ap (flag_at new) same in
      omega (arith, count_more n old, count_more n new, count_below n page old new (omega (arith, same)) others, old-is, new-is)
  | inr apart ↦
      let differ : n ≢ page = λ e. apart (sym e) in
      omega (arith, count_more n old, count_more n new, count_one n page old new (omega (arith, lt, apart)) others, others n differ)
]

-- the frame of a page becomes another one
pub count_puts : (n page : ℕ) (old new : List (ℕ × Framed)) (f g : Framed) → page < n → lookup (nat_eq page) old ≡ Some f → Puts old new page g
    → count_lent n new + lent_flag f.lent ≡ count_lent n old + lent_flag g.lent
count_puts n page old new f g lt was puts =
    let one = count_one n page old new lt (λ other apart. ap (λ (o : Option Framed). lent_flag (lent_in o)) (puts.others other apart)) in
    let before : flag_at old page ≡ lent_flag f.lent = ap (λ (o : Option Framed). lent_flag (lent_in o)) was in
    let after : flag_at new page ≡ lent_flag g.lent = ap (λ (o : Option Framed). lent_flag (lent_in o)) puts.frame in
    omega (arith, one, before, after)

-- a page whose lease stays as it is
pub count_kept : (n page : ℕ) (old new : List (ℕ × Framed)) (f g : Framed) → lookup (nat_eq page) old ≡ Some f → Puts old new page g → g.lent ≡ f.lent → count_lent n new ≡ count_lent n old
count_kept n page old new f g was puts kept = count_same n old new (λ other. elim (cases_eq other page) [
  | inl same ↦ subst (λ (k : ℕ). flag_at new k ≡ flag_at old k) (sym same)
      (ap (λ (o : Option Framed). lent_flag (lent_in o)) puts.frame ∙ ap lent_flag kept ∙ ap (λ (o : Option Framed). lent_flag (lent_in o)) (sym was))
  | inr apart ↦ ap (λ (o : Option Framed). lent_flag (lent_in o)) (puts.others other apart)
])

-- a page that had no frame gets one, perhaps that of a free one
pub count_replaces : (n page : ℕ) (old new : List (ℕ × Framed)) (f : Framed) → lookup (nat_eq page) old ≡ None → IsFresh f → Replaces old new page f → count_lent n new ≡ count_lent n old
count_replaces n page old new f absent fresh done = count_same n old new (λ other. elim (cases_eq other page) [
  | inl same ↦ subst (λ (k : ℕ). flag_at new k ≡ flag_at old k) (sym same)
      (ap (λ (o : Option Framed). lent_flag (lent_in o)) done.frame ∙ ap lent_flag fresh.1.1 ∙ ap (λ (o : Option Framed). lent_flag (lent_in o)) (sym absent))
  | inr apart ↦ one other (done.others other apart)
])
  where
    one : (other : ℕ) → (lookup (nat_eq other) new ≡ lookup (nat_eq other) old) ⊎ IsReplaced (lookup (nat_eq other) old) (lookup (nat_eq other) new) → flag_at new other ≡ flag_at old other
    one other (inl same) = ap (λ (o : Option Framed). lent_flag (lent_in o)) same
    one other (inr (g, was, free, gone)) =
        ap (λ (o : Option Framed). lent_flag (lent_in o)) gone ∙ ap lent_flag (sym free.1) ∙ ap (λ (o : Option Framed). lent_flag (lent_in o)) (sym was)

-- a sync leaves each lease as it is
pub count_synced : (n : ℕ) (old new : List (ℕ × Framed)) → ((page : ℕ) → lookup (nat_eq page) new ≡ option_map synced_frame (lookup (nat_eq page) old)) → count_lent n new ≡ count_lent n old
count_synced n old new synced = count_same n old new (λ page. ap (λ (o : Option Framed). lent_flag (lent_in o)) (synced page) ∙ one (lookup (nat_eq page) old))
  where
    one : (o : Option Framed) → lent_flag (lent_in (option_map synced_frame o)) ≡ lent_flag (lent_in o)
    one None = refl
    one (Some f) = refl
