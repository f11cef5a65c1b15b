-- What a source answers.
use Rattle.std.proofs.Common.{◌≡◌, ℕ, ◌≤◌, Bool, true, false, cond, List, [], ◌∷◌, length, take, refl, sym, ap, subst, ◌∙◌, arith, inl, inr, append-nil, length-take-le, Option, Some, None, Ok}
use Rattle.std.specs.Prelude.{◌⊎◌, slice_get, nat_lt, MatchOption}
use Rattle.std.proofs.lemmas.Bool.{cases_Bool, le-ltb, ltb-false}
use Rattle.sha2.specs.Sha256.{sha256}
use Rattle.als_epochs.specs.declared.step.Step.{Step}
use Rattle.als_epochs.specs.declared.step.Step.TheVariants.{Stay, Adopt}
use Rattle.als_epochs.specs.Histories.{GoesOn}
use Rattle.als_epochs.specs.HistoryLaws.{GoesOn-length, next_seal-behind, next_seal-whole}
use Rattle.als_epochs.specs.Judging.{Judges}
use Rattle.als_compare.specs.declared.summary.Summary.{Summary}
use Rattle.als_compare.specs.declared.verdict.Verdict.{Verdict}
use Rattle.als_compare.specs.declared.verdict.Verdict.TheVariants.{Same, Other, Shorter, Parted}
use Rattle.als_compare.specs.Frames.{byte_of}
use Rattle.als_compare.specs.Summaries.{summary_of}
use Rattle.als_compare.specs.Verdicts.{is_past, parts, judged_sooner, IsOfDigest, NeedsText, IsVerdict}

-- ---- whoever a session lets go on does not part

not_later : (own seals : List ℕ) → GoesOn own seals → nat_lt (length seals) (length own) ≡ false
not_later own seals goes = le-ltb (length seals) (length own) (GoesOn-length own seals goes)

does_not_part : (own seals : List ℕ) (n : ℕ) (digest : List ℕ) (next : Option ℕ) → GoesOn own seals → slice_get seals (length own) ≡ next → is_past next n ≡ false
    → parts seals (record { epoch = length own; end = n; digest = digest }) ≡ false
unfolding parts
does_not_part own seals n digest next goes is within =
    ap (λ (b : Bool). cond b true (is_past (slice_get seals (length own)) n)) (not_later own seals goes)
    ∙ (ap (λ (o : Option ℕ). is_past o n) is ∙ within)

goes_on : (own seals : List ℕ) (n : ℕ) (step : Step) (digest : List ℕ) → Judges own seals n (Ok step)
    → parts seals (record { epoch = length own; end = n; digest = digest }) ≡ false
goes_on own seals n Stay digest is =
    let none : slice_get seals (length own) ≡ None = subst (λ (xs : List ℕ). slice_get xs (length own) ≡ None) (sym is) (next_seal-whole own) in
    does_not_part own seals n digest None ([], is ∙ sym (append-nil own)) none refl
goes_on own seals n Adopt digest (seal, rest, is, within) =
    does_not_part own seals n digest (Some seal) (seal ∷ rest, is) (next_seal-behind own seals (seal ∷ rest) is) (le-ltb seal n within)

not_sooner : (seals : List ℕ) (end : ℕ) (q : Summary) → parts seals q ≡ false → q.end ≤ end → judged_sooner seals end q ≡ None
unfolding judged_sooner
not_sooner seals end q none within =
    ap (λ (b : Bool). cond b (Some Parted) (cond (nat_lt end q.end) (Some Shorter) None)) none
    ∙ ap (λ (b : Bool). cond b (Some Shorter) None) (le-ltb end q.end within)

-- ---- the answer by a digest

same_digest : (digest : List ℕ) (q : Summary) (v : Verdict) → digest ≡ q.digest → IsOfDigest digest q v → v ≡ Same
same_digest digest q Same e is = refl
same_digest digest q Other e is = absurd (is e)
same_digest digest q Shorter e is = absurd is
same_digest digest q Parted e is = absurd is

one_of_digest : (digest : List ℕ) (q : Summary) (v w : Verdict) → IsOfDigest digest q v → IsOfDigest digest q w → v ≡ w
one_of_digest digest q Same Same a b = refl
one_of_digest digest q Same Other a b = absurd (b a)
one_of_digest digest q Same Shorter a b = absurd b
one_of_digest digest q Same Parted a b = absurd b
one_of_digest digest q Other Same a b = absurd (a b)
one_of_digest digest q Other Other a b = refl
one_of_digest digest q Other Shorter a b = absurd b
one_of_digest digest q Other Parted a b = absurd b
one_of_digest digest q Shorter w a b = absurd a
one_of_digest digest q Parted w a b = absurd a

one_of : (sooner : Option Verdict) (digest : List ℕ) (q : Summary) (v w : Verdict) → MatchOption sooner (IsOfDigest digest q v) (λ s. v ≡ s)
    → MatchOption sooner (IsOfDigest digest q w) (λ s. w ≡ s) → v ≡ w
one_of None digest q v w a b = one_of_digest digest q v w a b
one_of (Some s) digest q v w a b = a ∙ sym b

-- ---- the answer

front_at : (text own seals : List ℕ) (n end m : ℕ) (step : Step) (v : Verdict) → m ≡ n → Judges own seals m (Ok step) → m ≤ end
    → MatchOption (judged_sooner seals end (record { epoch = length own; end = m; digest = sha256 (take n text) }))
    (IsOfDigest (sha256 (take m text)) (record { epoch = length own; end = m; digest = sha256 (take n text) }) v) (λ s. v ≡ s)
    → v ≡ Same
front_at text own seals n end m step v len judged within is =
    let q : Summary = record { epoch = length own; end = m; digest = sha256 (take n text) } in
    let sooner : judged_sooner seals end q ≡ None = not_sooner seals end q (goes_on own seals m step (sha256 (take n text)) judged) within in
    let of : IsOfDigest (sha256 (take m text)) q v = subst (λ (o : Option Verdict). MatchOption o (IsOfDigest (sha256 (take m text)) q v) (λ s. v ≡ s)) sooner is in
    same_digest (sha256 (take m text)) q v (ap (λ (k : ℕ). sha256 (take k text)) len) of

pub front_same : (text own seals : List ℕ) (n end : ℕ) (step : Step) (v : Verdict) → Judges own seals n (Ok step) → n ≤ length text → n ≤ end
    → IsVerdict text end seals (summary_of (length own) (take n text)) v → v ≡ Same
unfolding IsVerdict
front_same text own seals n end step v judged inside within is =
    let len : length (take n text) ≡ n = length-take-le n text inside in
    front_at text own seals n end (length (take n text)) step v len (subst (λ (k : ℕ). Judges own seals k (Ok step)) (sym len) judged) (omega (arith, len, within)) is

pub one_verdict : (text seals : List ℕ) (end : ℕ) (q : Summary) (v w : Verdict) → IsVerdict text end seals q v → IsVerdict text end seals q w → v ≡ w
unfolding IsVerdict
one_verdict text seals end q v w a b = one_of (judged_sooner seals end q) (sha256 (take q.end text)) q v w a b

-- whatever is answered by a digest was not answered sooner
sooner_cases : (seals : List ℕ) (end : ℕ) (q : Summary)
    → (judged_sooner seals end q ≡ Some Parted) ⊎ ((judged_sooner seals end q ≡ Some Shorter) ⊎ ((judged_sooner seals end q ≡ None) × (q.end ≤ end)))
unfolding judged_sooner
sooner_cases seals end q =
    let inner : Bool → Option Verdict = λ b. cond b (Some Shorter) None in
    let outer : Bool → Option Verdict = λ b. cond b (Some Parted) (inner (nat_lt end q.end)) in
    elim (cases_Bool (parts seals q)) [
      | inl holds ↦ inl (ap outer holds)
      | inr other ↦
          elim (cases_Bool (nat_lt end q.end)) [
            | inl below ↦ inr (inl (ap outer other ∙ ap inner below))
            | inr above ↦ inr (inr (ap outer other ∙ ap inner above, ltb-false end q.end above))
          ]
    ]

-- an answer below the other two is one by a digest
by_digest : (text seals : List ℕ) (end : ℕ) (q : Summary) (v : Verdict) → byte_of v ≤ 1 → IsVerdict text end seals q v
    → (q.end ≤ end) × IsOfDigest (sha256 (take q.end text)) q v
unfolding IsVerdict
by_digest text seals end q v low is =
    let P : Option Verdict → Type 0 = λ o. MatchOption o (IsOfDigest (sha256 (take q.end text)) q v) (λ s. v ≡ s) in
    elim (sooner_cases seals end q) [
      | inl parted ↦
          let e : byte_of v ≡ 3 = ap byte_of (subst P parted is) in
          absurd (omega (arith, low, e))
      | inr (inl shorter) ↦
          let e : byte_of v ≡ 2 = ap byte_of (subst P shorter is) in
          absurd (omega (arith, low, e))
      | inr (inr (none, within)) ↦ (within, subst P none is)
    ]

pub other_differs : (text seals held : List ℕ) (epoch end : ℕ) → IsVerdict text end seals (summary_of epoch held) Other
    → (length held ≤ end) × (take (length held) text ≡ held → ⊥)
other_differs text seals held epoch end is =
    let (within, differs) = by_digest text seals end (summary_of epoch held) Other (omega arith) is in
    (within, λ same. differs (ap sha256 same))

pub same_digests : (text seals held : List ℕ) (epoch end : ℕ) → IsVerdict text end seals (summary_of epoch held) Same
    → sha256 (take (length held) text) ≡ sha256 held
same_digests text seals held epoch end is =
    let (within, same) = by_digest text seals end (summary_of epoch held) Same (omega arith) is in same

-- the text decides
pub text_answers : (text seals : List ℕ) (end : ℕ) (q s : Summary) (v : Verdict) → NeedsText seals end q → s ≡ summary_of q.epoch (take q.end text)
    → IsOfDigest s.digest q v → IsVerdict text end seals q v
unfolding IsVerdict
text_answers text seals end q s v needs is of =
    subst (λ (o : Option Verdict). MatchOption o (IsOfDigest (sha256 (take q.end text)) q v) (λ w. v ≡ w)) (sym needs.undecided)
    (subst (λ (t : Summary). IsOfDigest t.digest q v) is of)

-- ---- how a log begins

pub begins_otherwise : (text seals held : List ℕ) (n end : ℕ) → n ≤ length held → IsVerdict text end seals (summary_of 0 (take n held)) Other
    → take n text ≡ take n held → ⊥
begins_otherwise text seals held n end inside is same =
    let len : length (take n held) ≡ n = length-take-le n held inside in
    let (within, differs) = other_differs text seals (take n held) 0 end is in
    differs (ap (λ (k : ℕ). take k text) len ∙ same)

pub begins_alike : (text seals held : List ℕ) (n end : ℕ) (step : Step) (v : Verdict) → Judges [] seals n (Ok step) → n ≤ length text → n ≤ end
    → take n text ≡ take n held → IsVerdict text end seals (summary_of 0 (take n held)) v → v ≡ Same
begins_alike text seals held n end step v judged inside within same is =
    front_same text [] seals n end step v judged inside within (subst (λ (xs : List ℕ). IsVerdict text end seals (summary_of 0 xs) v) (sym same) is)
