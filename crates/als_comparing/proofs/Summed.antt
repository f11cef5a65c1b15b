-- Sums of fronts of a log's text, as more of it is read.
use Rattle.std.proofs.Common.{◌≡◌, ℕ, ◌+◌, List, [], ◌∷◌, ◌++◌, length, take, sym, ap, subst, ◌∙◌, append_assoc, append-nil, take-add}
use Rattle.als_sending.specs.Reads.{Read, IsOf, AreOf}
use Rattle.als_compare.specs.declared.summary.Summary.{Summary}
use Rattle.als_compare.specs.declared.summing.Summing.{Summing}
use Rattle.als_compare.specs.Summaries.{Sums, summary_of}
use Rattle.als_comparing.specs.Summed.{SumsFront}

-- the reads before, and the last one
are_parts : (text : List ℕ) (reads : List Read) (r : Read) → AreOf text (reads ++ r ∷ []) → AreOf text reads × IsOf text r
are_parts text [] r are = (tt, are.0)
are_parts text (q ∷ reads) r are =
    let rest : AreOf text reads × IsOf text r = are_parts text reads r are.1 in
    ((are.0, rest.0), rest.1)

-- no byte yet
pub none_summed : (reads : List Read) (s : Summing) → Sums s [] → s.end ≡ 0 → SumsFront reads s
none_summed reads s none end = λ text are. subst (λ (n : ℕ). Sums s (take n text)) (sym end) none

-- one read more, of the bytes behind the front
pub one_summed : (reads : List Read) (s t : Summing) (piece : List ℕ) → ((text : List ℕ) → Sums s text → Sums t (text ++ piece))
    → t.end ≡ s.end + length piece → SumsFront reads s → SumsFront (reads ++ record { at = s.end; bytes = piece } ∷ []) t
one_summed reads s t piece add end sums = λ text are.
    let r : Read = record { at = s.end; bytes = piece } in
    let parts : AreOf text reads × IsOf text r = are_parts text reads r are in
    let grown : Sums t (take s.end text ++ piece) = add (take s.end text) (sums text parts.0) in
    let is : take t.end text ≡ take s.end text ++ piece =
    ap (λ (n : ℕ). take n text) end ∙ (take-add s.end (length piece) text ∙ ap (λ (xs : List ℕ). take s.end text ++ xs) parts.1) in
    subst (Sums t) (sym is) grown

-- nothing more was read, or more and then more
pub reads_none : (reads : List Read) → (more : List Read) × (reads ≡ reads ++ more)
reads_none reads = ([], sym (append-nil reads))

pub reads_more : (a b c : List Read) → (more : List Read) × (b ≡ a ++ more) → (more : List Read) × (c ≡ b ++ more) → (more : List Read) × (c ≡ a ++ more)
reads_more a b c (xs, first) (ys, second) =
    (xs ++ ys, second ∙ (ap (λ (v : List Read). v ++ ys) first ∙ append_assoc a xs ys))

pub reads_one : (reads : List Read) (r : Read) (now : List Read) → now ≡ reads ++ r ∷ [] → (more : List Read) × (now ≡ reads ++ more)
reads_one reads r now is = (r ∷ [], is)

-- a whole sum is that of all up to there
pub whole_front : (reads : List Read) (s : Summing) (to : ℕ) → s.end ≡ to → SumsFront reads s → (text : List ℕ) → AreOf text reads → Sums s (take to text)
whole_front reads s to end sums = λ text are. subst (λ (n : ℕ). Sums s (take n text)) end (sums text are)

-- so its summary is that of all up to there
pub whole_summary : (reads : List Read) (s : Summing) (to epoch : ℕ) (summary : Summary) → s.end ≡ to → SumsFront reads s
    → ((text : List ℕ) → Sums s text → summary ≡ summary_of epoch text) → (text : List ℕ) → AreOf text reads → summary ≡ summary_of epoch (take to text)
whole_summary reads s to epoch summary end sums is = λ text are. is (take to text) (whole_front reads s to end sums text are)
