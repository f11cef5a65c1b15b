-- The text of a log: its length, its parts, and that it is the text of no other log.
use Rattle.std.proofs.Common.{◌≡◌, ℕ, ◌+◌, Bool, eqb, List, [], ◌∷◌, ◌++◌, length, drop, Some, Ok, refl, sym, ap, subst, ◌∙◌, append_assoc, arith}
use Rattle.std.specs.Prelude.{IsTrue, ◌&&◌}
use Rattle.std.specs.List.{sum_by, AllByRecursion}
use Rattle.std.proofs.lemmas.Bool.{and_parts, eqb-true}
use Rattle.std.proofs.lemmas.List.{append-nil, length-append, drop_at}
use Rattle.std.proofs.Math.Bool.{and_assoc}
use Rattle.std.proofs.lemmas.List.Sums.{sum_by-cons}
use Rattle.std.proofs.lemmas.List.Concat.{flat_map-cons, flat_map-append}
use Rattle.als_record.specs.declared.record.Record.{Record}
use Rattle.als_record.specs.Spelling.{record_len, spelling, IsRecord}
use Rattle.als_record.specs.LogText.{spellings, end_of, follow_from}
use Rattle.als_record.specs.Reading.{read_record}
use Rattle.als_record.proofs.RecordLaws.{length-spelling, record_len-low}
use Rattle.als_record.proofs.ReadingLaws.{record_again, one_spelling_is}

pub spellings-nil : spellings [] ≡ []
unfolding spellings
spellings-nil = refl

pub spellings-cons : (r : Record) (log : List Record) → spellings (r ∷ log) ≡ spelling r ++ spellings log
unfolding spellings
spellings-cons r log = flat_map-cons spelling r log

pub spellings-append : (front rest : List Record) → spellings (front ++ rest) ≡ spellings front ++ spellings rest
unfolding spellings
spellings-append front rest = flat_map-append spelling front rest

pub spellings_push : (log : List Record) (r : Record) → spellings (log ++ r ∷ []) ≡ spellings log ++ spelling r
spellings_push log r = spellings-append log (r ∷ []) ∙ ap (λ (xs : List ℕ). spellings log ++ xs) (spellings-cons r [] ∙ ap (λ (xs : List ℕ). spelling r ++ xs) spellings-nil ∙ append-nil (spelling r))

-- ---- lengths

length-spellings_sum : (log : List Record) → length (spellings log) ≡ sum_by record_len log
length-spellings_sum [] = ap length spellings-nil
length-spellings_sum (r ∷ log) =
    ap length (spellings-cons r log) ∙ length-append (spelling r) (spellings log) ∙ ap (λ (k : ℕ). k + length (spellings log)) (length-spelling r) ∙ ap (λ (k : ℕ). record_len r + k) (length-spellings_sum log) ∙ sym (sum_by-cons record_len r log)

-- the end of a log is its header's 16 bytes and its records' bytes
pub end_of_is : (log : List Record) → end_of log ≡ 16 + length (spellings log)
unfolding end_of
end_of_is log = ap (λ (k : ℕ). 16 + k) (sym (length-spellings_sum log))

pub end_of_push : (log : List Record) (r : Record) → end_of (log ++ r ∷ []) ≡ end_of log + record_len r
end_of_push log r =
    let both : length (spellings (log ++ r ∷ [])) ≡ length (spellings log) + length (spelling r) = ap length (spellings_push log r) ∙ length-append (spellings log) (spelling r) in
    omega (arith, end_of_is (log ++ r ∷ []), end_of_is log, both, length-spelling r)

-- ---- records that follow one another

pub record Follows (at : ℕ) (r : Record) (log : List Record) : Type 0 where
  pub placed : r.lsn.0 ≡ at
  pub others : IsTrue (follow_from (at + record_len r) log)

pub follow-cons : (at : ℕ) (r : Record) (log : List Record) → IsTrue (follow_from at (r ∷ log)) → Follows at r log
unfolding follow_from
follow-cons at r log e =
    let parts = and_parts (eqb r.lsn.0 at) (follow_from (at + record_len r) log) e in
    record { placed = eqb-true r.lsn.0 at parts.0; others = parts.1 }

pub follow-append : (at : ℕ) (front rest : List Record) → follow_from at (front ++ rest) ≡ (follow_from at front && follow_from (at + length (spellings front)) rest)
unfolding follow_from
follow-append at [] rest = ap (λ (k : ℕ). follow_from k rest) (omega (arith, ap length spellings-nil))
follow-append at (r ∷ front) rest =
    let others = follow-append (at + record_len r) front rest in
    let place : at + record_len r + length (spellings front) ≡ at + length (spellings (r ∷ front)) = omega (arith, ap length (spellings-cons r front), length-append (spelling r) (spellings front), length-spelling r) in
    ap (λ (b : Bool). eqb r.lsn.0 at && b) (others ∙ ap (λ (k : ℕ). follow_from (at + record_len r) front && follow_from k rest) place) ∙ sym (and_assoc (eqb r.lsn.0 at) (follow_from (at + record_len r) front) (follow_from (at + length (spellings (r ∷ front))) rest))

-- the first record of a text is read, and behind it stand the others
pub first_read : (pages at : ℕ) (r : Record) (log : List Record) (rest : List ℕ) → IsTrue (follow_from at (r ∷ log)) → AllByRecursion (IsRecord pages) (r ∷ log)
    → (read_record pages at (spellings (r ∷ log) ++ rest) ≡ Ok (Some (r, record_len r))) × (drop (record_len r) (spellings (r ∷ log) ++ rest) ≡ spellings log ++ rest)
first_read pages at r log rest follows is =
    let placed = (follow-cons at r log follows).placed in
    let regrouped : spellings (r ∷ log) ++ rest ≡ spelling r ++ (spellings log ++ rest) = ap (λ (xs : List ℕ). xs ++ rest) (spellings-cons r log) ∙ append_assoc (spelling r) (spellings log) rest in
    let read = ap (λ (k : ℕ). read_record pages k (spellings (r ∷ log) ++ rest)) (sym placed) ∙ ap (read_record pages r.lsn.0) regrouped ∙ record_again pages r (spellings log ++ rest) is.0 in
    (read, ap (drop (record_len r)) regrouped ∙ drop_at (spelling r) (spellings log ++ rest) (record_len r) (length-spelling r))

-- ---- one text, one log

not_empty : (r : Record) (log : List Record) → [] ≡ spellings (r ∷ log) → ⊥
not_empty r log e = omega (arith, ap length e, ap length (spellings-cons r log), length-append (spelling r) (spellings log), length-spelling r, record_len-low r)

pub logs_once : (pages at : ℕ) (a b : List Record) → IsTrue (follow_from at a) → IsTrue (follow_from at b) → AllByRecursion (IsRecord pages) a → AllByRecursion (IsRecord pages) b → spellings a ≡ spellings b → a ≡ b
logs_once pages at [] [] fa fb ia ib e = refl
logs_once pages at [] (s ∷ b) fa fb ia ib e = absurd (not_empty s b (sym spellings-nil ∙ e))
logs_once pages at (r ∷ a) [] fa fb ia ib e = absurd (not_empty r a (sym spellings-nil ∙ sym e))
logs_once pages at (r ∷ a) (s ∷ b) fa fb ia ib e =
    let ra = follow-cons at r a fa in
    let sb = follow-cons at s b fb in
    let both = one_spelling_is pages r s (spellings a) (spellings b) ia.0 ib.0 (ra.placed ∙ sym sb.placed) (sym (spellings-cons r a) ∙ e ∙ spellings-cons s b) in
    let fb_as : IsTrue (follow_from (at + record_len r) b) = subst (λ (t : Record). IsTrue (follow_from (at + record_len t) b)) (sym both.0) sb.others in
    ap (λ (t : Record). t ∷ a) both.0 ∙ ap (λ (log : List Record). s ∷ log) (logs_once pages (at + record_len r) a b ra.others fb_as ia.1 ib.1 both.1)
