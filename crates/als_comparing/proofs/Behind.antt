-- What a stream had before its first byte was read.
use Rattle.std.proofs.Common.{◌≡◌, ◌⊎◌, ℕ, List, [], ◌∷◌, Option, Some, None, refl, ap, subst, sym, inl, inr}
use Rattle.std.specs.Io.KnownBytes.{Consumes, Appends}
use Rattle.std.specs.Fmt.{option_append}
use Rattle.std.proofs.KnownBytes.{Keeps-refl, Appends-nil, Consumes-trans}
use Rattle.als_ship.specs.declared.fault.Fault.{Fault}
use Rattle.als_ship.specs.declared.fault.Fault.TheVariants.{Cut, Stream}
use Rattle.als_sending.specs.Reads.{Read}
use Rattle.als_sending.specs.Meeting.{FailsToSend}
use Rattle.als_sending.specs.Session.{IsUnbegun}
use Rattle.als_compare.specs.Frames.{rest_bytes}
use Rattle.als_compare.specs.Ranks.{rank_of, rank_bytes}
use Rattle.als_comparing.specs.Answers.{Answers, AnswersRest, AnswersOne}
use Rattle.als_comparing.specs.Serving.{AreKnownAs, BeginsQuestion, IsAsked, IsServed, EndsWell, FailsToServe}

-- what was read and what is left are what there was, where that is known
pub known_again : (old mid : Option (List ℕ)) (bytes : List ℕ) → Consumes old mid bytes → AreKnownAs old (option_append (Some bytes) mid)
known_again None mid bytes c = inl refl
known_again (Some xs) None bytes c = absurd c
known_again (Some xs) (Some ys) bytes c = inr (ap Some c)

-- it began with V or R
begins_asked : (old mid : Option (List ℕ)) (byte : ℕ) → Consumes old mid (byte ∷ []) → (byte ≡ 86) ⊎ (byte ≡ 82) → BeginsQuestion old
begins_asked None mid byte c is = tt
begins_asked (Some xs) None byte c is = absurd c
begins_asked (Some xs) (Some ys) byte c is = (byte, ys, is, c)

pub begins_question : (old mid : Option (List ℕ)) (byte : ℕ) → Consumes old mid (byte ∷ []) → byte ≡ 86 → BeginsQuestion old
begins_question old mid byte c e = begins_asked old mid byte c (inl e)

pub begins_rank_question : (old mid : Option (List ℕ)) (byte : ℕ) → Consumes old mid (byte ∷ []) → byte ≡ 82 → BeginsQuestion old
begins_rank_question old mid byte c e = begins_asked old mid byte c (inr e)

-- the question is whole
pub whole_question : (reads : List Read) (end : ℕ) (own : List ℕ) (asked mid behind old new : Option (List ℕ)) (byte : ℕ) → Consumes asked mid (byte ∷ []) → byte ≡ 86
    → AnswersRest reads end own mid behind old new → Answers reads end own asked behind old new
whole_question reads end own asked mid behind old new byte first is rest =
    let v : Consumes asked mid (86 ∷ []) = subst (λ (b : ℕ). Consumes asked mid (b ∷ [])) is first in
    record {
      question = rest.question;
      verdict = rest.verdict;
      read = Consumes-trans asked mid behind (86 ∷ []) (rest_bytes rest.question) v rest.read;
      written = rest.written;
      right = rest.right;
    }

-- one of the two questions was answered
pub one_answered : (reads : List Read) (end : ℕ) (own : List ℕ) (asked mid behind old new : Option (List ℕ)) (byte : ℕ) → Consumes asked mid (byte ∷ []) → byte ≡ 86
    → AnswersRest reads end own mid behind old new → AnswersOne reads end own asked behind old new
one_answered reads end own asked mid behind old new byte first is rest = inl (whole_question reads end own asked mid behind old new byte first is rest)

pub one_told : (reads : List Read) (end : ℕ) (own : List ℕ) (asked mid old new : Option (List ℕ)) (byte : ℕ) → Consumes asked mid (byte ∷ []) → byte ≡ 82
    → Appends old new (rank_bytes (rank_of own end)) → AnswersOne reads end own asked mid old new
one_told reads end own asked mid old new byte first is told =
    let r : Consumes asked mid (82 ∷ []) = subst (λ (b : ℕ). Consumes asked mid (b ∷ [])) is first in
    inr (record { read = r; written = told })

-- so it ended well, as a question
pub ends_answered : (pages end : ℕ) (own : List ℕ) (reads reads_now : List Read) (asked mid behind : Option (List ℕ)) (heard : List ℕ) (begun old new : Option (List ℕ)) (byte : ℕ)
    → Consumes asked mid (byte ∷ []) → byte ≡ 86 → AnswersRest reads_now end own mid behind old new → EndsWell pages end own reads reads_now asked behind heard heard begun begun old new 0
ends_answered pages end own reads reads_now asked mid behind heard begun old new byte first is rest =
    let asks : IsAsked asked heard heard begun begun = record { first = begins_question asked mid byte first is; none = refl; kept = Keeps-refl begun } in
    inl (record { question = asks; answers = one_answered reads_now end own asked mid behind old new byte first is rest; none = refl })

-- and so it did where the rank was asked for
pub ends_told : (pages end : ℕ) (own : List ℕ) (reads reads_now : List Read) (asked mid : Option (List ℕ)) (heard : List ℕ) (begun old new : Option (List ℕ)) (byte : ℕ)
    → Consumes asked mid (byte ∷ []) → byte ≡ 82 → Appends old new (rank_bytes (rank_of own end))
    → EndsWell pages end own reads reads_now asked mid heard heard begun begun old new 0
ends_told pages end own reads reads_now asked mid heard begun old new byte first is told =
    let asks : IsAsked asked heard heard begun begun = record { first = begins_rank_question asked mid byte first is; none = refl; kept = Keeps-refl begun } in
    inl (record { question = asks; answers = one_told reads_now end own asked mid old new byte first is told; none = refl })

-- nothing was read or sent
pub not_served : (window pages end : ℕ) (own : List ℕ) (reads : List Read) (asked : Option (List ℕ)) (heard : List ℕ) (begun old : Option (List ℕ))
    → IsServed window pages end own reads asked heard heard begun begun old old
not_served window pages end own reads asked heard begun old =
    let unbegun : IsUnbegun own begun begun heard heard old old = record { none = refl; kept = Keeps-refl begun; told = ([], _, refl, Appends-nil old) } in
    (record { came = asked; known = inr refl; hears = inl refl; keeps = inl unbegun.told; begins = inl unbegun }, λ text are. inl unbegun.told)

-- as the stream ended or failed before its first byte
pub not_served_by : (pages end : ℕ) (own : List ℕ) (fault : Fault) (asked : Option (List ℕ)) → (fault ≡ Cut) ⊎ (fault ≡ Stream) → FailsToServe pages own end fault asked
not_served_by pages end own fault asked (inl e) = inr (asked, inr refl, subst (λ (f : Fault). FailsToSend pages own end f asked) (sym e) tt)
not_served_by pages end own fault asked (inr e) = inr (asked, inr refl, subst (λ (f : Fault). FailsToSend pages own end f asked) (sym e) tt)
