-- Answers for which a voucher stands.
use Rattle.std.proofs.Common.{◌≡◌, ◌≤◌, ℕ, List, [], ◌∷◌, ◌++◌, Option, sym, subst, arith}
use Rattle.std.specs.Io.KnownBytes.{Appends}
use Rattle.std.proofs.KnownBytes.{Appends-nil, Appends-trans}
use Rattle.als_record.specs.declared.lsn.Lsn.{Lsn}
use Rattle.als_wire.specs.Frames.{acknowledged_bytes, answers_bytes, resume_bytes}
use Rattle.als_wire.specs.Sending.{Puts}
use Rattle.als_ship.specs.Vouching.{AreVouched, AnswersAll, AnswersOne, AnswersPart, IsAsking, TellsVouched}
use Rattle.als_wire.proofs.Putting.{puts_nothing, puts_whole, puts_first, puts_both}
use Rattle.als_ship.proofs.Sessions.{flat_push}

vouched_higher : (low high : ℕ) (answers : List Lsn) → low ≤ high → AreVouched low answers → AreVouched high answers
vouched_higher low high [] rises all = tt
vouched_higher low high (a ∷ answers) rises all = (omega (arith, all.0, rises), vouched_higher low high answers rises all.1)

vouched_push : (floor : ℕ) (answers : List Lsn) (answer : Lsn) → AreVouched floor answers → answer.0 ≤ floor → AreVouched floor (answers ++ answer ∷ [])
vouched_push floor [] answer all one = (one, tt)
vouched_push floor (a ∷ answers) answer all one = (all.0, vouched_push floor answers answer all.1 one)

-- one answer more
vouched_more : (low high : ℕ) (answers : List Lsn) (answer : Lsn) → low ≤ high → AreVouched low answers → answer.0 ≤ high → AreVouched high (answers ++ answer ∷ [])
vouched_more low high answers answer rises all one = vouched_push high answers answer (vouched_higher low high answers rises all) one

answers_bytes-push : (answers : List Lsn) (answer : Lsn) → answers_bytes (answers ++ answer ∷ []) ≡ answers_bytes answers ++ acknowledged_bytes answer.0
answers_bytes-push answers answer = flat_push (λ lsn. acknowledged_bytes lsn.0) answers answer

-- ---- one frame

-- nothing was told
pub answers_nothing : (floor : ℕ) (m : Option (List ℕ)) → AnswersPart floor m m
answers_nothing floor m = (record { 0 = 0 }, omega arith, puts_nothing (acknowledged_bytes 0) m)

-- a front of an answer was
pub answers_begun : (floor : ℕ) (old new : Option (List ℕ)) (answer : Lsn) → answer.0 ≤ floor → Puts (acknowledged_bytes answer.0) old new → AnswersPart floor old new
answers_begun floor old new answer below puts = (answer, below, puts)

-- ---- the loop over the frames of a session

pub answers_none : (floor : ℕ) (m : Option (List ℕ)) → AnswersAll floor m m
answers_none floor m = ([], tt, Appends-nil m)

pub answers_more : (low high : ℕ) (a b c : Option (List ℕ)) → low ≤ high → AnswersAll low a b → AnswersOne high b c → AnswersAll high a c
answers_more low high a b c rises (answers, all, told) (answer, below, one) = (
  answers ++ answer ∷ [],
  vouched_more low high answers answer rises all below,
  subst (Appends a c) (sym (answers_bytes-push answers answer)) (Appends-trans a b c (answers_bytes answers) (acknowledged_bytes answer.0) told one),
)

-- ---- a session

-- the writer failed before any answer
pub told_resume : (floor from pages : ℕ) (seals : List ℕ) (old new : Option (List ℕ)) → IsAsking from pages seals → Puts (resume_bytes from pages seals) old new → TellsVouched floor old new
told_resume floor from pages seals old new asks puts = (from, pages, seals, [], asks, tt, puts_first (resume_bytes from pages seals) [] old new puts)

-- each answer so far, and nothing more
pub told_all : (floor from pages : ℕ) (seals : List ℕ) (a b c : Option (List ℕ)) → IsAsking from pages seals → Appends a b (resume_bytes from pages seals) → AnswersAll floor b c → TellsVouched floor a c
told_all floor from pages seals a b c asks resume (answers, all, told) =
    (from, pages, seals, answers, asks, all, puts_whole (resume_bytes from pages seals ++ answers_bytes answers) a c (Appends-trans a b c (resume_bytes from pages seals) (answers_bytes answers) resume told))

-- and the last one
pub told_last : (low high from pages : ℕ) (seals : List ℕ) (a b c d : Option (List ℕ)) → low ≤ high → IsAsking from pages seals → Appends a b (resume_bytes from pages seals) → AnswersAll low b c → AnswersOne high c d → TellsVouched high a d
told_last low high from pages seals a b c d rises asks resume all one = told_all high from pages seals a b d asks resume (answers_more low high b c d rises all one)

-- and a front of one more
pub told_part : (low high from pages : ℕ) (seals : List ℕ) (a b c d : Option (List ℕ)) → low ≤ high → IsAsking from pages seals → Appends a b (resume_bytes from pages seals) → AnswersAll low b c → AnswersPart high c d → TellsVouched high a d
told_part low high from pages seals a b c d rises asks resume (answers, all, told) (answer, below, part) = (
  from,
  pages,
  seals,
  answers ++ answer ∷ [],
  asks,
  vouched_more low high answers answer rises all below,
  subst (λ (bytes : List ℕ). Puts (resume_bytes from pages seals ++ bytes) a d) (sym (answers_bytes-push answers answer))
      (puts_both (resume_bytes from pages seals) (answers_bytes answers ++ acknowledged_bytes answer.0) a b d resume (puts_both (answers_bytes answers) (acknowledged_bytes answer.0) b c d told part)),
)

-- what a voucher stands for, it stands for with a higher floor
pub told_higher : (low high : ℕ) (old new : Option (List ℕ)) → low ≤ high → TellsVouched low old new → TellsVouched high old new
told_higher low high old new rises (from, pages, seals, answers, asks, all, puts) = (from, pages, seals, answers, asks, vouched_higher low high answers rises all, puts)

-- nothing was told at all
pub told_nothing : (floor : ℕ) (m : Option (List ℕ)) → TellsVouched floor m m
told_nothing floor m = (0, 0, [], [], (omega arith, omega arith, record { few = omega arith; rises = tt; wide = omega arith }), tt, puts_nothing (resume_bytes 0 0 [] ++ answers_bytes []) m)
