-- What a source answers to a question, and why it does not.
use Rattle.std.specs.Prelude.{◌≡◌, ◌⊎◌, ℕ, List, Option}
use Rattle.std.specs.Io.KnownBytes.{Consumes, Appends}
use Rattle.als_ship.specs.declared.fault.Fault.{Fault}
use Rattle.als_ship.specs.declared.fault.Fault.TheVariants.{Memory, BadFrame, Cut, Stream}
use Rattle.als_sending.specs.Reads.{Read, AreOf}
use Rattle.als_compare.specs.declared.summary.Summary.{Summary}
use Rattle.als_compare.specs.declared.verdict.Verdict.{Verdict}
use Rattle.als_compare.specs.Frames.{question_bytes, rest_bytes, answer_bytes}
use Rattle.als_compare.specs.Verdicts.{IsVerdict}
use Rattle.als_compare.specs.Ranks.{rank_of, rank_question_bytes, rank_bytes}

-- What stands behind the first byte of a question was read, and an answer written: the one that a source gives with each text of which all reads are, with
-- this history, whose log ends there.
pub record AnswersRest (reads : List Read) (end : ℕ) (seals : List ℕ) (asked behind old new : Option (List ℕ)) : Type 0 where
  pub question : Summary
  pub verdict : Verdict
  pub read : Consumes asked behind (rest_bytes question)
  pub written : Appends old new (answer_bytes verdict)
  pub right : (text : List ℕ) → AreOf text reads → IsVerdict text end seals question verdict

-- The same of a whole question.
pub record Answers (reads : List Read) (end : ℕ) (seals : List ℕ) (asked behind old new : Option (List ℕ)) : Type 0 where
  pub question : Summary
  pub verdict : Verdict
  pub read : Consumes asked behind (question_bytes question)
  pub written : Appends old new (answer_bytes verdict)
  pub right : (text : List ℕ) → AreOf text reads → IsVerdict text end seals question verdict

-- A node was asked for its rank, and told that of its own history, where all below the end is acknowledged.
pub record TellsRank (end : ℕ) (seals : List ℕ) (asked behind old new : Option (List ℕ)) : Type 0 where
  pub read : Consumes asked behind rank_question_bytes
  pub written : Appends old new (rank_bytes (rank_of seals end))

-- A question was answered: whether the log is the one that a follower holds, or what the node's rank is.
abbrev pub AnswersOne : List Read → ℕ → List ℕ → Option (List ℕ) → Option (List ℕ) → Option (List ℕ) → Option (List ℕ) → Type 0
AnswersOne reads end seals asked behind old new = Answers reads end seals asked behind old new ⊎ TellsRank end seals asked behind old new

-- the log failed, or there was no memory for a piece of it
abbrev pub IsOfReading : Fault → Type 0
IsOfReading fault = (fault ≡ Memory) ⊎ (fault ≡ Stream)

-- the same, or what came is no question, or a stream ended or failed
abbrev pub IsOfAnswer : Fault → Type 0
IsOfAnswer fault = IsOfReading fault ⊎ ((fault ≡ BadFrame) ⊎ (fault ≡ Cut))
