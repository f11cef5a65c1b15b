-- The one spelling of a question and of an answer. Numbers are big-endian.
use Rattle.std.specs.Prelude.{ℕ, List, [], ◌∷◌, ◌++◌}
use Rattle.std.specs.Int.{w32, w64, to_be_bytes}
use Rattle.als_compare.specs.declared.summary.Summary.{Summary}
use Rattle.als_compare.specs.declared.verdict.Verdict.{Verdict}
use Rattle.als_compare.specs.declared.verdict.Verdict.TheVariants.{Same, Other, Shorter, Parted}

abbrev pub byte_of : Verdict → ℕ
byte_of Same = 0
byte_of Other = 1
byte_of Shorter = 2
byte_of Parted = 3

-- what stands behind the first byte of a question: the epoch, the end and the digest
unfoldable pub rest_bytes : Summary → List ℕ
rest_bytes question = to_be_bytes w32 question.epoch ++ (to_be_bytes w64 question.end ++ question.digest)

-- the letter V, and the rest
abbrev pub question_bytes : Summary → List ℕ
question_bytes question = 86 ∷ rest_bytes question

-- the letter V and the verdict
abbrev pub answer_bytes : Verdict → List ℕ
answer_bytes verdict = 86 ∷ byte_of verdict ∷ []
