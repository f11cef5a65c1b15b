-- Which answer a source gives.
use Rattle.std.specs.Prelude.{◌≡◌, ◌≤◌, ℕ, Bool, true, false, List, length, take, nat_lt, if◌then◌else◌, slice_get, Option, None, Some, MatchOption}
use Rattle.sha2.specs.Sha256.{sha256}
use Rattle.als_compare.specs.declared.summary.Summary.{Summary}
use Rattle.als_compare.specs.declared.verdict.Verdict.{Verdict}
use Rattle.als_compare.specs.declared.verdict.Verdict.TheVariants.{Same, Other, Shorter, Parted}

-- a log that ends there is past the seal, if there is one
abbrev pub is_past : Option ℕ → ℕ → Bool
is_past None end = false
is_past (Some seal) end = nat_lt seal end

-- the histories part: the question is of a later epoch than the source's, or of a log that ends above the seal that ended its epoch
unfoldable pub parts : List ℕ → Summary → Bool
parts seals question = if nat_lt (length seals) question.epoch then true else is_past (slice_get seals question.epoch) question.end

-- what is answered whatever the text is
unfoldable pub judged_sooner : List ℕ → ℕ → Summary → Option Verdict
judged_sooner seals end question = if parts seals question then Some Parted else if nat_lt end question.end then Some Shorter else None

-- Neither the history nor the end says it: the source's text goes on as far as the follower's, and decides.
pub record NeedsText (seals : List ℕ) (end : ℕ) (question : Summary) : Type 0 where
  pub undecided : judged_sooner seals end question ≡ None
  pub within : question.end ≤ end

-- what is answered where the source's text up to the question's end has this digest
abbrev pub IsOfDigest : List ℕ → Summary → Verdict → Type 0
IsOfDigest digest question Same = digest ≡ question.digest
IsOfDigest digest question Other = digest ≡ question.digest → ⊥
IsOfDigest digest question Shorter = ⊥
IsOfDigest digest question Parted = ⊥

-- the answer of a source with this text and this history, whose log ends there
unfoldable pub IsVerdict : List ℕ → ℕ → List ℕ → Summary → Verdict → Type 0
IsVerdict text end seals question verdict =
    MatchOption (judged_sooner seals end question) (IsOfDigest (sha256 (take question.end text)) question verdict) (λ sooner. verdict ≡ sooner)

-- what is said by the answers about all that is held, and about its beginning: that the log begins otherwise comes first
abbrev pub said_first : Verdict → Option Verdict → Verdict
said_first whole None = whole
said_first whole (Some Same) = whole
said_first whole (Some Other) = Other
said_first whole (Some Shorter) = whole
said_first whole (Some Parted) = whole
