-- What a node says of the log that it holds.
use Rattle.std.specs.Prelude.{◌≡◌, ℕ, List, length}
use Rattle.sha2.specs.Hashers.{Holds256}
use Rattle.sha2.specs.Sha256.{sha256}
use Rattle.als_compare.specs.declared.summary.Summary.{Summary}
use Rattle.als_compare.specs.declared.summing.Summing.{Summing}

-- the summary of a text that is held in this epoch
abbrev pub summary_of : ℕ → List ℕ → Summary
summary_of epoch text = record { epoch = epoch; end = length text; digest = sha256 text }

-- what was added is this text
unfoldable pub Sums : Summing → List ℕ → Type 0
Sums s text = Holds256 s.hasher text × (s.end ≡ length text)
