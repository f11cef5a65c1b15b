-- What the accounts keep, for clauses alone.
use Rattle.std.specs.Prelude.{ℕ, List, [], ◌∷◌, ◌++◌}
use Rattle.als_sending.specs.declared.account.Account.{Account}
use Rattle.als_sending.specs.declared.account.Account.TheVariants as account
use Rattle.als_sending.specs.declared.heard.Heard.{Heard}
use Rattle.als_sending.specs.declared.heard.Heard.TheVariants as heard
use Rattle.als_sending.specs.Reads.{Read}

-- the last read has one byte more
abbrev pub with_byte : List Read → ℕ → List Read
with_byte [] byte = []
with_byte (r ∷ []) byte = record { at = r.at; bytes = r.bytes ++ byte ∷ [] } ∷ []
with_byte (r ∷ next ∷ rest) byte = r ∷ with_byte (next ∷ rest) byte

-- what was read, in order
abbrev pub reads_of : Account → List Read
reads_of account.Nothing = []
reads_of (account.At' mark before at) = reads_of before ++ record { at = at.value; bytes = [] } ∷ []
reads_of (account.Byte' mark before byte) = with_byte (reads_of before) byte.value

-- what was acknowledged, in order
abbrev pub heard_of : Heard → List ℕ
heard_of heard.Nothing = []
heard_of (heard.Begun' mark before from) = heard_of before
heard_of (heard.Acknowledged' mark before lsn) = heard_of before ++ lsn.value.0 ∷ []

-- from where sessions began, in order
abbrev pub begun_of : Heard → List ℕ
begun_of heard.Nothing = []
begun_of (heard.Begun' mark before from) = begun_of before ++ from.value.0 ∷ []
begun_of (heard.Acknowledged' mark before lsn) = begun_of before
