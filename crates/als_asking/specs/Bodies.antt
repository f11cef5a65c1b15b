-- What the body of a request asks for.
use Rattle.std.specs.Prelude.{◌≡◌, ℕ, ◌==◌, ◌||◌, ◌&&◌, Bool, true, false, List, [], ◌∷◌, ◌++◌, length, if◌then◌else◌}
use Rattle.als_writer.specs.declared.transaction.Transaction.{Transaction}
use Rattle.als_request.specs.Asking.{IsRead}
use Rattle.als_asking.specs.declared.wanted.Wanted.{Wanted}
use Rattle.als_asking.specs.declared.wanted.Wanted.TheVariants.{One, Each}

-- a space, a tab, or the end of a line
abbrev pub is_blank : ℕ → Bool
is_blank c = c == 32 || c == 9 || c == 10 || c == 13

-- a text without the blanks that it begins with
unfoldable pub skipped : List ℕ → List ℕ
skipped [] = []
skipped (c ∷ rest) = if is_blank c then skipped rest else c ∷ rest

-- a closing bracket, and only blanks behind it
unfoldable pub closes : List ℕ → Bool
closes [] = false
closes (c ∷ more) = c == 93 && length (skipped more) == 0

-- the items, and what closes their array
abbrev pub IsClosed : List ℕ → List ℕ → Type 0
IsClosed rest items = (after : List ℕ) × (rest ≡ items ++ after) × (closes after ≡ true)

-- the texts of these transactions, with a comma between each two
unfoldable pub AreItems : List ℕ → List Transaction → Type 0
AreItems text [] = ⊥
AreItems text (t ∷ []) = IsRead text t
AreItems text (t ∷ u ∷ more) = (item : List ℕ) × (rest : List ℕ) × (text ≡ item ++ 44 ∷ rest) × IsRead item t × AreItems rest (u ∷ more)

-- what stands behind the first bracket of an array of these transactions
abbrev pub IsArrayBehind : List ℕ → List Transaction → Type 0
IsArrayBehind rest ts = (items : List ℕ) × IsClosed rest items × AreItems items ts

-- an array of these transactions
abbrev pub IsArray : List ℕ → List Transaction → Type 0
IsArray body ts = (rest : List ℕ) × (skipped body ≡ 91 ∷ rest) × IsArrayBehind rest ts

-- the body is a transaction, or an array of them
unfoldable pub Asks : List ℕ → Wanted → Type 0
Asks body (One t) = IsRead body t
Asks body (Each ts) = IsArray body ts.items

-- the same of what stands behind the first bracket
abbrev pub AsksBehind : List ℕ → Wanted → Type 0
AsksBehind rest (One t) = ⊥
AsksBehind rest (Each ts) = IsArrayBehind rest ts.items

-- the transactions, in order
abbrev pub all_of : Wanted → List Transaction
all_of (One t) = t ∷ []
all_of (Each ts) = ts.items
