-- What a transaction has to be, whatever the log has.
use Rattle.std.specs.Prelude.{◌≡◌, ℕ, ◌<◌, ◌≤◌, ◌⊎◌, true, false, List, length, take, slice_index_or, All}
use Rattle.std.specs.List.{list_any}
use Rattle.als_record.specs.declared.key.Key.{Key}
use Rattle.als_record.specs.Spelling.{IsKey}
use Rattle.als_record.specs.Images.{same_key}
use Rattle.als_record.specs.Commits.{Write}
use Rattle.als_writer.specs.declared.ask.Ask.{Ask}
use Rattle.als_writer.specs.declared.ask.Ask.TheVariants.{Is, Unchanged}
use Rattle.als_writer.specs.declared.flaw.Flaw.{Flaw}
use Rattle.als_writer.specs.declared.flaw.Flaw.TheVariants.{NoSet, TooLong, KeyTwice, NoSuchKey}
use Rattle.als_writer.specs.declared.transaction.Transaction.{Transaction}

-- the key that an ask asks for
abbrev pub key_asked : Ask → Key
key_asked (Is key image) = key
key_asked (Unchanged key since) = key

-- no key is set twice: each write's key is none of those before it
abbrev pub AreApart : List Write → Type 0
AreApart ws = (i : ℕ) (w : Write) → i < length ws → w ≡ slice_index_or ws i w → list_any (λ v. same_key v.key w.key) (take i ws) ≡ false

-- a write of the key stands behind another one
pub record IsTwice (ws : List Write) (key : Key) : Type 0 where
  pub i : ℕ
  pub w : Write
  pub within : i < length ws
  pub at : w ≡ slice_index_or ws i w
  pub key_is : w.key ≡ key
  pub again : list_any (λ v. same_key v.key key) (take i ws) ≡ true

-- the database has each key that is asked for
abbrev pub AreAskedIn : ℕ → List Ask → Type 0
AreAskedIn pages asks = All (λ a. IsKey pages (key_asked a)) asks

-- a transaction with 1 to 600 sets of keys of the database, each key once, and up to 600 asks
pub record IsSound (pages : ℕ) (t : Transaction) : Type 0 where
  pub some : 0 < length t.sets.items
  pub few : length t.sets.items ≤ 600
  pub asks_few : length t.asks.items ≤ 600
  pub keys : All (λ w. IsKey pages w.key) t.sets.items
  pub asked : AreAskedIn pages t.asks.items
  pub apart : AreApart t.sets.items

-- what is wrong with one
abbrev pub IsFlaw : ℕ → Transaction → Flaw → Type 0
IsFlaw pages t NoSet = length t.sets.items ≡ 0
IsFlaw pages t TooLong = (600 < length t.sets.items) ⊎ (600 < length t.asks.items)
IsFlaw pages t (KeyTwice key) = IsTwice t.sets.items key
IsFlaw pages t (NoSuchKey key) = IsKey pages key → ⊥
