-- What is told of a key: what it has now, and who holds it.
use Rattle.std.specs.Prelude.{◌≡◌, ℕ, false, List}
use Rattle.als_record.specs.declared.key.Key.{Key}
use Rattle.als_record.specs.declared.record.Body.{Body}
use Rattle.als_record.specs.declared.record.Body.TheVariants.{Update}
use Rattle.als_record.specs.declared.record.Record.{Record}
use Rattle.als_record.specs.Spelling.{Image}
use Rattle.als_record.specs.Transactions.{has_begun}
use Rattle.als_record.specs.Images.{image_now}
use Rattle.als_record.specs.Validity.{held_by}
use Rattle.als_validator.specs.declared.key_now.KeyNow.{KeyNow}

-- the image that the key has now, and the transaction that holds it against any one that has no record yet
pub record TellsOfKey (log : List Record) (key : Key) (told : KeyNow) : Type 0 where
  pub image : told.image ≡ image_now log key
  pub holder : (r : Record) (before after : Image) → r.body ≡ Update key before after → has_begun log r.trans.0 ≡ false → told.holder ≡ held_by log r
