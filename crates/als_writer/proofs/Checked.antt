-- What a writer checks of a transaction before it asks anything.
use Rattle.std.proofs.Common.{◌≡◌, ℕ, ◌<◌, ◌^◌, true, false, sym, ◌∙◌}
use Rattle.std.proofs.lemmas.Bool.{and_parts, ltb-true, leb-true, false≢true}
use Rattle.std.specs.Prelude.{nat_lt, nat_le}
use Rattle.als_record.specs.declared.key.Key.{Key}
use Rattle.als_record.specs.Spelling.{IsKey}
use Rattle.als_record.specs.Reading.{is_key}
use Rattle.als_record.proofs.BodyLaws.{key_again}

pub key_in : (pages : ℕ) (k : Key) → k.page < 2 ^ 32 → is_key pages k ≡ true → IsKey pages k
key_in pages k width e =
    let parts = and_parts (nat_lt k.page pages) (nat_le k.slot 14) e in
    record { page = ltb-true k.page pages parts.0; width = width; slot = leb-true k.slot 14 parts.1 }

pub key_out : (pages : ℕ) (k : Key) → is_key pages k ≡ false → IsKey pages k → ⊥
key_out pages k e is = false≢true (sym e ∙ key_again pages k is)
