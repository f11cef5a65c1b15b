-- What a session shows of itself where others drive its standby too: what became of its stream.
use Rattle.std.specs.Prelude.{◌≡◌, ℕ, Bool, true, false, List, Option, None}
use Rattle.als_record.specs.declared.header.LogHeader.{LogHeader}
use Rattle.als_engine.specs.Machine.{Machine}
use Rattle.als_ship.specs.Sessions.{Follows}
use Rattle.als_ship.specs.Vouching.{TellsVouched}

-- A whole session: it asked, a history was read, and frames up to one with no bytes, and answers were written. Of the machine nothing
-- is said.
pub record IsAnswered (before behind written more : Option (List ℕ)) : Type 0 where
  pub header : LogHeader
  pub old : Machine
  pub new : Machine
  pub follows : Follows ⊥ header old new before behind written more

-- What a follower made of both ends of its stream. It told what its voucher stands for. Where it began and nothing was refused, that
-- was a whole session; where it did not begin, both ends are as they were.
pub record IsFollowed {I O Refusal : Type 0} (remaining : I → Option (List ℕ)) (contents : O → Option (List ℕ)) (floor : ℕ) (begun : Bool) (refusal : Option Refusal)
    (before behind : I) (written more : O) : Type 0 where
  pub vouched : TellsVouched floor (contents written) (contents more)
  pub answered : begun ≡ true → refusal ≡ None → IsAnswered (remaining before) (remaining behind) (contents written) (contents more)
  pub reader : begun ≡ false → behind ≡ before
  pub writer : begun ≡ false → more ≡ written
