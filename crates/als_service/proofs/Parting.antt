-- What a primary answered that may be followed.
use Rattle.std.proofs.Common.{◌≡◌, Bool, List, ◌∷◌, Option, Some, inl, inr}
use Rattle.als_compare.specs.declared.summary.Summary.{Summary}
use Rattle.als_compare.specs.declared.verdict.Verdict.{Verdict}
use Rattle.als_compare.specs.declared.verdict.Verdict.TheVariants.{Parted}
use Rattle.als_compare.specs.Verdicts.{said_first}
use Rattle.als_service.specs.Inquiries.{Inquiry, AsksOfFront, IsAsked, LetsFollow, PartsLater, MayFollow}

-- its log parts from the held one, and does not begin otherwise
pub parts_later : (uncompared : Bool) (question : Summary) (old asked new : List Inquiry) (begun : Option Verdict)
    → IsAsked question old asked (Some Parted) → new ≡ AsksOfFront begun ∷ asked → LetsFollow (said_first Parted begun)
    → MayFollow uncompared question old new
parts_later uncompared question old asked new begun parted front alike =
    inr (inl (record { asked = asked; begun = begun; parted = parted; front = front; alike = alike }))
