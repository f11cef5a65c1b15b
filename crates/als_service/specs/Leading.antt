-- What a folder wants of its primary before it is opened, and whether it got that.
use Rattle.std.specs.Prelude.{◌≡◌, ℕ, List, length, nat_le, if◌then◌else◌, Option, Some, None, Ok}
use Rattle.als_epochs.specs.declared.step.Step.TheVariants.{Adopt}
use Rattle.als_epochs.specs.Judging.{judged}
use Rattle.als_folder.specs.declared.role.Role.{Role}
use Rattle.als_service.specs.declared.leading.Led.{Led}
use Rattle.als_service.specs.declared.leading.Wants.{Wants}
use Rattle.als_service.specs.declared.leading.Wants.TheVariants.{Nothing, Takeover}

-- what a folder with a role wants, whose control block says this: a takeover, unless its history has gone on since its role was made
abbrev pub wants_of : Role → Option Led → Wants
wants_of role None = Nothing
wants_of role (Some led) = if nat_le (length led.history) role.epoch then Takeover led else Nothing

-- a log that ends there, under this history, is a front of the log of a primary that took over from it: the offered history goes on from the own one with a
-- seal at which or above which the log ends
abbrev pub IsTakenOver : Led → List ℕ → Type 0
IsTakenOver led offered = judged led.history offered led.end.0 ≡ Ok Adopt
