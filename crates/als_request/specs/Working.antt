-- What a JSON value asks a primary for.
use Rattle.std.specs.Prelude.{◌≡◌, ℕ, ◌==◌, Bool, true, false, List, codes, Option, Some, None, option_map, if◌then◌else◌}
use Rattle.json.specs.Json.{Json}
use Rattle.json.specs.Find.{get, as_bool}
use Rattle.als_record.specs.declared.trans_id.TransId.{TransId}
use Rattle.als_record.specs.Commits.{Write}
use Rattle.als_store.specs.declared.decision.Decision.{Decision}
use Rattle.als_writer.specs.declared.ask.Ask.{Ask}
use Rattle.als_writer.specs.declared.work.Work.{Work}
use Rattle.als_writer.specs.declared.work.Work.TheVariants as work
use Rattle.als_request.specs.Asking.{member_count, transaction_in, transaction_beside, IsSaid}
use Rattle.als_request.specs.Deciding.{decision_in}

-- what is asked for: a transaction that commits, one that prepares, or that one in doubt is decided
pub data Meaning : Type 0 where
  Commits : List Ask → List Write → Meaning
  Prepares : List Ask → List Write → Meaning
  Decides : TransId → Decision → Meaning

-- what is meant by a piece of work
abbrev pub meant : Work → Meaning
meant (work.Commit t) = Commits t.asks.items t.sets.items
meant (work.Prepare t) = Prepares t.asks.items t.sets.items
meant (work.Decide trans verdict) = Decides trans verdict

-- a decision, which has no member beside it
abbrev pub decided_in : Json → Json → Option Meaning
decided_in j decision = if member_count j == 1 then option_map (λ d. Decides d.0 d.1) (decision_in decision) else None

-- a transaction that prepares, where the member that says so is true
abbrev pub prepared_if : Option Bool → Json → Option Meaning
prepared_if None j = None
prepared_if (Some false) j = None
prepared_if (Some true) j = option_map (λ t. Prepares t.0 t.1) (transaction_beside 1 j)

abbrev pub prepared_in : Json → Json → Option Meaning
prepared_in j flag = prepared_if (as_bool flag) j

-- what a value with these members for a decision and for preparing asks for
abbrev pub work_by : Option Json → Option Json → Json → Option Meaning
work_by (Some decision) flag j = decided_in j decision
work_by None (Some flag) j = prepared_in j flag
work_by None None j = option_map (λ t. Commits t.0 t.1) (transaction_in j)

-- what a value asks for
abbrev pub work_in : Json → Option Meaning
work_in j = work_by (get (codes "decide") j) (get (codes "prepare") j) j

-- the text is a JSON value in which no object has a name twice, and that value asks for this
pub record IsWork (text : List ℕ) (w : Work) : Type 0 where
  pub value : Json
  pub said : IsSaid text value
  pub says : work_in value ≡ Some (meant w)
