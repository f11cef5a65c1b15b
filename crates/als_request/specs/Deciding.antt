-- The decision that a JSON value says.
use Rattle.std.specs.Prelude.{◌≡◌, ℕ, ◌==◌, ◌&&◌, nat_le, Bool, true, false, List, codes, if◌then◌else◌}
use Rattle.std.specs.Prelude.{Option, Some, None, option_map, option_and_then}
use Rattle.json.specs.Json.{Json}
use Rattle.json.specs.Find.{get, as_bool}
use Rattle.als_record.specs.declared.trans_id.TransId.{TransId}
use Rattle.als_store.specs.declared.decision.Decision.{Decision}
use Rattle.als_store.specs.declared.decision.Decision.TheVariants.{Commit, Rollback}
use Rattle.als_request.specs.Asking.{natural_in, member_count, IsSaid}

-- the transaction of a number: from 1 to 2^32 - 1
abbrev pub trans_from : ℕ → Option TransId
trans_from n = if nat_le 1 n && nat_le n 4294967295 then Some (record { 0 = n }) else None

-- the transaction that a value is the number of
abbrev pub trans_in : Json → Option TransId
trans_in j = option_and_then trans_from (natural_in j)

-- true commits, false rolls back
abbrev pub verdict_of : Bool → Decision
verdict_of true = Commit
verdict_of false = Rollback

-- a decision: the number of a transaction, whether it commits, and nothing else
abbrev pub decision_in : Json → Option (TransId × Decision)
decision_in j =
    if member_count j == 2
    then option_and_then (λ trans. option_map (λ commits. (trans, verdict_of commits)) (option_and_then as_bool (get (codes "commit") j)))
    (option_and_then trans_in (get (codes "trans") j))
    else None

-- the text is a JSON value in which no object has a name twice, and that value says this decision
pub record IsDecision (text : List ℕ) (decision : TransId × Decision) : Type 0 where
  pub value : Json
  pub said : IsSaid text value
  pub says : decision_in value ≡ Some decision
