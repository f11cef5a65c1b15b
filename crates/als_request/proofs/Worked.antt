-- Rows by hand: which values are decisions, and what a value asks a primary for.
use Rattle.std.specs.Prelude.{◌≡◌, true, false, [], codes, Some, None}
use Rattle.std.proofs.Common.{refl}
use Rattle.json.specs.Json.{Json, boolean, number, array, object, no_items, Members, no_members, member}
use Rattle.als_store.specs.declared.decision.Decision.TheVariants.{Commit, Rollback}
use Rattle.als_request.specs.Deciding.{trans_from, decision_in}
use Rattle.als_request.specs.Working.{work_in}
use Rattle.als_request.specs.Working.Meaning.{Commits, Prepares, Decides}

-- 0 is the number of no transaction, and 2^32 - 1 is the last one
no_transaction : trans_from 0 ≡ None
no_transaction = refl

the_last : trans_from 4294967295 ≡ Some (record { 0 = 4294967295 })
the_last = refl

past_the_last : trans_from 4294967296 ≡ None
past_the_last = refl

-- {"trans":7,"commit":true}
abbrev to_commit : Json
to_commit = object (member (codes "trans") (number (codes "7")) (member (codes "commit") (boolean true) no_members))

it_commits : decision_in to_commit ≡ Some (record { 0 = 7 }, Commit)
it_commits = refl

-- {"commit":false,"trans":7}
abbrev to_roll_back : Json
to_roll_back = object (member (codes "commit") (boolean false) (member (codes "trans") (number (codes "7")) no_members))

it_rolls_back : decision_in to_roll_back ≡ Some (record { 0 = 7 }, Rollback)
it_rolls_back = refl

-- {"trans":7}
without_a_verdict : decision_in (object (member (codes "trans") (number (codes "7")) no_members)) ≡ None
without_a_verdict = refl

-- {"decide":{"trans":7,"commit":true}}
it_decides : work_in (object (member (codes "decide") to_commit no_members)) ≡ Some (Decides (record { 0 = 7 }) Commit)
it_decides = refl

-- {"decide":..,"set":[]}
it_does_not_with_a_set : work_in (object (member (codes "decide") to_commit (member (codes "set") (array no_items) no_members))) ≡ None
it_does_not_with_a_set = refl

-- {"set":[]}, and a member beside it
abbrev beside : Members → Json
beside ms = object (member (codes "set") (array no_items) ms)

it_is_a_transaction : work_in (beside no_members) ≡ Some (Commits [] [])
it_is_a_transaction = refl

it_prepares : work_in (beside (member (codes "prepare") (boolean true) no_members)) ≡ Some (Prepares [] [])
it_prepares = refl

-- to prepare is said by true alone
it_says_nothing : work_in (beside (member (codes "prepare") (boolean false) no_members)) ≡ None
it_says_nothing = refl
