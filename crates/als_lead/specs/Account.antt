-- What clients handed out, and what they were answered.
use Rattle.std.specs.Prelude.{List, [], ◌∷◌, ◌++◌}
use Rattle.als_lead.specs.declared.account.Account.{Account}
use Rattle.als_lead.specs.declared.account.Account.TheVariants.{Nothing, Taken', Answered'}
use Rattle.als_lead.specs.declared.asked.Asked.{Asked}
use Rattle.als_lead.specs.declared.told.Told.{Told}

-- what was handed out, in order
abbrev pub taken_of : Account → List Asked
taken_of Nothing = []
taken_of (Taken' mark before asked) = taken_of before ++ asked.value ∷ []
taken_of (Answered' mark before asked answer) = taken_of before

-- what was answered, with the answers, in order
abbrev pub told_of : Account → List Told
told_of Nothing = []
told_of (Taken' mark before asked) = told_of before
told_of (Answered' mark before asked answer) = told_of before ++ record { asked = asked.value; answer = answer.value } ∷ []
