-- What was told, and what an asker is owed.
use Rattle.std.specs.Prelude.{◌≡◌, List, [], ◌∷◌, ◌++◌}
use Rattle.als_seats.specs.declared.outcome.Outcome.{Outcome}
use Rattle.als_seats.specs.declared.outcome.Outcome.TheVariants.{Answered, NotBegun, Lost}
use Rattle.als_tickets.specs.declared.reply.Reply.{Reply}
use Rattle.als_tickets.specs.declared.account.Account.{Account}
use Rattle.als_tickets.specs.declared.account.Notes.{Notes}
use Rattle.als_tickets.specs.declared.account.Notes.TheVariants.{Nothing, Told'}

abbrev pub noted : {T A : Type 0} → Notes T A → List (Reply T A)
noted Nothing = []
noted (Told' mark before place question answer) = noted before ++ record { place = place.value; question = question.value.value; answer = answer.value } ∷ []

-- what was told, in order
abbrev pub replies_of : {T A : Type 0} → Account T A → List (Reply T A)
replies_of account = noted account.notes

-- an answer may be told
abbrev pub IsOwed : {A : Type 0} → (A → Type 0) → Outcome A → Type 0
IsOwed may_tell (Answered answer) = ∥ may_tell answer ∥₁
IsOwed may_tell NotBegun = Unit {0}
IsOwed may_tell Lost = Unit {0}

-- No question has two outcomes. Each outcome is that of the question at its place, of which the answer may be told.
abbrev pub AreOwed : {T A : Type 0} → (T → A → Type 0) → List T → List (Outcome A) → Type 0
AreOwed may_tell [] outcomes = outcomes ≡ []
AreOwed may_tell (q ∷ questions) [] = Unit {0}
AreOwed may_tell (q ∷ questions) (o ∷ outcomes) = IsOwed (may_tell q) o × AreOwed may_tell questions outcomes
