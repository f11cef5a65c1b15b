-- What the leader told is what is answered over HTTP.
use Rattle.std.proofs.Common.{◌≡◌, if◌then◌else◌, Bool, true, not, List, [], ◌∷◌, ◌++◌, map, refl, sym, subst, ap, ◌∙◌}
use Rattle.als_writer.specs.declared.work.Work.{Work}
use Rattle.als_seats.specs.declared.outcome.Outcome.{Outcome}
use Rattle.als_seats.specs.declared.outcome.Outcome.TheVariants as outcome
use Rattle.als_lead.specs.declared.answer.Answer.{Answer}
use Rattle.als_lead.specs.declared.answer.Answer.TheVariants as answer
use Rattle.als_asking.specs.declared.outcome.Outcome.{Outcome as Fate}
use Rattle.als_tickets.specs.Replies.{IsOwed, AreOwed}
use Rattle.als_primary.specs.Fates.{fate_of, IsFate, AreFates}

fate_owed : (may_tell : Answer → Type 0) (o : Outcome Answer) → IsOwed may_tell o → IsFate may_tell (fate_of o)
fate_owed may_tell (outcome.Answered (answer.Committed w)) h = h
fate_owed may_tell (outcome.Answered (answer.Prepared w)) h = h
fate_owed may_tell (outcome.Answered (answer.Decided w)) h = h
fate_owed may_tell (outcome.Answered (answer.Refused r)) h = h
fate_owed may_tell (outcome.Answered (answer.NotDecided r)) h = h
fate_owed may_tell (outcome.Answered (answer.Unknown w)) h = h
fate_owed may_tell (outcome.Answered answer.Withheld) h = tt
fate_owed may_tell outcome.NotBegun h = tt
fate_owed may_tell outcome.Lost h = tt

-- so are the first ones of several
pub fates_owed : (may_tell : Work → Answer → Type 0) (asked : List Work) (told rest : List (Outcome Answer)) → AreOwed may_tell asked (told ++ rest) → AreFates may_tell asked (map fate_of told)
fates_owed may_tell [] [] rest h = refl
fates_owed may_tell [] (o ∷ told) rest h = absurd (cc h)
fates_owed may_tell (q ∷ asked) [] rest h = tt
fates_owed may_tell (q ∷ asked) (o ∷ told) rest h = (fate_owed (may_tell q) o h.0, fates_owed may_tell asked told rest h.1)

-- of nothing nothing is told
pub none_told : (may_tell : Work → Answer → Type 0) (asked : List Work) (fates : List Fate) → fates ≡ [] → AreFates may_tell asked fates
none_told may_tell [] fates none = none
none_told may_tell (q ∷ asked) fates none = subst (λ (fs : List Fate). AreFates may_tell (q ∷ asked) fs) (sym none) tt

-- so are those of what has come so far
pub fates_so_far : (may_tell : Work → Answer → Type 0) (asked : List Work) (done rest told : List (Outcome Answer)) (fates : List Fate) → fates ≡ map fate_of done → done ++ rest ≡ told → AreOwed may_tell asked told
    → AreFates may_tell asked fates
fates_so_far may_tell asked done rest told fates is joins owed =
    subst (λ (fs : List Fate). AreFates may_tell asked fs) (sym is)
    (fates_owed may_tell asked done rest (subst (λ (os : List (Outcome Answer)). AreOwed may_tell asked os) (sym joins) owed))

-- what was not pushed leaves the list
pub not_pushed : {X : Type 0} (done failed : Bool) (now more old : List X) → now ≡ (if done then more else old) → done ≡ not failed → failed ≡ true → now ≡ old
not_pushed {X} done failed now more old is other fails = is ∙ ap (λ (b : Bool). if b then more else old) (other ∙ ap not fails)
