-- Rows by hand: who may commit, what closes an array, and what an outcome is answered.
use Rattle.std.specs.Prelude.{◌≡◌, true, false, [], ◌∷◌, codes, Some, None}
use Rattle.std.proofs.Common.{refl}
use Rattle.als_writer.specs.declared.refusal.Refusal.TheVariants.{LogFull}
use Rattle.als_asking.specs.Bodies.{skipped, closes}
use Rattle.als_asking.specs.Entering.{bearer, denied_by, entered, looked}
use Rattle.als_asking.specs.Telling.{status_of_outcome, status_of, status_unwritten}
use Rattle.als_asking.specs.Taking.{first_of, padded}
use Rattle.als_asking.specs.declared.denied.Denied.TheVariants.{Method, NoRead, Page, NoToken, OtherToken}
use Rattle.als_asking.specs.declared.entry.Entry.TheVariants as entry
use Rattle.als_asking.specs.declared.outcome.Outcome.TheVariants.{Prepared, Refused, NotDecided, NotBegun, Lost}
use Rattle.als_writer.specs.declared.written.Written.{Written}
use Rattle.als_writer.specs.declared.not_decided.NotDecided.TheVariants as undecided
use Rattle.als_record.specs.declared.trans_id.TransId.{TransId}
use Rattle.als_store.specs.declared.decision.Decision.{Decision as Verdict}
use Rattle.als_asking.specs.declared.told.Told.TheVariants.{One, Decision}

the_token : bearer (codes "Bearer abc") ≡ Some (codes "abc")
the_token = refl

another_scheme : bearer (codes "Basic abc") ≡ None
another_scheme = refl

it_is_taken : denied_by (codes "abc") (Some (codes "abc")) ≡ None
it_is_taken = refl

a_front_of_it_is_not : denied_by (codes "abc") (Some (codes "ab")) ≡ Some OtherToken
a_front_of_it_is_not = refl

more_than_it_is_not : denied_by (codes "abc") (Some (codes "abcd")) ≡ Some OtherToken
more_than_it_is_not = refl

without_one : denied_by (codes "abc") None ≡ Some NoToken
without_one = refl

a_post : entered entry.Commits true (codes "POST") false None ≡ entry.Commits
unfolding entered
a_post = refl

a_get : entered entry.Commits true (codes "GET") false None ≡ entry.Denied Method
unfolding entered
a_get = refl

a_page : entered entry.Decides true (codes "POST") true None ≡ entry.Denied Page
unfolding entered
a_page = refl

a_decision_by_post : entered entry.Decides true (codes "POST") false None ≡ entry.Decides
unfolding entered
a_decision_by_post = refl

without_the_token : entered entry.Prepares true (codes "POST") false (Some NoToken) ≡ entry.Denied NoToken
unfolding entered
without_the_token = refl

it_is_looked_at : looked true (codes "GET") ≡ entry.InDoubt
unfolding looked
it_is_looked_at = refl

it_is_not_posted : looked true (codes "POST") ≡ entry.Denied NoRead
unfolding looked
it_is_not_posted = refl

-- blanks before an array, and behind it
blanks : skipped (codes " \n[1]") ≡ codes "[1]"
unfolding skipped
blanks = refl

a_closed_array : closes (codes "] \n") ≡ true
unfolding skipped closes
a_closed_array = refl

more_behind_it : closes (codes "] x") ≡ false
unfolding skipped closes
more_behind_it = refl

a_full_log : status_of_outcome (Refused LogFull) ≡ 507
a_full_log = refl

not_begun : status_of (One NotBegun) ≡ 503
not_begun = refl

prepared : (w : Written) → status_of (One (Prepared w)) ≡ 200
prepared w = refl

-- a decision of a transaction that is not in doubt
not_in_doubt : (t : TransId) (v : Verdict) → status_of (Decision t v (NotDecided undecided.NotInDoubt)) ≡ 404
not_in_doubt t v = refl

-- a transaction of which nothing is known may be committed: it is no 503
lost : status_of (One Lost) ≡ 504
lost = refl

unwritten : status_unwritten (One NotBegun) ≡ 504
unwritten = refl

no_outcome : first_of [] ≡ Lost
no_outcome = refl

one_is_missing : padded 2 (NotBegun ∷ []) ≡ NotBegun ∷ Lost ∷ []
one_is_missing = refl
