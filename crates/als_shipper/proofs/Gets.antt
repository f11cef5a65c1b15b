-- What the one who came was sent of a log that may grow.
use Rattle.std.proofs.Common.{◌≡◌, ℕ, List, [], ◌∷◌, Option, Some, Result, Ok, Err, IfOk, ap, subst, ◌∙◌, inl, inr}
use Rattle.als_wire.specs.Frames.{epochs_bytes}
use Rattle.als_wire.specs.Sending.{Puts}
use Rattle.als_ship.specs.declared.fault.Fault.{Fault as SessionFault}
use Rattle.als_sending.specs.Reads.{Read}
use Rattle.als_sending.specs.Sent.{SendsTrue}
use Rattle.als_sending.specs.Session.{Hears, KeepsWindow, Begins, Sends}
use Rattle.als_shipper.specs.Growing.{GetsTrue, GetsWithin, GetsNothing, GetsSome}
use Rattle.als_shipper.specs.Visits.{Visit, comes, goes}

-- what one had sent, what is left to read of it, and what was written to it before and since
abbrev pub visit : Option (List ℕ) → Option (List ℕ) → Option (List ℕ) → Option (List ℕ) → Visit
visit asked behind told after = record { asked = asked; behind = behind; told = told; after = after }

-- one came and went
pub one_came : (asked behind told after : Option (List ℕ)) (start came gone : List Visit) → came ≡ comes asked told start → gone ≡ goes behind after came
    → gone ≡ visit asked behind told after ∷ start
one_came asked behind told after start came gone first then = then ∙ ap (goes behind after) first

pub gets_true : (text own : List ℕ) (asked behind told after : Option (List ℕ)) (start gone : List Visit) → gone ≡ visit asked behind told after ∷ start
    → SendsTrue text own told after → GetsTrue text own start gone
gets_true text own asked behind told after start gone came sends = inr (visit asked behind told after, came, sends)

pub gets_within : (window pages end : ℕ) (own none heard : List ℕ) (asked behind told after : Option (List ℕ)) (start gone : List Visit) → none ≡ []
    → gone ≡ visit asked behind told after ∷ start → Hears pages end own none heard asked told → KeepsWindow window own none heard told after
    → GetsWithin window pages end own start gone
gets_within window pages end own none heard asked behind told after start gone is came hears keeps =
    let hears_all : Hears pages end own [] heard asked told = subst (λ (xs : List ℕ). Hears pages end own xs heard asked told) is hears in
    let keeps_all : KeepsWindow window own [] heard told after = subst (λ (xs : List ℕ). KeepsWindow window own xs heard told after) is keeps in
    inr (visit asked behind told after, came, heard, hears_all, keeps_all)

pub gets_some : (pages end : ℕ) (own : List ℕ) (reads reads_now : List Read) (none heard : List ℕ) (asked behind told after : Option (List ℕ)) (n : ℕ)
    (start gone : List Visit) → none ≡ [] → gone ≡ visit asked behind told after ∷ start
    → Sends pages end own reads reads_now none heard asked behind told after n → GetsSome pages end own reads reads_now start gone n
gets_some pages end own reads reads_now none heard asked behind told after n start gone is came sends = (
  visit asked behind told after,
  came,
  heard,
  subst (λ (xs : List ℕ). Sends pages end own reads reads_now xs heard asked behind told after n) is sends,
)

-- a session that told of no beginning sent nothing but the own history, or a front of it
pub unbegun : (pages end : ℕ) (own heard heard_now : List ℕ) (asked old new : Option (List ℕ)) → Begins pages end own (Some []) (Some []) heard heard_now asked old new
    → Puts (epochs_bytes own) old new
unbegun pages end own heard heard_now asked old new (inl none) = none.told
unbegun pages end own heard heard_now asked old new (inr some) = cc some.began

pub gets_nothing : (pages end : ℕ) (own before begun heard heard_now : List ℕ) (asked behind told after : Option (List ℕ)) (start gone : List Visit) → before ≡ []
    → begun ≡ [] → gone ≡ visit asked behind told after ∷ start → Begins pages end own (Some before) (Some begun) heard heard_now asked told after
    → GetsNothing own start gone
gets_nothing pages end own before begun heard heard_now asked behind told after start gone first still came begins =
    let at_first = subst (λ (xs : List ℕ). Begins pages end own (Some xs) (Some begun) heard heard_now asked told after) first begins in
    let none = subst (λ (xs : List ℕ). Begins pages end own (Some []) (Some xs) heard heard_now asked told after) still at_first in
    (visit asked behind told after, came, unbegun pages end own heard heard_now asked told after none)

-- the same of a session that may have failed
pub if_all : (pages end : ℕ) (own : List ℕ) (reads reads_now : List Read) (none heard : List ℕ) (asked behind told after : Option (List ℕ)) (start gone : List Visit)
    (served : Result ℕ SessionFault) → none ≡ [] → gone ≡ visit asked behind told after ∷ start
    → IfOk served (λ n. Sends pages end own reads reads_now none heard asked behind told after n) → IfOk served (λ n. GetsSome pages end own reads reads_now start gone n)
if_all pages end own reads reads_now none heard asked behind told after start gone (Ok n) is came sends = gets_some pages end own reads reads_now none heard asked behind told after n start gone is came sends
if_all pages end own reads reads_now none heard asked behind told after start gone (Err fault) is came sends = tt
