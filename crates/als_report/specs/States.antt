-- The numbers and names of a standby's states.
use Rattle.std.specs.Prelude.{ℕ, ◌==◌, List, codes, if◌then◌else◌}
use Rattle.als_report.specs.declared.state.State.{State}
use Rattle.als_report.specs.declared.state.State.TheVariants.{Recovering, Waiting, Following, Refusing, Sealed, Primary, Stopped, Committing, Unconfirmed}

abbrev pub number_of_state : State → ℕ
number_of_state Recovering = 0
number_of_state Waiting = 1
number_of_state Following = 2
number_of_state Refusing = 3
number_of_state Sealed = 4
number_of_state Primary = 5
number_of_state Stopped = 6
number_of_state Committing = 7
number_of_state Unconfirmed = 8

abbrev pub state_of_number : ℕ → State
state_of_number n =
    if n == 0 then Recovering else (if n == 1 then Waiting else (if n == 2 then Following
    else (if n == 3 then Refusing else (if n == 4 then Sealed else (if n == 5 then Primary else (if n == 7 then Committing
    else (if n == 8 then Unconfirmed else Stopped)))))))

abbrev pub name_of_state : State → List ℕ
name_of_state Recovering = codes "recovering"
name_of_state Waiting = codes "waiting"
name_of_state Following = codes "following"
name_of_state Refusing = codes "refusing"
name_of_state Sealed = codes "sealed"
name_of_state Primary = codes "primary"
name_of_state Stopped = codes "stopped"
name_of_state Committing = codes "committing"
name_of_state Unconfirmed = codes "unconfirmed"

-- the role of a node in a state: from the seal on it is the primary
abbrev pub role_of_state : State → List ℕ
role_of_state Recovering = codes "standby"
role_of_state Waiting = codes "standby"
role_of_state Following = codes "standby"
role_of_state Refusing = codes "standby"
role_of_state Sealed = codes "primary"
role_of_state Primary = codes "primary"
role_of_state Stopped = codes "standby"
role_of_state Committing = codes "primary"
role_of_state Unconfirmed = codes "primary"
