-- Where a standby is never healthy.
use Rattle.std.specs.Prelude.{◌≡◌, None, Some, true, false}
use Rattle.std.proofs.Common.{refl}
use Rattle.als_report.specs.declared.report.Report.{Report}
use Rattle.als_report.specs.declared.state.State.TheVariants.{Waiting, Following, Refusing, Primary, Stopped, Committing, Unconfirmed}
use Rattle.als_report.specs.Health.{is_sent_to, is_at_work, is_heard, is_prompt, takes_commits, has_few, is_primary, is_standby, is_new, takeovers_left, transactions_left}

stopped_is_not : is_sent_to Stopped ≡ false
stopped_is_not = refl

refusing_is_not : is_sent_to Refusing ≡ false
refusing_is_not = refl

waiting_is_not : is_sent_to Waiting ≡ false
waiting_is_not = refl

-- a primary that commits for clients is at work; one that was taken over and does not is not
committing_is : is_at_work Committing ≡ true
committing_is = refl

primary_is_not : is_at_work Primary ≡ false
primary_is_not = refl

-- one whose commits wait for followers is not, and yet it takes them; a node that was taken over takes none
unconfirmed_is_not : is_at_work Unconfirmed ≡ false
unconfirmed_is_not = refl

unconfirmed_takes : takes_commits Unconfirmed ≡ true
unconfirmed_takes = refl

primary_takes_none : takes_commits Primary ≡ false
primary_takes_none = refl

-- a primary that sent something thirty seconds ago was heard lately, one that sent nothing since is not; a primary is sent nothing
thirty_are_few : is_heard Following (Some 30) ≡ true
thirty_are_few = refl

more_are_not : is_heard Following (Some 31) ≡ false
more_are_not = refl

never_is_not : is_heard Following None ≡ false
never_is_not = refl

a_primary_hears_nobody : is_heard Committing None ≡ true
a_primary_hears_nobody = refl

-- a frame that waits for ten seconds is in time, one that waits for eleven is not
ten_is_prompt : is_prompt (Some 10) ≡ true
ten_is_prompt = refl

eleven_is_not : is_prompt (Some 11) ≡ false
eleven_is_not = refl

-- with 199 transactions in doubt a primary may be healthy, with 200 it is not
many_are_few : has_few 199 ≡ true
many_are_few = refl

too_many_are_not : has_few 200 ≡ false
too_many_are_not = refl

-- a client's commits are for the primary whose followers confirm them, for no other one, and for no standby
committing_is_primary : (r : Report) → is_primary (record r { state = Committing }) ≡ true
committing_is_primary r = refl

unconfirmed_is_no_primary : (r : Report) → is_primary (record r { state = Unconfirmed }) ≡ false
unconfirmed_is_no_primary r = refl

following_is_no_primary : (r : Report) → is_primary (record r { state = Following }) ≡ false
following_is_no_primary r = refl

-- a primary is no standby, whatever else it reports, and a node to which none sends is none either
committing_is_no_standby : (r : Report) → is_standby (record r { state = Committing }) (Some 1) ≡ false
committing_is_no_standby r = refl

waiting_is_no_standby : (r : Report) → is_standby (record r { state = Waiting }) (Some 1) ≡ false
waiting_is_no_standby r = refl

-- a log that ends behind its header holds no record
header_is_new : (r : Report) → is_new (record r { end = record { 0 = 16 } }) ≡ true
header_is_new r = refl

one_record_is_not_new : (r : Report) → is_new (record r { end = record { 0 = 52 } }) ≡ false
one_record_is_not_new r = refl

-- with 31 takeovers one is left, with 32 none
one_is_left : (r : Report) → takeovers_left (record r { epoch = Some 31 }) ≡ Some 1
one_is_left r = refl

none_is_left : (r : Report) → takeovers_left (record r { epoch = Some 32 }) ≡ Some 0
none_is_left r = refl

-- the last number leaves none
none_is_numbered : (r : Report) → transactions_left (record r { greatest = Some 4294967295 }) ≡ Some 0
none_is_numbered r = refl
