-- Whether a standby is healthy, and how much log it still takes, by what it tells of itself.
use Rattle.std.specs.Prelude.{ℕ, ◌-◌, Bool, true, false, not, ◌&&◌, ◌||◌, nat_le, Option, Some, None, is_some}
use Rattle.als_report.specs.declared.report.Report.{Report}
use Rattle.als_report.specs.declared.state.State.{State}
use Rattle.als_report.specs.declared.state.State.TheVariants.{Recovering, Waiting, Following, Refusing, Sealed, Primary, Stopped, Committing, Unconfirmed}

-- a primary sends to it
abbrev pub is_sent_to : State → Bool
is_sent_to Recovering = false
is_sent_to Waiting = false
is_sent_to Following = true
is_sent_to Refusing = false
is_sent_to Sealed = false
is_sent_to Primary = false
is_sent_to Stopped = false
is_sent_to Committing = false
is_sent_to Unconfirmed = false

-- it commits for clients
abbrev pub is_committing : State → Bool
is_committing Committing = true
is_committing s = false

-- it takes transactions of clients, be their commits confirmed now or not
abbrev pub takes_commits : State → Bool
takes_commits Committing = true
takes_commits Unconfirmed = true
takes_commits s = false

-- it does what it is there for
abbrev pub is_at_work : State → Bool
is_at_work s = is_sent_to s || is_committing s

-- the last acknowledged frame came at most thirty seconds ago
abbrev pub is_recent : Option ℕ → Bool
is_recent None = false
is_recent (Some seconds) = nat_le seconds 30

-- the primary that sends to it was heard lately; to a node that commits for clients none sends
abbrev pub is_heard : State → Option ℕ → Bool
is_heard state silence = not (is_sent_to state) || is_recent silence

-- no frame waits for its acknowledgement for longer than ten seconds
abbrev pub is_prompt : Option ℕ → Bool
is_prompt None = true
is_prompt (Some seconds) = nat_le seconds 10

-- fewer than 200 transactions are in doubt, of the 256 that there may be
abbrev pub has_few : ℕ → Bool
has_few in_doubt = nat_le in_doubt 199

-- A primary sends to it and was heard lately, or it commits for clients; each frame is acknowledged in time, readers see a list of commits, and
-- few transactions are in doubt.
abbrev pub is_healthy : Report → Option ℕ → Bool
is_healthy r commits = has_few r.in_doubt && (is_heard r.state r.silence && (is_at_work r.state && is_prompt r.waiting && is_some commits))

-- so many bytes are left below a capacity
abbrev pub room_below : Option ℕ → ℕ → Option ℕ
room_below None end = None
room_below (Some capacity) end = Some (capacity - end)

abbrev pub room_of : Report → Option ℕ
room_of r = room_below r.capacity r.end.0

-- so many takeovers are left to a history with so many, of the 32 that it may have
abbrev pub takeovers_below : Option ℕ → Option ℕ
takeovers_below None = None
takeovers_below (Some epoch) = Some (32 - epoch)

abbrev pub takeovers_left : Report → Option ℕ
takeovers_left r = takeovers_below r.epoch

-- so many TransIDs are left above the greatest, of the 4,294,967,295 that there are
abbrev pub transactions_below : Option ℕ → Option ℕ
transactions_below None = None
transactions_below (Some greatest) = Some (4294967295 - greatest)

abbrev pub transactions_left : Report → Option ℕ
transactions_left r = transactions_below r.greatest

-- it takes commits of clients, and as many followers as have to confirm them do so now
abbrev pub is_primary : Report → Bool
is_primary r = is_committing r.state

-- a primary sends to it, and it is healthy
abbrev pub is_standby : Report → Option ℕ → Bool
is_standby r commits = is_sent_to r.state && is_healthy r commits

-- its log holds no record: nothing was ever committed
abbrev pub is_new : Report → Bool
is_new r = nat_le r.end.0 16
