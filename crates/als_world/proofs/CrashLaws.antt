-- A crash and the restart after it, as the wire has them.
use Rattle.std.proofs.Common.{◌≡◌, ℕ, List, ◌++◌, length, Option, Bor, refl, sym, ap, subst, ◌∙◌}
use Rattle.als_record.specs.declared.record.Record.{Record}
use Rattle.als_record.specs.LogText.{end_of}
use Rattle.als_ckpt.specs.declared.control_state.ControlState.{ControlState}
use Rattle.als_ckpt.specs.Control.{Continues, last_state}
use Rattle.als_lease.specs.Lease.{Leased}
use Rattle.als_store.specs.Stored.{newest}
use Rattle.als_engine.specs.declared.config.Config.{Config}
use Rattle.als_engine.specs.Machine.{Machine}
use Rattle.als_reopen.specs.Node.{Node}
use Rattle.als_engine.specs.Restarts.{IsMadeWith, Leaves, IsStarted}
use Rattle.als_ship.specs.Follows.{Crashes as WireCrashes}
use Rattle.als_world.specs.declared.step.WorldStep.{WorldStep}
use Rattle.als_world.specs.declared.step.WorldStep.TheVariants as step
use Rattle.als_world.specs.declared.step.WorldReply.{WorldReply}
use Rattle.als_world.specs.declared.step.WorldReply.TheVariants as reply
use Rattle.als_world.specs.Standing.{Standing, Up, Down}
use Rattle.als_world.specs.Runs.{Opens, Crashes, Steps}

-- what a crash left is begun with again
wire_crash : (config : Config) (old new : Machine) (left : Node) → IsMadeWith config old → Leaves old left → Continues left.said.state (newest old.held) → IsStarted config left new
    → WireCrashes old new
wire_crash config old new left made l continued s = record {
  state = left.said.state;
  among = l.may.state;
  continued = continued;
  newest = ap (λ (states : List ControlState). last_state new.held.control states) s.since ∙ s.control;
  pages = s.made.pages ∙ sym made.pages;
  lost = l.may.rest;
  log = l.may.front ∙ ap (λ (log : List Record). log ++ l.may.rest) (sym s.log);
  ends = ap end_of s.log ∙ l.ends;
  partial = s.partial;
}

-- a restart that succeeds begins with what the devices hold
started : (config : Config) (n : Node) (workers : ℕ) (answer : WorldReply) (new : Machine) (after : List (Option Leased)) → Opens config n workers answer (Up new after) → IsStarted config n new
unfolding Opens
started config n workers (reply.Restarted end) new after o = o.1
started config n workers (reply.Refused cause) new after o = absurd o
started config n workers (reply.Event answer) new after o = absurd o
started config n workers (reply.Lent number batch) new after o = absurd o
started config n workers (reply.Redone lsn) new after o = absurd o
started config n workers reply.Done new after o = absurd o
started config n workers (reply.Answered answer) new after o = absurd o

-- and one that is refused leaves them with it
left_same : (config : Config) (n : Node) (workers : ℕ) (answer : WorldReply) (left : Node) (others : ℕ) → Opens config n workers answer (Down left others) → left ≡ n
unfolding Opens
left_same config n workers (reply.Refused cause) left others o = o.1
left_same config n workers (reply.Restarted end) left others o = absurd o
left_same config n workers (reply.Event answer) left others o = absurd o
left_same config n workers (reply.Lent number batch) left others o = absurd o
left_same config n workers (reply.Redone lsn) left others o = absurd o
left_same config n workers reply.Done left others o = absurd o
left_same config n workers (reply.Answered answer) left others o = absurd o

pub at_once : (config : Config) (old new : Machine) (slots after : List (Option Leased)) (picks : Bor (List ℕ)) (answer : WorldReply) → IsMadeWith config old
    → Steps config (Up old slots) (step.Crash picks) answer (Up new after) → WireCrashes old new
unfolding Steps
at_once config old new slots after picks answer made c =
    wire_crash config old new c.left made c.leaves c.continued (started config c.left (length slots) answer new after c.opens)

pub later : (config : Config) (old new : Machine) (slots after : List (Option Leased)) (picks again : Bor (List ℕ)) (answer restarted : WorldReply) (n : Node) (workers : ℕ)
    → IsMadeWith config old → Steps config (Up old slots) (step.Crash picks) answer (Down n workers) → Steps config (Down n workers) (step.Crash again) restarted (Up new after)
    → WireCrashes old new
unfolding Steps
later config old new slots after picks again answer restarted n workers made c then =
    wire_crash config old new c.left made c.leaves c.continued
    (subst (λ (x : Node). IsStarted config x new) (left_same config c.left (length slots) answer n workers c.opens) (started config n workers restarted new after then))

node_of : Standing → Node → Node
node_of (Up m slots) n = n
node_of (Down left others) n = left

pub still : (config : Config) (n left : Node) (workers others : ℕ) (event : WorldStep) (answer : WorldReply) → Steps config (Down n workers) event answer (Down left others) → left ≡ n
unfolding Steps node_of
still config n left workers others (step.Crash picks) answer s = left_same config n workers answer left others s
still config n left workers others (step.Event event) answer s = ap (λ (x : Standing). node_of x n) s.1
still config n left workers others (step.Read key) answer s = ap (λ (x : Standing). node_of x n) s.1
still config n left workers others (step.Lend page to) answer s = ap (λ (x : Standing). node_of x n) s.1
still config n left workers others (step.Redo at) answer s = ap (λ (x : Standing). node_of x n) s.1
still config n left workers others (step.Hand from to) answer s = ap (λ (x : Standing). node_of x n) s.1
still config n left workers others (step.Give from) answer s = ap (λ (x : Standing). node_of x n) s.1
still config n left workers others (step.Drop from) answer s = ap (λ (x : Standing). node_of x n) s.1
