-- A run of events behind another one, and one of a single event.
use Rattle.std.proofs.Common.{List, [], ◌∷◌, ◌++◌, Result, Ok, Err, refl, sym, subst, append_assoc, append-nil}
use Rattle.als_engine.specs.declared.fault.Fault.{Fault}
use Rattle.als_engine.specs.declared.step.Step.{Step}
use Rattle.als_engine.specs.declared.step.Step.TheVariants as step
use Rattle.als_engine.specs.declared.step.Reply.{Reply}
use Rattle.als_engine.specs.declared.step.Reply.TheVariants as reply
use Rattle.als_engine.specs.Events.{Resyncs}
use Rattle.als_engine.specs.Publishing.{PublishesView}
use Rattle.als_engine.specs.Machine.{Machine, Keeps}
use Rattle.als_engine.specs.Telling.{Stands}
use Rattle.als_share.specs.Reaching.{Run, Begins, Goes, Lending, Giving, Queries, Reaches, ReachesFollowing}
use Rattle.als_share.proofs.Following.{following-none, others-both}
use Rattle.als_share.proofs.Reached.{reaches-none, reaches-event, reaches-lend, reaches-give, reaches-query}

pub reaches_self : (m : Machine) → Reaches m m
reaches_self m = reaches-none m

reaches_run : (a b c : Machine) (events : List Step) (replies : List Reply) → Reaches a b → Run b events replies c → Reaches a c
reaches_run a b _ _ _ r Begins = r
reaches_run a b _ _ _ r (Goes events replies mid run event reply new makes) =
    reaches-event a mid event reply new (reaches_run a b mid events replies r run) makes
reaches_run a b _ _ _ r (Lending events replies mid run page answer new makes) =
    reaches-lend a mid page answer new (reaches_run a b mid events replies r run) makes
reaches_run a b _ _ _ r (Giving events replies mid run lease answer new makes) =
    reaches-give a mid lease answer new (reaches_run a b mid events replies r run) makes
reaches_run a b _ _ _ r (Queries events replies mid run new asks) =
    reaches-query a mid new (reaches_run a b mid events replies r run) asks

pub reaches_both : (a b c : Machine) → Reaches a b → Reaches b c → Reaches a c
reaches_both a b c r s = reaches_run a b c s.events s.replies r s.run

pub reaches_resync : (old new : Machine) (answer : Result (Unit {0}) Fault) → Resyncs old answer new → Keeps old new → Stands new → Reaches old new
reaches_resync old new (Ok tt) acts keeps stands =
    reaches-event old old step.Resync reply.Done new (reaches-none old) (record { steps = acts; keeps = keeps; stands = stands })
reaches_resync old new (Err fault) acts keeps stands =
    reaches-event old old step.Resync (reply.Refused fault) new (reaches-none old) (record { steps = acts; keeps = keeps; stands = stands })

pub reaches_publish : (old new : Machine) (answer : Result (Unit {0}) Fault) → PublishesView old answer new → Keeps old new → Stands new → Reaches old new
reaches_publish old new (Ok tt) acts keeps stands =
    reaches-event old old step.PublishView reply.Done new (reaches-none old) (record { steps = acts; keeps = keeps; stands = stands })
reaches_publish old new (Err fault) acts keeps stands =
    reaches-event old old step.PublishView (reply.Refused fault) new (reaches-none old) (record { steps = acts; keeps = keeps; stands = stands })

-- ---- without events of a takeover

pub follows_self : (m : Machine) → ReachesFollowing m m
follows_self m = following-none m

-- the events of both runs, one behind the other
run_both : (a b c : Machine) (before : List Step) (told : List Reply) (events : List Step) (replies : List Reply) → Run a before told b → Run b events replies c → Run a (before ++ events) (told ++ replies) c
run_both a b _ before told _ _ r Begins =
    subst (λ (es : List Step). Run a es (told ++ []) b) (sym (append-nil before)) (subst (λ (rs : List Reply). Run a before rs b) (sym (append-nil told)) r)
run_both a b _ before told _ _ r (Goes events replies mid run event reply new makes) =
    subst (λ (es : List Step). Run a es (told ++ (replies ++ reply ∷ [])) new) (append_assoc before events (event ∷ []))
    (subst (λ (rs : List Reply). Run a ((before ++ events) ++ event ∷ []) rs new) (append_assoc told replies (reply ∷ []))
    (Goes (before ++ events) (told ++ replies) mid (run_both a b mid before told events replies r run) event reply new makes))
run_both a b _ before told _ _ r (Lending events replies mid run page answer new makes) =
    Lending (before ++ events) (told ++ replies) mid (run_both a b mid before told events replies r run) page answer new makes
run_both a b _ before told _ _ r (Giving events replies mid run lease answer new makes) =
    Giving (before ++ events) (told ++ replies) mid (run_both a b mid before told events replies r run) lease answer new makes
run_both a b _ before told _ _ r (Queries events replies mid run new asks) =
    Queries (before ++ events) (told ++ replies) mid (run_both a b mid before told events replies r run) new asks

pub follows_both : (a b c : Machine) → ReachesFollowing a b → ReachesFollowing b c → ReachesFollowing a c
follows_both a b c r s = record {
  events = r.events ++ s.events;
  replies = r.replies ++ s.replies;
  run = run_both a b c r.events r.replies s.events s.replies r.run s.run;
  follows = others-both r.events s.events r.follows s.follows;
}

pub follows_resync : (old new : Machine) (answer : Result (Unit {0}) Fault) → Resyncs old answer new → Keeps old new → Stands new → ReachesFollowing old new
follows_resync old new (Ok tt) acts keeps stands = record {
  events = step.Resync ∷ [];
  replies = reply.Done ∷ [];
  run = Goes [] [] old Begins step.Resync reply.Done new (record { steps = acts; keeps = keeps; stands = stands });
  follows = (refl, tt);
}
follows_resync old new (Err fault) acts keeps stands = record {
  events = step.Resync ∷ [];
  replies = reply.Refused fault ∷ [];
  run = Goes [] [] old Begins step.Resync (reply.Refused fault) new (record { steps = acts; keeps = keeps; stands = stands });
  follows = (refl, tt);
}

pub follows_publish : (old new : Machine) (answer : Result (Unit {0}) Fault) → PublishesView old answer new → Keeps old new → Stands new → ReachesFollowing old new
follows_publish old new (Ok tt) acts keeps stands = record {
  events = step.PublishView ∷ [];
  replies = reply.Done ∷ [];
  run = Goes [] [] old Begins step.PublishView reply.Done new (record { steps = acts; keeps = keeps; stands = stands });
  follows = (refl, tt);
}
follows_publish old new (Err fault) acts keeps stands = record {
  events = step.PublishView ∷ [];
  replies = reply.Refused fault ∷ [];
  run = Goes [] [] old Begins step.PublishView (reply.Refused fault) new (record { steps = acts; keeps = keeps; stands = stands });
  follows = (refl, tt);
}
