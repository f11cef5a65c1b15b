use Rattle.std.proofs.Common.{subst}
use Rattle.als_engine.specs.declared.config.Config.{Config}
use Rattle.als_world.specs.Runs.{Run}
use Rattle.als_world.specs.Slots.{no_leases}
use Rattle.als_world.specs.Standing.{Up}
use Rattle.als_tests_standby.proofs.trials.worlds.run_anew.Goals as goal

pub returns-in-Ok-run : goal.returns-in-Ok-run
returns-in-Ok-run g c =
    let shows = c.in-Ok.ensures.shows in
    let ends = c.in-Ok-run.ensures.run (Up shows.0 (no_leases c.args.workers)) shows.2 in
    let run = subst (λ (x : Config). Run x (Up shows.0 (no_leases c.args.workers)) c.args.steps.now c.in-Ok-run.after.1.items ends.0) c.in-Ok.ensures.config ends.2 in
    record { headline = (shows.0, shows.1, (ends.0, ends.1, run, ends.3, ends.4)) }
