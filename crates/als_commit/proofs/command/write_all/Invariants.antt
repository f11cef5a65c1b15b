use Rattle.als_commit.specs.Printing.{IsPrintable}
use Rattle.als_commit.proofs.command.write_all.Given as goal

-- whatever is true of an engine that goes on from this one, and has its cause
abbrev pub ghosts-write_as : goal.ghosts-write_as
ghosts-write_as g a = record { may_print = IsPrintable g.E.Events.alone g.E.Events.machine a.engine.now }
