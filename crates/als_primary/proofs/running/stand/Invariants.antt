use Rattle.als_primary.specs.Telling.{IsPromised}
use Rattle.als_primary.proofs.running.stand.Given as goal

-- the book that was just opened
abbrev pub ghosts-stand_as-J-Naming : goal.ghosts-stand_as-J-Naming
ghosts-stand_as-J-Naming g a = record { book = a.opened.seen.book }

-- whatever is promised of this engine, with as many followers at these addresses as were asked for
abbrev pub ghosts-stand_as-O-Oath : goal.ghosts-stand_as-O-Oath
ghosts-stand_as-O-Oath g a = record { may_tell = IsPromised g.E.Events.alone g.E.Events.machine a.engine.now a.shipping.allowed.blocks.items a.serving.sync }
