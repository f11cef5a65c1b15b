use Rattle.als_writer.proofs.deciding.check_decidable.Goals as goal

pub returns-in-Err-clause-refused : goal.returns-in-Err-clause-refused
returns-in-Err-clause-refused g c a t = c.not_tidy.ensures (g.E.Events.machine c.args.engine.now) t (c.in-Err.ensures.refused a)
