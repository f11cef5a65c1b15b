use Rattle.als_engine.proofs.engine_events.EngineEvents.status.Goals as goal

pub returns-clause-stands : goal.returns-clause-stands
returns-clause-stands g c = λ alone. record {
  valid = c.status.ensures.valid;
  stable = c.status.ensures.stable;
  lent = c.status.ensures.lent;
  listed = c.status.ensures.listed;
  counted = c.status.ensures.counted;
  unlisted = c.status.ensures.unlisted;
  taken = c.status.ensures.taken;
  finished = c.status.ensures.finished;
  log = c.status.ensures.log;
}
