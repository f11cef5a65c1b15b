use Rattle.als_inspect.proofs.log_text.control_state.Goals as goal

pub read_state-requires-clause-settled : goal.read_state-requires-clause-settled
read_state-requires-clause-settled c = c.in-Ok.ensures.settled 0
