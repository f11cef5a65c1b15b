use Rattle.als_lead.proofs.filling.take.Goals as goal

pub returns-clause-does : goal.returns-clause-does
returns-clause-does g c = (c.write_tidily-answer.result, c.push_back_reserved.ensures.items, c.write_tidily-answer.ensures.does)
