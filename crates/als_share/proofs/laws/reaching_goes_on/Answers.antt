use Rattle.als_share.proofs.Reached.{reaches-none, reaches-event, reaches-lend, reaches-give}
use Rattle.als_share.proofs.Reached.{reaches-query, from-none, from-event, from-lend, from-give}
use Rattle.als_share.proofs.Reached.{from-query, from-start}
use Rattle.als_share.proofs.laws.reaching_goes_on.Goals as goal

pub returns-clause-begins : goal.returns-clause-begins
returns-clause-begins c = reaches-none

pub returns-clause-event : goal.returns-clause-event
returns-clause-event c = reaches-event

pub returns-clause-lend : goal.returns-clause-lend
returns-clause-lend c = reaches-lend

pub returns-clause-give : goal.returns-clause-give
returns-clause-give c = reaches-give

pub returns-clause-query : goal.returns-clause-query
returns-clause-query c = reaches-query

pub returns-clause-picked : goal.returns-clause-picked
returns-clause-picked c = from-none

pub returns-clause-event_from : goal.returns-clause-event_from
returns-clause-event_from c = from-event

pub returns-clause-lend_from : goal.returns-clause-lend_from
returns-clause-lend_from c = from-lend

pub returns-clause-give_from : goal.returns-clause-give_from
returns-clause-give_from c = from-give

pub returns-clause-query_from : goal.returns-clause-query_from
returns-clause-query_from c = from-query

pub returns-clause-reached : goal.returns-clause-reached
returns-clause-reached c = from-start
