use Rattle.als_lead.specs.Answers.{asked_of}
use Rattle.als_primary.specs.Telling.{asked_by, told_of}
use Rattle.als_primary.proofs.Waiting.{hands_one}
use Rattle.als_primary.proofs.desk.DeskClients.next.Goals as goal

pub returns-in-Some-clause-taken : goal.returns-in-Some-clause-taken
returns-in-Some-clause-taken g c =
    hands_one (λ t. asked_by t.place t.ticket.question.value) (asked_of (told_of c.args.self.now.account)) c.args.self.now.waiting.items c.push_back_reserved.new.self.items
    c.take-asked.result.1 c.take-asked.result.0 c.push_back_reserved.ensures.items c.take-asked.ensures.asked
