use Rattle.std.proofs.Common.{◌≡◌, sym, subst}
use Rattle.als_lead.specs.declared.asked.Asked.{Asked}
use Rattle.als_lead.specs.Answers.{asked_of}
use Rattle.als_primary.specs.Telling.{asked_by, told_of}
use Rattle.als_primary.proofs.Waiting.{first_waits, none_leaves, some_waits, tells_asked}
use Rattle.als_primary.proofs.desk.DeskClients.tell.Goals as goal

pub put-requires : goal.put-requires
put-requires g c =
    let first : asked_by c.in-Some.taken.place c.in-Some.taken.ticket.question.value ≡ c.args.asked =
    first_waits (λ t. asked_by t.place t.ticket.question.value) (asked_of (told_of c.args.self.now.account)) c.args.self.now.waiting.items c.pop_front.new.self.items
    c.in-Some.taken c.args.asked c.requires.next.0 c.requires.next.1 c.in-Some.ensures.items in
    record { may = subst (λ (a : Asked). g.O.Oath.may_tell a.work c.args.answer) (sym first) c.requires.may }

pub unreachable-requires : goal.unreachable-requires
unreachable-requires g c =
    some_waits (λ t. asked_by t.place t.ticket.question.value) (asked_of (told_of c.args.self.now.account)) c.args.self.now.waiting.items c.args.asked
    c.requires.next.0 c.requires.next.1 (none_leaves c.args.self.now.waiting.items c.pop_front.new.self.items c.in-None.ensures.items c.in-None.ensures.rest)

pub returns-clause-told : goal.returns-clause-told
returns-clause-told g c =
    let first : asked_by c.in-Some.taken.place c.in-Some.taken.ticket.question.value ≡ c.args.asked =
    first_waits (λ t. asked_by t.place t.ticket.question.value) (asked_of (told_of c.args.self.now.account)) c.args.self.now.waiting.items c.pop_front.new.self.items
    c.in-Some.taken c.args.asked c.requires.next.0 c.requires.next.1 c.in-Some.ensures.items in
    tells_asked (told_of c.args.self.now.account) (told_of c.put.new.self.account) (asked_by c.in-Some.taken.place c.in-Some.taken.ticket.question.value) c.args.asked c.args.answer c.put.ensures.told first
