use Rattle.std.proofs.Common.{◌≡◌, ◌++◌, length}
use Rattle.std.specs.List.{AllByRecursion}
use Rattle.als_lead.specs.Answers.{asked_of}
use Rattle.als_lead.specs.Groups.{answer_after, all_after}
use Rattle.als_lead.proofs.telling.tell_all.Given as goal

abbrev pub invariant-tell : goal.invariant-tell
invariant-tell g l = record {
  owed : AllByRecursion (λ x. g.C.Clients.may_tell x.asked (answer_after l.forced x.asked.work x.answer)) l.queue.items;
  told : g.C.Clients.told l.clients ++ all_after l.forced l.queue.items ≡ g.C.Clients.told l.fn.clients ++ all_after l.forced l.fn.queue.items;
  waiting : g.C.Clients.taken l.clients ≡ asked_of (g.C.Clients.told l.clients) ++ asked_of l.queue.items;
  taken : g.C.Clients.taken l.clients ≡ g.C.Clients.taken l.fn.clients;
}

abbrev pub decreases-tell : goal.decreases-tell
decreases-tell g l = length l.queue.items
