use Rattle.als_receiver.proofs.HistoryLaws.{history-accounts, histories-alike, refusal-stays}
use Rattle.als_receiver.proofs.history.each_cutting_hands_out_the_same.Goals as goal

pub returns-clause-accounts : goal.returns-clause-accounts
returns-clause-accounts c = history-accounts

pub returns-clause-alike : goal.returns-clause-alike
returns-clause-alike c = histories-alike

pub returns-clause-stays : goal.returns-clause-stays
returns-clause-stays c = refusal-stays
