use Rattle.std.proofs.Common.{◌≡◌, ◌<◌, ◌∙◌, true, false, length, nat_lt, sym, ap, lt-ltb}
use Rattle.als_record.specs.LogText.{end_of}
use Rattle.als_log.specs.History.{records_in}
use Rattle.als_receiver.proofs.ReadingLaws.{read_record-short}
use Rattle.als_lookback.proofs.judge.Judge.is_short.Goals as goal

pub returns : goal.returns
returns c long =
    let r = c.self.inside.receiver in
    rw (← c.self.view_is) (λ none.
    let lt : length r.kept < 54560 = read_record-short r.pages (end_of (records_in c.self.inside.history)) r.kept none in
    let is : nat_lt c.partial.result 54560 ≡ true = ap (λ n. nat_lt n 54560) c.partial.ensures ∙ lt-ltb (length r.kept) 54560 lt in
    let both : false ≡ true = sym long ∙ is in
    cc both)
