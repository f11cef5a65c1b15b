use Rattle.std.proofs.Common.{◌≡◌, ◌≤◌, length, take, ap, ◌∙◌, take_all, le_refl, leb-true, arith}
use Rattle.als_record.specs.LogText.{end_of}
use Rattle.als_record.specs.Reading.{word_at}
use Rattle.als_log.specs.History.{records_in}
use Rattle.als_scan.proofs.LengthLaws.{read_record-whole}
use Rattle.als_scan.proofs.judge.Judge.is_whole.Goals as goal

pub returns : goal.returns
returns c long =
    let r = c.self.inside.receiver in
    let kept : c.front.result.now ≡ r.kept = c.front.ensures ∙ ap (λ n. take n r.kept) c.partial-kept.ensures ∙ take_all (length r.kept) r.kept (le_refl (length r.kept)) in
    let size : c.word-size.result ≡ word_at 0 r.kept = c.word-size.ensures ∙ ap (word_at 0) kept in
    let head : 28 ≤ length r.kept = omega (arith, c.if-kept-lt-HEAD_LEN.false, c.partial-kept.ensures) in
    let fits : word_at 0 r.kept ≤ length r.kept = omega (arith, size, c.partial-kept.ensures, leb-true c.word-size.result c.partial-kept.result long) in
    rw (← c.self.view_is) (λ none. read_record-whole r.pages (end_of (records_in c.self.inside.history)) r.kept head fits none)
