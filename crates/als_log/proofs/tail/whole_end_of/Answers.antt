use Rattle.std.proofs.Common.{◌≡◌, ◌+◌, subst, sym, ◌∙◌, arith}
use Rattle.als_record.specs.Spelling.{record_len}
use Rattle.als_record.proofs.RecordLaws.{record_len-low}
use Rattle.als_log.specs.History.{records_in}
use Rattle.als_log.specs.Local.{IsFrontEnd}
use Rattle.als_log.proofs.Walks.{Standing, standing, next_end, whole_end-stop, whole_end-at}
use Rattle.als_log.proofs.tail.whole_end_of.Goals as goal

pub word-requires : goal.word-requires
word-requires c =
    let s : Standing (records_in c.args.history.now) c.args.bytes.now c.args.base c.loop-at.at
    = standing (records_in c.args.history.now) c.args.bytes.now c.args.base c.loop-at.at c.requires.text c.loop-at.invariant.front
    (omega (arith, c.requires.low, c.loop-at.invariant.low)) (omega (arith, c.loop-at-test.true, c.requires.limit)) in
    s.within

pub returns-then-limit-next-clause-end : goal.returns-then-limit-next-clause-end
returns-then-limit-next-clause-end c =
    let s : Standing (records_in c.args.history.now) c.args.bytes.now c.args.base c.loop-at.at
    = standing (records_in c.args.history.now) c.args.bytes.now c.args.base c.loop-at.at c.requires.text c.loop-at.invariant.front
    (omega (arith, c.requires.low, c.loop-at.invariant.low)) (omega (arith, c.loop-at-test.true, c.requires.limit)) in
    let len : c.from.result ≡ record_len s.r = c.from.ensures ∙ c.word.ensures ∙ s.len in
    let le = c.loop-at.invariant.order in
    sym (whole_end-stop c.args.limit (records_in c.args.history.now) s.front s.rest s.r s.parts (omega (arith, s.ends, le)) (omega (arith, s.ends, len, c.if-limit-next.true)) ∙ s.ends)

pub loop-at-smaller : goal.loop-at-smaller
loop-at-smaller c =
    let s : Standing (records_in c.args.history.now) c.args.bytes.now c.args.base c.loop-at.at
    = standing (records_in c.args.history.now) c.args.bytes.now c.args.base c.loop-at.at c.requires.text c.loop-at.invariant.front
    (omega (arith, c.requires.low, c.loop-at.invariant.low)) (omega (arith, c.loop-at-test.true, c.requires.limit)) in
    let len : c.from.result ≡ record_len s.r = c.from.ensures ∙ c.word.ensures ∙ s.len in
    omega (arith, len, record_len-low s.r, c.if-limit-next.false, c.loop-at-test.true)

pub loop-at-preserved : goal.loop-at-preserved
loop-at-preserved c =
    let s : Standing (records_in c.args.history.now) c.args.bytes.now c.args.base c.loop-at.at
    = standing (records_in c.args.history.now) c.args.bytes.now c.args.base c.loop-at.at c.requires.text c.loop-at.invariant.front
    (omega (arith, c.requires.low, c.loop-at.invariant.low)) (omega (arith, c.loop-at-test.true, c.requires.limit)) in
    let len : c.from.result ≡ record_len s.r = c.from.ensures ∙ c.word.ensures ∙ s.len in
    record {
      front = subst (λ n. IsFrontEnd (records_in c.args.history.now) (c.loop-at.at + n)) (sym len) (next_end (records_in c.args.history.now) c.args.bytes.now c.args.base c.loop-at.at s);
      low = omega (arith, c.loop-at.invariant.low);
      order = c.if-limit-next.false;
    }

pub returns-clause-end : goal.returns-clause-end
returns-clause-end c =
    let same : c.loop-at.at ≡ c.args.limit = omega (arith, c.loop-at.invariant.order, c.loop-at-test.false) in
    same ∙ sym (whole_end-at c.args.limit (records_in c.args.history.now) (subst (IsFrontEnd (records_in c.args.history.now)) same c.loop-at.invariant.front))
