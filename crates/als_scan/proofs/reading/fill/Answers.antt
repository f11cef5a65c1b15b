use Rattle.std.proofs.Common.{◌∙◌, ap}
use Rattle.als_scan.specs.Judged.{Judged}
use Rattle.als_scan.proofs.TextLaws.{stands-same}
use Rattle.als_scan.proofs.reading.fill.Goals as goal

pub loop-judge-preserved : goal.loop-judge-preserved
loop-judge-preserved g c =
    let i = c.loop-judge.invariant in
    let r = c.read_more.ensures in
    let kept = c.read_more.new.judge.kept in
    record {
      log = r.log ∙ ap (λ (x : Judged). record x { kept = kept }) i.log;
      reads = λ text stands before. c.in_ok-read_more.ensures.ok text (stands-same (g.D.BlockDisk.slot c.args.disk.now) (g.D.BlockDisk.slot c.loop-judge.disk) text c.args.mark i.same stands) (i.reads text stands before);
      within = c.in_ok-read_more.ensures.more.1;
      same = λ k. r.same k ∙ i.same k;
      count = r.count ∙ i.count;
      attempts = r.attempts ∙ i.attempts;
      failures = c.in_ok-read_more.ensures.done ∙ i.failures;
    }
