use Rattle.std.proofs.Common.{◌≡◌, ◌<◌, ◌≤◌, ◌^◌, List, ℕ, arith, sym, ap, subst, ◌∙◌}
use Rattle.std.specs.Io.KnownBytes.{Appends}
use Rattle.als_renew.proofs.Generations.{IsWrittenBelow-more, IsUnwritten-below}
use Rattle.als_renew.proofs.beginning.write_page.Goals as goal

pub returns-clause-ok : goal.returns-clause-ok
returns-clause-ok g c held log is below ends =
    let page = c.args.page in
    let pages = c.args.seen.now.pages in
    let s = c.in_ok-spelled.ensures.piece held log is (IsUnwritten-below pages page held log c.args.end.0 below ends) in
    let images = c.in_ok-spelled.ensures.images held is in
    record {
      below = IsWrittenBelow-more pages page held log below c.requires.page c.requires.few images
          (omega (arith, sym s.ends, c.in_ok-spelled.ensures.most, ends, below.length_is));
      ends = s.ends;
      written = subst (Appends (g.W.Write.contents c.args.writer.now) (g.W.Write.contents c.put.new.writer)) (c.deref.ensures.value ∙ s.spelled) c.in_ok-put.ensures.ok;
    }
