use Rattle.std.proofs.Common.{◌≡◌, ◌==◌, ◌+◌, ℕ, cond, refl, sym, arith, subst}
use Rattle.std.specs.Io.KnownBytes.{Appends}
use Rattle.als_record.specs.LogText.{header_bytes}
use Rattle.als_renew.specs.Renewed.{WritesPages}
use Rattle.als_renew.proofs.Written.{pages-header, pages-page}
use Rattle.als_renew.proofs.beginning.write_pages.Goals as goal

pub loop-page-init : goal.loop-page-init
loop-page-init g c = record {
  room = omega arith;
  so_far = λ held is. pages-header c.args.seen.now.pages held (g.W.Write.contents c.args.writer.now) (g.W.Write.contents c.put_header.new.writer) 16 refl
      (subst (λ n. Appends (g.W.Write.contents c.args.writer.now) (g.W.Write.contents c.put_header.new.writer) (header_bytes n)) c.pages.ensures c.in_ok-put_header.ensures.ok);
}

pub loop-page-preserved : goal.loop-page-preserved
loop-page-preserved g c =
    let before = c.loop-page.invariant in
    record {
      room = omega (arith, before.room, c.in_ok-next.ensures.most);
      so_far = λ held is.
          let s = before.so_far held is in
          let page : WritesPages c.args.seen.now.pages (c.loop-page.page + 1) held (g.W.Write.contents c.args.writer.now) (g.W.Write.contents c.write_page.new.writer) (cond (c.in_ok-next.next.0 == c.loop-page.end.0) c.loop-page.greatest.0 (c.loop-page.page + 1)) c.in_ok-next.next.0 =
          pages-page c.args.seen.now.pages c.loop-page.page held (g.W.Write.contents c.args.writer.now) (g.W.Write.contents c.loop-page.writer) (g.W.Write.contents c.write_page.new.writer) c.loop-page.greatest.0 c.loop-page.end.0 c.in_ok-next.next.0 s
          (c.in_ok-next.ensures.ok held s.log is s.below s.ends) in
          subst (λ (n : ℕ). WritesPages c.args.seen.now.pages (c.loop-page.page + 1) held (g.W.Write.contents c.args.writer.now) (g.W.Write.contents c.write_page.new.writer) n c.in_ok-next.next.0) (sym c.greatest_behind-greatest.ensures) page;
    }

pub returns-clause-ok : goal.returns-clause-ok
returns-clause-ok g c held is =
    let pages = c.args.seen.now.pages in
    let whole : c.loop-page.page ≡ pages = omega (arith, c.loop-page-test.false, c.pages-page-end.ensures, c.loop-page.auto.page-end) in
    subst (λ n. WritesPages pages n held (g.W.Write.contents c.args.writer.now) (g.W.Write.contents c.loop-page.writer) c.loop-page.greatest.0 c.loop-page.end.0) whole (c.loop-page.invariant.so_far held is)
