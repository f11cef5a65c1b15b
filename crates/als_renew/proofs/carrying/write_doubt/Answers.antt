use Rattle.std.proofs.Common.{subst, ◌∙◌}
use Rattle.std.specs.Io.KnownBytes.{Appends}
use Rattle.als_renew.proofs.carrying.write_doubt.Goals as goal

pub returns-clause-ok : goal.returns-clause-ok
returns-clause-ok g c pages log valid ends new keys h =
    let s = c.in_ok-spelled.ensures.piece pages log valid ends new keys h in
    record {
      ends = s.ends;
      now_is = s.now_is;
      written = subst (Appends (g.W.Write.contents c.args.writer.now) (g.W.Write.contents c.put.new.writer)) (c.deref.ensures.value ∙ s.spelled) c.in_ok-put.ensures.ok;
    }
