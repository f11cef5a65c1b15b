use Rattle.std.proofs.Common.{◌∙◌, sym, ap, subst}
use Rattle.std.specs.Io.KnownBytes.{Consumes}
use Rattle.als_backup.specs.Texts.{held_in}
use Rattle.als_backup.proofs.Texts.{begun_held}
use Rattle.als_backup.proofs.reading.begin.Goals as goal

pub returns-clause-header : goal.returns-clause-header
returns-clause-header g c =
    let same = c.in_ok-pages.ensures ∙ sym (begun_held c.in_ok-pages.pages) ∙ sym (ap held_in c.in_ok-text.ensures.ok) in
    subst (Consumes (g.R.Read.remaining c.args.reader.now) (g.R.Read.remaining c.read_exact.new.self)) same c.in-Ok.ensures.bytes
