use Rattle.std.proofs.Common.{sym, subst}
use Rattle.std.specs.Io.KnownBytes.{Consumes}
use Rattle.std.proofs.KnownBytes.{Consumes-trans}
use Rattle.als_backup.specs.Texts.{held_in}
use Rattle.als_backup.proofs.reading.recall.Goals as goal

pub returns-clause-all : goal.returns-clause-all
returns-clause-all g c =
    let first = g.R.Read.remaining c.args.reader.now in
    let mid = g.R.Read.remaining c.begin.new.reader in
    let last = g.R.Read.remaining c.add_all.new.reader in
    let a = c.in_ok-add_all.ensures.all in
    subst (Consumes first last) (sym a.1) (Consumes-trans first mid last (held_in c.in_ok-text.text) a.0 c.in_ok-text.ensures.header a.2)
