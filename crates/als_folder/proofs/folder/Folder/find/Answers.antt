use Rattle.std.proofs.Common.{inr}
use Rattle.std.proofs.lemmas.Result.{err_from_is_err_and}
use Rattle.als_folder.proofs.folder.Folder.find.Goals as goal

pub returns-in_err-pages : goal.returns-in_err-pages
returns-in_err-pages g c =
    let p = err_from_is_err_and c.from_residual-in_err-pages.result c.from_residual-in_err-pages.ensures.1 in
    record { fails = rw (p.1, p.2) (inr (inr (inr c.in_err-pages.ensures.fails))) }
