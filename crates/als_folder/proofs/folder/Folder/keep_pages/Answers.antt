use Rattle.std.proofs.Common.{inl, inr}
use Rattle.std.proofs.lemmas.Result.{err_from_is_err_and}
use Rattle.als_folder.proofs.folder.Folder.keep_pages.Goals as goal

pub returns-in_err-rename : goal.returns-in_err-rename
returns-in_err-rename g c =
    let p = err_from_is_err_and c.from_residual-in_err-rename.result c.from_residual-in_err-rename.ensures.1 in
    record { fails = rw (p.1, p.2) (inr (inr (inr c.in_err-rename.ensures.fails))) }
