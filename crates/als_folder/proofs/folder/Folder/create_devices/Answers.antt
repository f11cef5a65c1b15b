use Rattle.std.proofs.Common.{inl, inr}
use Rattle.std.proofs.lemmas.Result.{err_from_is_err_and}
use Rattle.als_folder.proofs.folder.Folder.create_devices.Goals as goal

pub returns-in_err-pages-clause-fails : goal.returns-in_err-pages-clause-fails
returns-in_err-pages-clause-fails g c =
    let p = err_from_is_err_and c.from_residual-in_err-pages.result c.from_residual-in_err-pages.ensures.1 in
    rw (p.1, p.2) (inr (inr c.in_err-pages.ensures.fails))

pub returns-in_err-control-clause-fails : goal.returns-in_err-control-clause-fails
returns-in_err-control-clause-fails g c =
    let p = err_from_is_err_and c.from_residual-in_err-control.result c.from_residual-in_err-control.ensures.1 in
    rw (p.1, p.2) (inr (inl c.in_err-control.ensures.fails))
