use Rattle.std.proofs.Common.{inl, inr}
use Rattle.std.proofs.lemmas.Result.{err_from_is_err_and}
use Rattle.als_folder.proofs.folder.Folder.lay_out.Goals as goal

pub returns-in_err-devices-clause-fails : goal.returns-in_err-devices-clause-fails
returns-in_err-devices-clause-fails g c =
    let p = err_from_is_err_and c.from_residual-in_err-devices.result c.from_residual-in_err-devices.ensures.1 in
    rw (p.1, p.2) (inr c.in_err-devices.ensures.fails)

pub returns-in_err-remove_left-clause-fails : goal.returns-in_err-remove_left-clause-fails
returns-in_err-remove_left-clause-fails g c =
    let p = err_from_is_err_and c.from_residual-in_err-remove_left.result c.from_residual-in_err-remove_left.ensures.1 in
    rw (p.1, p.2) (inr c.in_err-remove_left.ensures.fails)

pub returns-in_err-check_not_kept-clause-fails : goal.returns-in_err-check_not_kept-clause-fails
returns-in_err-check_not_kept-clause-fails g c =
    let p = err_from_is_err_and c.from_residual.result c.from_residual.ensures.1 in
    rw (p.1, p.2) (inl c.in_err-check_not_kept.ensures.fails)
