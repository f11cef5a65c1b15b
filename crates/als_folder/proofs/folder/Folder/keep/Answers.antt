use Rattle.std.proofs.Common.{inl, inr}
use Rattle.std.proofs.lemmas.Result.{err_from_is_err_and}
use Rattle.als_folder.proofs.folder.Folder.keep.Goals as goal

pub returns-in_err-rename-2 : goal.returns-in_err-rename-2
returns-in_err-rename-2 g c =
    let p = err_from_is_err_and c.from_residual-in_err-rename-2.result c.from_residual-in_err-rename-2.ensures.1 in
    record { fails = rw (p.1, p.2) (inr (inr (inr c.in_err-rename-2.ensures.fails))) }

pub returns-in_err-rename-3 : goal.returns-in_err-rename-3
returns-in_err-rename-3 g c =
    let p = err_from_is_err_and c.from_residual-in_err-rename-3.result c.from_residual-in_err-rename-3.ensures.1 in
    record { fails = rw (p.1, p.2) (inr (inr (inl c.in_err-rename-3.ensures.fails))) }

pub returns-in_err-check_not_kept : goal.returns-in_err-check_not_kept
returns-in_err-check_not_kept g c =
    let p = err_from_is_err_and c.from_residual.result c.from_residual.ensures.1 in
    record { fails = rw (p.1, p.2) (inl c.in_err-check_not_kept.ensures.fails) }

pub returns-in_err-rename : goal.returns-in_err-rename
returns-in_err-rename g c =
    let p = err_from_is_err_and c.from_residual-in_err-rename.result c.from_residual-in_err-rename.ensures.1 in
    record { fails = rw (p.1, p.2) (inr (inl c.in_err-rename.ensures.fails)) }
