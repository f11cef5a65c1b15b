use Rattle.std.proofs.Common.{◌≡◌, ◌+◌, ◌*◌, ◌++◌, ℕ, List, drop, refl, sym, ap, ap₂, ◌∙◌}
use Rattle.std.proofs.lemmas.List.{drop-drop}
use Rattle.std.proofs.lemmas.Result.{err_from_is_err_and}
use Rattle.byteorder.specs.Endian.{big_number}
use Rattle.als_record.specs.Spelling.{head, record_len}
use Rattle.als_ckpt_codec.proofs.CheckpointLaws.{end_chkpt, end_chkpt-fits, end_chkpt-spelled, tables-found, without_front}
use Rattle.als_ckpt_codec.proofs.checkpoint_codec.decode_tables.Goals as goal

pub returns-clause-found : goal.returns-clause-found
returns-clause-found c =
    let bytes = drop 36 c.args.bytes.now in
    let size = 32 + 21 * c.half.result + 12 * c.half-2.result in
    let logged : c.split_at.result.1.now ≡ head size 7 0 0 0 ++ bytes =
    c.split_at.ensures.back ∙ without_front bytes c.replace_front.new.bytes size (c.replace_front.ensures ∙ ap (λ (xs : List ℕ). xs ++ bytes) c.head_bytes.ensures) in
    rw c.tables_of.ensures (tables-found c.args.pages size (record_len c.in_ok-logged.logged) bytes c.split_at.result.1.now c.in_ok-logged.logged logged c.in_ok-logged.ensures.found.0 c.in_ok-logged.ensures.found.1)

pub returns-clause-only : goal.returns-clause-only
returns-clause-only c ts ps is =
    let bytes = drop 36 c.args.bytes.now in
    let size = 32 + 21 * c.half.result + 12 * c.half-2.result in
    let logged : c.split_at.result.1.now ≡ head size 7 0 0 0 ++ bytes =
    c.split_at.ensures.back ∙ without_front bytes c.replace_front.new.bytes size (c.replace_front.ensures ∙ ap (λ (xs : List ℕ). xs ++ bytes) c.head_bytes.ensures) in
    let counted : size ≡ 32 + 21 * big_number 2 bytes + 12 * big_number 2 (drop 2 bytes) =
    ap₂ (λ (n m : ℕ). 32 + 21 * n + 12 * m) c.half.ensures (c.half-2.ensures ∙ ap (λ (xs : List ℕ). big_number 2 xs) (sym (drop-drop 2 36 c.args.bytes.now))) in
    let spelled = logged ∙ end_chkpt-spelled c.args.pages bytes ts ps is size counted in
    let found : c.in_ok-logged.logged ≡ end_chkpt ts ps = c.in_ok-logged.ensures.only (end_chkpt ts ps) is.rest (end_chkpt-fits c.args.pages ts ps is.fits) refl spelled in
    rw (c.tables_of.ensures, found) refl

pub returns-in_err-logged-clause-only : goal.returns-in_err-logged-clause-only
returns-in_err-logged-clause-only c ts ps is =
    let bytes = drop 36 c.args.bytes.now in
    let size = 32 + 21 * c.half.result + 12 * c.half-2.result in
    let logged : c.split_at.result.1.now ≡ head size 7 0 0 0 ++ bytes =
    c.split_at.ensures.back ∙ without_front bytes c.replace_front.new.bytes size (c.replace_front.ensures ∙ ap (λ (xs : List ℕ). xs ++ bytes) c.head_bytes.ensures) in
    let counted : size ≡ 32 + 21 * big_number 2 bytes + 12 * big_number 2 (drop 2 bytes) =
    ap₂ (λ (n m : ℕ). 32 + 21 * n + 12 * m) c.half.ensures (c.half-2.ensures ∙ ap (λ (xs : List ℕ). big_number 2 xs) (sym (drop-drop 2 36 c.args.bytes.now))) in
    let spelled = logged ∙ end_chkpt-spelled c.args.pages bytes ts ps is size counted in
    let found = c.in_err-logged.ensures.only (end_chkpt ts ps) is.rest (end_chkpt-fits c.args.pages ts ps is.fits) refl spelled in
    let p = err_from_is_err_and c.from_residual.result c.from_residual.ensures.1 in rw (p.1, p.2) found
