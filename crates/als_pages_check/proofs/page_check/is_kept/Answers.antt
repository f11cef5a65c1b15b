use Rattle.std.proofs.Common.{◌≡◌, true, sym, ◌∙◌, ap, subst}
use Rattle.als_record.specs.Spelling.{Image}
use Rattle.als_record.specs.Images.{same_image}
use Rattle.als_record.proofs.Standing.{same_image-true, same_image-refl}
use Rattle.als_pages_check.proofs.page_check.is_kept.Goals as goal

pub returns : goal.returns
returns c =
    let image = c.args.image.now in
    let kept = c.args.kept.now in
    let told : c.is.result ≡ same_image image kept = c.is.ensures ∙ ap (λ (i : Image). same_image i kept) c.of.ensures in (
      (λ same. same_image-true image kept (sym told ∙ same)),
      (λ same. told ∙ subst (λ (i : Image). same_image image i ≡ true) same (same_image-refl image)),
    )
