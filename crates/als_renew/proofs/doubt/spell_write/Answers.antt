use Rattle.std.proofs.Common.{◌≡◌, refl, sym, ap, subst, ◌∙◌}
use Rattle.als_record.specs.declared.key.Key.{Key as AnyKey}
use Rattle.als_record.specs.declared.record.Body.TheVariants.{Update}
use Rattle.als_record.specs.Spelling.{Image, IsKey}
use Rattle.als_record.specs.Images.{image_now}
use Rattle.als_record.specs.Commits.{Write as AnyWrite}
use Rattle.als_writing.specs.Writing.{Writes, body_for}
use Rattle.als_renew.proofs.Doubting.{found-now, now-written}
use Rattle.als_renew.proofs.doubt.spell_write.Goals as goal

pub returns-clause-spelled : goal.returns-clause-spelled
returns-clause-spelled c pages log place is h =
    let t = c.args.place.now.trans.0 in
    let w : AnyWrite = c.args.write.now in
    let k : AnyKey = c.write.inside.key in
    let key : k ≡ w.key = ap (λ (x : AnyWrite). x.key) c.write.view_is in
    let before : c.value-before.result ≡ image_now log k = found-now pages log c.args.now.now h k c.value-before.result (subst (IsKey pages) (sym key) is) (c.value-before.ensures.put pages h.commits h.images) in
    let says : Update k c.value-before.result c.image-after.result ≡ body_for log (Writes w) =
    ap (λ (i : Image). Update k i c.image-after.result) before
    ∙ ap (λ (i : Image). Update k (image_now log k) i) (c.image-after.ensures ∙ ap (λ (x : AnyWrite). x.after) c.write.view_is)
    ∙ ap (λ (q : AnyKey). Update q (image_now log q) w.after) key in (
      c.in_ok-spell.ensures.spelled log (Writes w) place says,
      c.in_ok-spell.ensures.goes_on log (Writes w) place says refl refl,
      now-written pages log t w c.args.now.now c.put.new.self h (c.put.ensures pages h.commits h.images),
    )
