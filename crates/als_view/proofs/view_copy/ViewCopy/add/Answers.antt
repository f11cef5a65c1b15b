use Rattle.std.proofs.Common.{List, [], ◌∷◌, ◌++◌, ◌≡◌, ap, sym, ◌∙◌, subst}
use Rattle.als_record.specs.Spelling.{Image}
use Rattle.als_record.specs.Commits.{Commit}
use Rattle.als_commits.specs.Counting.{last_of}
use Rattle.als_view.specs.Images.{AreImagesAfter}
use Rattle.als_view.proofs.Folding.{images-after, last-one}
use Rattle.als_view.proofs.view_copy.ViewCopy.add.Goals as goal

pub invariant_of-self-clause-kept : goal.invariant_of-self-clause-kept
invariant_of-self-clause-kept c =
    let s = c.args.self.now in
    let one : List Commit = c.args.commit.now ∷ [] in
    let pushed : c.push_reserved.new.self.items ≡ s.list.items ++ one = c.push_reserved.ensures.items ∙ ap (λ (x : Commit). s.list.items ++ x ∷ []) c.of.ensures in
    subst (λ (cs : List Commit). AreImagesAfter c.write_commit.new.images.items s.pages cs) (sym pushed)
    (subst (λ (images : List Image). AreImagesAfter images s.pages (s.list.items ++ one)) (sym c.write_commit.ensures) (images-after s.images.items s.pages s.list.items one s.kept))

pub invariant_of-self-clause-last_is : goal.invariant_of-self-clause-last_is
invariant_of-self-clause-last_is c =
    let s = c.args.self.now in
    let pushed : c.push_reserved.new.self.items ≡ s.list.items ++ c.args.commit.now ∷ [] = c.push_reserved.ensures.items ∙ ap (λ (x : Commit). s.list.items ++ x ∷ []) c.of.ensures in
    ap (λ (x : Commit). x.lsn.0) c.commit.view_is ∙ sym (last-one s.list.items c.args.commit.now) ∙ ap last_of (sym pushed)
