-- What commits leave, one after another.
use Rattle.std.proofs.Common.{◌≡◌, ℕ, List, [], ◌∷◌, ◌++◌, length, refl, sym, ap, subst, ◌∙◌, append-nil, length-append, arith}
use Rattle.als_record.specs.declared.record.Record.{Record}
use Rattle.als_record.specs.Spelling.{Image}
use Rattle.als_record.specs.Commits.{Commit, Write, commits_of}
use Rattle.als_commits.specs.Counting.{last_of}
use Rattle.als_view.specs.Images.{AreImagesAfter, written}
use Rattle.als_view.proofs.Folding.{images-after, length-written_by, last-one}
use Rattle.als_lookback.specs.Seen.{Seen, IsSeenOf, HasImages, commit_of, with_commit}

commits-nil : commits_of [] ≡ []
unfolding commits_of
commits-nil = refl

last-nil : last_of [] ≡ 0
unfolding last_of
last-nil = refl

pub seen_none : (images : List Image) (pages : ℕ) → AreImagesAfter images pages [] → IsSeenOf (record { pages = pages; images = images; commits = 0; last = 0 }) pages []
seen_none images pages a = record {
  pages_are = refl;
  images_are = subst (AreImagesAfter images pages) (sym commits-nil) a;
  commits_are = sym (ap (λ (cs : List Commit). length cs) commits-nil);
  last_is = sym (ap last_of commits-nil ∙ last-nil);
}

pub seen_more : (s : Seen) (pages : ℕ) (log longer : List Record) (c : Commit) → IsSeenOf s pages log → commits_of longer ≡ commits_of log ++ c ∷ [] → IsSeenOf (with_commit s c) pages longer
seen_more s pages log longer c i e =
    let one : List Commit = c ∷ [] in
    record {
      pages_are = i.pages_are;
      images_are = subst (AreImagesAfter (with_commit s c).images pages) (sym e) (images-after s.images pages (commits_of log) one i.images_are);
      commits_are = omega (arith, i.commits_are, ap (λ (cs : List Commit). length cs) e, length-append (commits_of log) one);
      last_is = sym (ap last_of e ∙ last-one (commits_of log) c);
    }

pub seen_same : (s : Seen) (pages : ℕ) (log longer : List Record) → IsSeenOf s pages log → commits_of longer ≡ commits_of log ++ [] → IsSeenOf s pages longer
seen_same s pages log longer i e =
    let same : commits_of log ≡ commits_of longer = sym (e ∙ append-nil (commits_of log)) in
    record {
      pages_are = i.pages_are;
      images_are = subst (AreImagesAfter s.images pages) same i.images_are;
      commits_are = i.commits_are ∙ ap (λ (cs : List Commit). length cs) same;
      last_is = i.last_is ∙ ap last_of same;
    }

-- one write more, which no commit of the log made
pub put_one : (s new : Seen) (pages : ℕ) (commits : List Commit) (w : Write) → new.pages ≡ s.pages → new.images ≡ written s.images w → HasImages s pages commits → HasImages new pages (commits ++ commit_of w ∷ [])
put_one s new pages commits w same is h = record {
  pages_are = same ∙ h.pages_are;
  images_are = subst (λ (images : List Image). AreImagesAfter images pages (commits ++ commit_of w ∷ [])) (sym is) (images-after s.images pages commits (commit_of w ∷ []) h.images_are);
}

pub put_count : (images more : List Image) (w : Write) → more ≡ written images w → length more ≡ length images
put_count images more w is = ap (λ (xs : List Image). length xs) is ∙ length-written_by (commit_of w ∷ []) images

pub seen_images : (s : Seen) (pages : ℕ) (log : List Record) → IsSeenOf s pages log → HasImages s pages (commits_of log)
seen_images s pages log i = record { pages_are = i.pages_are; images_are = i.images_are }
