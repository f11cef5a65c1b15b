-- What a key has, with one more record.
use Rattle.std.proofs.Common.{◌≡◌, List, [], ◌∷◌, ◌++◌, Option, Some, None, fold, filter_map, refl, ap, ◌∙◌}
use Rattle.std.specs.List.{cons_option}
use Rattle.std.proofs.lemmas.List.Elements.{filter_map-append}
use Rattle.std.proofs.lemmas.List.Sums.{fold-append}
use Rattle.als_record.specs.declared.key.Key.{Key}
use Rattle.als_record.specs.declared.change.Change.{Change}
use Rattle.als_record.specs.declared.record.Record.{Record}
use Rattle.als_record.specs.Spelling.{Image}
use Rattle.als_record.specs.Pages.{change_of}
use Rattle.als_record.specs.Images.{image_after, image_now}

-- what a key has after what redo does for a record
abbrev pub image_with : Key → Image → Option Change → Image
image_with k image None = image
image_with k image (Some change) = image_after k image change

pub image_now-push : (log : List Record) (r : Record) (k : Key) → image_now (log ++ r ∷ []) k ≡ image_with k (image_now log k) (change_of r)
unfolding image_now
image_now-push log r k =
    ap (fold (image_after k) None) (filter_map-append change_of log (r ∷ []))
    ∙ fold-append (image_after k) None (filter_map change_of log) (filter_map change_of (r ∷ []))
    ∙ last (change_of r)
  where
    last : (c : Option Change) → fold (image_after k) (fold (image_after k) None (filter_map change_of log)) (cons_option c []) ≡ image_with k (fold (image_after k) None (filter_map change_of log)) c
    last None = refl
    last (Some change) = refl
