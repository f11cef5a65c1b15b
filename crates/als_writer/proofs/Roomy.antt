-- The room of a transaction, one write after another.
use Rattle.std.proofs.Common.{◌≡◌, ℕ, ◌+◌, ◌*◌, List, [], ◌∷◌, ◌++◌, map, sum_by, refl, ap, ◌∙◌, arith}
use Rattle.std.proofs.lemmas.List.{map-append}
use Rattle.std.proofs.lemmas.List.Sums.{sum_by-cons, sum_by-append}
use Rattle.als_record.specs.declared.record.Record.{Record}
use Rattle.als_record.specs.Spelling.{record_len, image_len}
use Rattle.als_record.specs.Images.{image_now}
use Rattle.als_record.specs.Tail.{undo_len}
use Rattle.als_record.specs.Commits.{Write}
use Rattle.als_writing.specs.Writing.{Writes, record_for, moved, updates, room_for}
use Rattle.als_writing.proofs.Moved.{moved-push}

pub room_for-none : (log : List Record) (t : ℕ) → room_for log t [] ≡ 28
unfolding room_for updates moved
room_for-none log t = refl

one_sum : (f : Record → ℕ) (r : Record) → sum_by f (r ∷ []) ≡ f r
one_sum f r = let e : sum_by f (r ∷ []) ≡ f r + sum_by f [] = sum_by-cons f r [] in omega arith

pushed_sum : (f : Record → ℕ) (us : List Record) (r : Record) → sum_by f (us ++ r ∷ []) ≡ sum_by f us + f r
pushed_sum f us r = sum_by-append f us (r ∷ []) ∙ ap (λ (n : ℕ). sum_by f us + n) (one_sum f r)

pub room_for-more : (log : List Record) (t : ℕ) (ws : List Write) (w : Write) → room_for log t (ws ++ w ∷ []) ≡ room_for log t ws + (77 + 2 * image_len (image_now (log ++ moved log t (map Writes ws)) w.key) + image_len w.after)
unfolding room_for updates record_len
room_for-more log t ws w =
    let us : List Record = moved log t (map Writes ws) in
    let r : Record = record_for (log ++ us) t (Writes w) in
    let e : moved log t (map Writes (ws ++ w ∷ [])) ≡ us ++ r ∷ [] = ap (moved log t) (map-append Writes ws (w ∷ [])) ∙ moved-push log t (map Writes ws) (Writes w) in
    let a : sum_by record_len (moved log t (map Writes (ws ++ w ∷ []))) ≡ sum_by record_len us + record_len r = ap (sum_by record_len) e ∙ pushed_sum record_len us r in
    let b : sum_by undo_len (moved log t (map Writes (ws ++ w ∷ []))) ≡ sum_by undo_len us + undo_len r = ap (sum_by undo_len) e ∙ pushed_sum undo_len us r in
    omega arith
