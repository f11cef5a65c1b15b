-- What an answer of many keys says of each of them.
use Rattle.std.specs.Prelude.{◌≡◌, ℕ, List, map, Option, Some, None}
use Rattle.std.proofs.Common.{refl}
use Rattle.als_record.specs.declared.key.Key.{Key}
use Rattle.als_record.specs.Commits.{Commit}
use Rattle.als_view.specs.Answers.{IsAnswer}
use Rattle.als_view.specs.Many.{image_at, one_of, IsAnswerOfAll}
use Rattle.als_view.specs.declared.many.Many.{Many}

pub of_one_list : (pages : ℕ) (keys : List Key) (known : Option (List Commit)) (a : Many) → IsAnswerOfAll pages keys known a
    → (front : List Commit) × (known ≡ Some front) × (a.images.items ≡ map (image_at pages front) keys)
    × ((key : Key) → IsAnswer pages key known (one_of a (image_at pages front key)))
of_one_list pages keys None a h = absurd h
of_one_list pages keys (Some front) a h = (front, refl, h.0.images, λ key. (record { value = refl; commits = h.0.commits; lsn = h.0.lsn }, h.1))
