use Rattle.std.proofs.Common.{◌≡◌, ◌+◌, ◌++◌, take, map, vec_len, vec_capacity}
use Rattle.als_view.specs.Many.{image_at}
use Rattle.als_view.specs.Inside.{pages_at, front_at}
use Rattle.als_view.proofs.inside.Inside.push_images.Given as goal

-- the images of the keys so far were added, and the room is the same
abbrev pub invariant-loop-i : goal.invariant-loop-i
invariant-loop-i l =
    (l.images.items ≡ l.fn.images.items ++ map (image_at (pages_at l.self) (front_at l.self)) (take l.i l.keys))
    × (vec_len l.images ≡ vec_len l.fn.images + l.i)
    × (vec_capacity l.images ≡ vec_capacity l.fn.images)
