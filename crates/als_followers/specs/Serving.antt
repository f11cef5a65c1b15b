-- What a session of a node's log tells of its follower, whatever ended it, and what became of one that ended well.
use Rattle.std.specs.Prelude.{◌⊎◌, ℕ, List, [], Option}
use Rattle.als_sending.specs.Reads.{Read}
use Rattle.als_comparing.specs.Serving.{IsAsked, IsHeard, EndsWell}

-- Nothing was acknowledged, as a question about the log began. Or what was acknowledged are the answers that were read behind the question of a follower whom
-- a log of this page count and this history admits, up to some end, in order, and nothing else; no more than the window of frames is without one.
abbrev pub IsOfSession : ℕ → ℕ → List ℕ → Option (List ℕ) → List ℕ → List ℕ → Option (List ℕ) → Option (List ℕ) → Option (List ℕ) → Option (List ℕ) → Type 0
IsOfSession window pages own asked heard heard_now begun begun_now old new = IsAsked asked heard heard_now begun begun_now
    ⊎ ((end : ℕ) × IsHeard window pages end own asked heard heard_now begun begun_now old new)

-- It ended well, for some end and some reads, which are all its own: a question about the log of this page count and this history was answered; or the pieces
-- that were read of it, from where the follower goes on to that end, were sent, each frame was answered, and n log bytes were new to the follower.
abbrev pub EndsSession : ℕ → List ℕ → Option (List ℕ) → Option (List ℕ) → List ℕ → List ℕ → Option (List ℕ) → Option (List ℕ) → Option (List ℕ) → Option (List ℕ) → ℕ → Type 0
EndsSession pages own asked behind heard heard_now begun begun_now old new n =
    (end : ℕ) × (reads : List Read) × EndsWell pages end own [] reads asked behind heard heard_now begun begun_now old new n
