-- What came to the questions for a source's rank, the last one first, and what it takes in front of a session.
use Rattle.std.specs.Prelude.{◌≡◌, ◌≤◌, ℕ, zero, suc, List, [], ◌∷◌}
use Rattle.als_compare.specs.Ids.{id_bytes}
use Rattle.als_operate.specs.declared.replies.Reply.{Reply}
use Rattle.als_operate.specs.declared.replies.Reply.TheVariants.{Rank, HungUp, Silence}
use Rattle.als_operate.specs.declared.replies.Replies.{Replies as Kept}
use Rattle.als_operate.specs.declared.replies.Replies.TheVariants.{Nothing, Came'}
use Rattle.als_operate.specs.declared.introducing.Takes.{Takes}
use Rattle.als_operate.specs.declared.introducing.Takes.TheVariants.{Id, SessionAlone}

-- those that are kept
abbrev pub replies_of : Kept → List Reply
replies_of Nothing = []
replies_of (Came' mark before reply) = reply.value ∷ replies_of before

-- it hung up so many times
abbrev pub hung_up : ℕ → List Reply → List Reply
hung_up zero old = old
hung_up (suc times) old = HungUp ∷ hung_up times old

-- It was asked until it answered, three times at most, and takes an id; or it hung up three times in a row, and takes none. Silence says nothing.
abbrev pub IsKnownBy : List Reply → List Reply → Takes → Type 0
IsKnownBy old new Id = (times : ℕ) × (times ≤ 2) × (new ≡ Rank ∷ hung_up times old)
IsKnownBy old new SessionAlone = new ≡ hung_up 3 old

-- what stands in front of the frames of a session
abbrev pub front_of : Takes → List ℕ → List ℕ
front_of Id id = id_bytes id
front_of SessionAlone id = []
