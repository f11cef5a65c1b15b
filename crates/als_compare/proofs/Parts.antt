-- A question and an answer, read part by part.
use Rattle.std.proofs.Common.{ℕ, List, [], ◌∷◌, ◌++◌, Option, refl, sym, subst, inl, inr}
use Rattle.std.specs.Io.KnownBytes.{Consumes}
use Rattle.std.specs.Int.{w32, w64, to_be_bytes}
use Rattle.std.proofs.KnownBytes.{Consumes-trans}
use Rattle.als_wire.specs.declared.fault.Fault.{Fault}
use Rattle.als_wire.specs.declared.fault.Fault.TheVariants.{BadHeader, Memory, BadFrame, Cut, Stream}
use Rattle.als_wire.specs.Faults.{IsOfStream}
use Rattle.als_compare.specs.declared.summary.Summary.{Summary}
use Rattle.als_compare.specs.declared.rank.Rank.{Rank}
use Rattle.als_compare.specs.Frames.{question_bytes, rest_bytes}
use Rattle.als_compare.specs.Ids.{id_bytes}
use Rattle.als_compare.specs.Ranks.{rank_bytes, rank_numbers}
use Rattle.als_compare.specs.Reading.{FailsToRead, IsNoTag, IsNoVerdict, IsNoAnswer}

pub rest_read : (a b c d : Option (List ℕ)) (epoch end : ℕ) (digest : List ℕ) → Consumes a b (to_be_bytes w32 epoch) → Consumes b c (to_be_bytes w64 end)
    → Consumes c d digest → Consumes a d (rest_bytes (record { epoch = epoch; end = end; digest = digest }))
unfolding rest_bytes
rest_read a b c d epoch end digest first second third =
    Consumes-trans a b d (to_be_bytes w32 epoch) (to_be_bytes w64 end ++ digest) first (Consumes-trans b c d (to_be_bytes w64 end) digest second third)

pub question_read : (a b c : Option (List ℕ)) (question : Summary) → Consumes a b (86 ∷ []) → Consumes b c (rest_bytes question) → Consumes a c (question_bytes question)
question_read a b c question first second = Consumes-trans a b c (86 ∷ []) (rest_bytes question) first second

pub numbers_read : (a b c : Option (List ℕ)) (seal end : ℕ) → Consumes a b (to_be_bytes w64 seal) → Consumes b c (to_be_bytes w64 end)
    → Consumes a c (rank_numbers (record { seal = seal; end = end }))
unfolding rank_numbers
numbers_read a b c seal end first second = Consumes-trans a b c (to_be_bytes w64 seal) (to_be_bytes w64 end) first second

pub rank_read : (a b c : Option (List ℕ)) (rank : Rank) → Consumes a b (82 ∷ []) → Consumes b c (rank_numbers rank) → Consumes a c (rank_bytes rank)
rank_read a b c rank first second = Consumes-trans a b c (82 ∷ []) (rank_numbers rank) first second

pub id_read : (a b c : Option (List ℕ)) (id : List ℕ) → Consumes a b (73 ∷ []) → Consumes b c id → Consumes a c (id_bytes id)
id_read a b c id first second = Consumes-trans a b c (73 ∷ []) id first second

-- the stream has ended or failed
pub of_stream : (none : List ℕ → Type 0) (f : Fault) (old new : Option (List ℕ)) → IsOfStream f → FailsToRead none f old new
of_stream none f old new (inl e) = subst (λ (x : Fault). FailsToRead none x old new) (sym e) tt
of_stream none f old new (inr e) = subst (λ (x : Fault). FailsToRead none x old new) (sym e) tt

-- what begins no question begins no answer
pub tag_failed : (f : Fault) (old new : Option (List ℕ)) → FailsToRead IsNoTag f old new → FailsToRead IsNoAnswer f old new
tag_failed BadHeader old new failed = failed
tag_failed Memory old new failed = failed
tag_failed BadFrame old new (bytes, none, read) = (bytes, inl none, read)
tag_failed Cut old new failed = tt
tag_failed Stream old new failed = tt

-- no verdict stood behind the first byte
pub verdict_failed : (f : Fault) (a b c : Option (List ℕ)) → Consumes a b (86 ∷ []) → FailsToRead IsNoVerdict f b c → FailsToRead IsNoAnswer f a c
verdict_failed BadHeader a b c tag failed = failed
verdict_failed Memory a b c tag failed = failed
verdict_failed BadFrame a b c tag (part, none, read) = (86 ∷ part, inr (part, none, refl), Consumes-trans a b c (86 ∷ []) part tag read)
verdict_failed Cut a b c tag failed = tt
verdict_failed Stream a b c tag failed = tt
