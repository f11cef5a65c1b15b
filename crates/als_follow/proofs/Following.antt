-- What a primary was told.
use Rattle.std.proofs.Common.{◌≡◌, ℕ, Bool, true, false, List, Option, refl, sym, subst, ◌∙◌}
use Rattle.std.specs.Prelude.{Some, None, Result, Ok, Err, IfSome, OnOk}
use Rattle.std.proofs.lemmas.Bool.{true≢false}
use Rattle.als_record.specs.declared.header.LogHeader.{LogHeader}
use Rattle.als_engine.specs.Machine.{Machine}
use Rattle.als_ship.specs.Sessions.{Follows}
use Rattle.als_ship.specs.Vouching.{TellsVouched}
use Rattle.als_ship.proofs.Vouching.{told_nothing}
use Rattle.als_follow.specs.Answered.{IsAnswered, IsFollowed}

-- a writer that is as it was
pub told_same : {O : Type 0} (contents : O → Option (List ℕ)) (floor : ℕ) (old new : O) → new ≡ old → TellsVouched floor (contents old) (contents new)
told_same contents floor old new same = subst (λ w. TellsVouched floor (contents old) (contents w)) (sym same) (told_nothing floor (contents old))

-- a whole session, whose machine nobody knows
pub is_answered : (header : LogHeader) (old new : Machine) (before behind written more : Option (List ℕ)) → Follows ⊥ header old new before behind written more
    → IsAnswered before behind written more
is_answered header old new before behind written more follows = record { header = header; old = old; new = new; follows = follows }

-- a follower that began
pub followed_begun : {I O Refusal : Type 0} (remaining : I → Option (List ℕ)) (contents : O → Option (List ℕ)) (floor : ℕ) (refusal : Option Refusal) (before behind : I) (written more : O)
    → TellsVouched floor (contents written) (contents more) → (refusal ≡ None → IsAnswered (remaining before) (remaining behind) (contents written) (contents more))
    → IsFollowed remaining contents floor true refusal before behind written more
followed_begun remaining contents floor refusal before behind written more vouched answered = record {
  vouched = vouched;
  answered = λ begun none. answered none;
  reader = λ begun. absurd (true≢false begun);
  writer = λ begun. absurd (true≢false begun);
}

-- one that did not
pub followed_not : {I O Refusal : Type 0} (remaining : I → Option (List ℕ)) (contents : O → Option (List ℕ)) (floor : ℕ) (refusal : Option Refusal) (reader : I) (writer : O)
    → IsFollowed remaining contents floor false refusal reader reader writer writer
followed_not remaining contents floor refusal reader writer = record {
  vouched = told_nothing floor (contents writer);
  answered = λ begun. absurd (true≢false (sym begun));
  reader = λ begun. refl;
  writer = λ begun. refl;
}

-- nothing was refused to it where nothing was refused at all
pub followed_first : {I O Refusal : Type 0} (remaining : I → Option (List ℕ)) (contents : O → Option (List ℕ)) (floor : ℕ) (begun : Bool) (refusal all : Option Refusal) (before behind : I) (written more : O)
    → IsFollowed remaining contents floor begun refusal before behind written more → (all ≡ None → refusal ≡ None)
    → IsFollowed remaining contents floor begun all before behind written more
followed_first remaining contents floor begun refusal all before behind written more follower none = record {
  vouched = follower.vouched;
  answered = λ b n. follower.answered b (none n);
  reader = follower.reader;
  writer = follower.writer;
}

-- how it ended, with both ends of the stream as they then were
pub followed_ended : {I O Refusal F : Type 0} (remaining : I → Option (List ℕ)) (contents : O → Option (List ℕ)) (floor : ℕ) (begun : Bool) (all : Option Refusal) (before behind behind' : I) (written more more' : O)
    (ended : Option (Result (Unit {0}) F)) → IsFollowed remaining contents floor begun all before behind written more
    → IfSome ended (λ e. begun ≡ true) → IfSome ended (λ e. OnOk e (all ≡ None)) → behind' ≡ behind → more' ≡ more
    → IfSome ended (λ e. OnOk e (IsAnswered (remaining before) (remaining behind') (contents written) (contents more')))
followed_ended remaining contents floor begun all before behind behind' written more more' (Some (Ok done)) follower b none reader writer =
    subst (λ r. IsAnswered (remaining before) (remaining r) (contents written) (contents more')) (sym reader)
    (subst (λ w. IsAnswered (remaining before) (remaining behind) (contents written) (contents w)) (sym writer) (follower.answered b none))
followed_ended remaining contents floor begun all before behind behind' written more more' (Some (Err fault)) follower b none reader writer = tt
followed_ended remaining contents floor begun all before behind behind' written more more' None follower b none reader writer = tt

-- and both ends where it was not asked
pub still_reader : {I O Refusal F : Type 0} (remaining : I → Option (List ℕ)) (contents : O → Option (List ℕ)) (floor : ℕ) (begun : Bool) (all : Option Refusal) (before behind behind' : I) (written more : O)
    (ended : Option (Result (Unit {0}) F)) → IsFollowed remaining contents floor begun all before behind written more → (ended ≡ None → begun ≡ false) → behind' ≡ behind → ended ≡ None → behind' ≡ before
still_reader remaining contents floor begun all before behind behind' written more ended follower still same none = same ∙ follower.reader (still none)

pub still_writer : {I O Refusal F : Type 0} (remaining : I → Option (List ℕ)) (contents : O → Option (List ℕ)) (floor : ℕ) (begun : Bool) (all : Option Refusal) (before behind : I) (written more more' : O)
    (ended : Option (Result (Unit {0}) F)) → IsFollowed remaining contents floor begun all before behind written more → (ended ≡ None → begun ≡ false) → more' ≡ more → ended ≡ None → more' ≡ written
still_writer remaining contents floor begun all before behind written more more' ended follower still same none = same ∙ follower.writer (still none)

-- what was told, with the writer and the floor as they then were
pub followed_vouched : {I O Refusal : Type 0} (remaining : I → Option (List ℕ)) (contents : O → Option (List ℕ)) (floor floor' : ℕ) (begun : Bool) (all : Option Refusal) (before behind : I) (written more more' : O)
    → IsFollowed remaining contents floor begun all before behind written more → floor' ≡ floor → more' ≡ more → TellsVouched floor' (contents written) (contents more')
followed_vouched remaining contents floor floor' begun all before behind written more more' follower same writer =
    subst (λ f. TellsVouched f (contents written) (contents more')) (sym same) (subst (λ w. TellsVouched floor (contents written) (contents w)) (sym writer) follower.vouched)

-- a session that is asked again where it answered Ok, and only then
pub asked_again : {I O F : Type 0} (remaining : I → Option (List ℕ)) (contents : O → Option (List ℕ)) (before behind : I) (written more : O) (was after : Option (Result (Unit {0}) F))
    → IfSome was (λ e. OnOk e (IsAnswered (remaining before) (remaining behind) (contents written) (contents more))) → IfSome after (λ e. OnOk e (was ≡ Some (Ok tt)))
    → IfSome after (λ e. OnOk e (IsAnswered (remaining before) (remaining behind) (contents written) (contents more)))
asked_again remaining contents before behind written more was (Some (Ok done)) answered ok = subst (λ w. IfSome w (λ e. OnOk e (IsAnswered (remaining before) (remaining behind) (contents written) (contents more)))) ok answered
asked_again remaining contents before behind written more was (Some (Err fault)) answered ok = tt
asked_again remaining contents before behind written more was None answered ok = tt
