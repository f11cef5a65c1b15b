-- What was seen of the held log, and what a primary was asked about it and answered; the last one first.
use Rattle.std.specs.Prelude.{◌≡◌, ◌≤◌, ◌⊎◌, ℕ, zero, suc, nat_lt, ◌&&◌, List, [], ◌∷◌, Bool, true, false, Option, Some, None, is_some}
use Rattle.als_compare.specs.declared.summary.Summary.{Summary}
use Rattle.als_compare.specs.declared.verdict.Verdict.{Verdict}
use Rattle.als_compare.specs.declared.verdict.Verdict.TheVariants.{Same, Other, Shorter, Parted}
use Rattle.als_compare.specs.Verdicts.{said_first}
use Rattle.als_service.specs.declared.standing.Standing.{Standing}
use Rattle.als_service.specs.declared.inquiries.Inquiries.{Inquiries as Kept}
use Rattle.als_service.specs.declared.inquiries.Inquiries.TheVariants.{Nothing, Looked', Asked', Begun'}

-- It was looked what is held; or a question, and what came, None where the primary hung up or sent no answer; or questions about how the held log
-- begins, and what came, None where nothing could be told.
pub data Inquiry : Type 0 where
  Looked : Standing → Inquiry
  Put : Summary → Option Verdict → Inquiry
  AsksOfFront : Option Verdict → Inquiry

-- those that are kept
abbrev pub inquiries_of : Kept → List Inquiry
inquiries_of Nothing = []
inquiries_of (Looked' mark before standing) = Looked standing.value ∷ inquiries_of before
inquiries_of (Asked' mark before question answer) = Put question.value answer.value ∷ inquiries_of before
inquiries_of (Begun' mark before answer) = AsksOfFront answer.value ∷ inquiries_of before

-- a question that nobody answered, so many times
abbrev pub unanswered : ℕ → Summary → List Inquiry → List Inquiry
unanswered zero question old = old
unanswered (suc times) question old = Put question None ∷ unanswered times question old

-- a question was asked until an answer came, three times at most: that is the answer
abbrev pub IsAsked : Summary → List Inquiry → List Inquiry → Option Verdict → Type 0
IsAsked question old new (Some verdict) =
    (times : ℕ) × (times ≤ 2) × (new ≡ Put question (Some verdict) ∷ unanswered times question old)
IsAsked question old new None = new ≡ unanswered 3 question old

-- a primary that answers so has no other log: the follower's, or one of which the session says how it parts
abbrev pub LetsFollow : Verdict → Type 0
LetsFollow Same = Unit {0}
LetsFollow Other = ⊥
LetsFollow Shorter = ⊥
LetsFollow Parted = Unit {0}

-- It parts from the held one, and does not begin otherwise: it was asked about that too.
pub record PartsLater (question : Summary) (old new : List Inquiry) : Type 0 where
  pub asked : List Inquiry
  pub begun : Option Verdict
  pub parted : IsAsked question old asked (Some Parted)
  pub front : new ≡ AsksOfFront begun ∷ asked
  pub alike : LetsFollow (said_first Parted begun)

-- It was asked, and answered that the follower may go on. One that hung up three times is followed only where the caller said that nothing has
-- to be compared.
abbrev pub MayFollow : Bool → Summary → List Inquiry → List Inquiry → Type 0
MayFollow uncompared question old new =
    IsAsked question old new (Some Same) ⊎ (PartsLater question old new ⊎ ((uncompared ≡ true) × IsAsked question old new None))

-- a record is held: the log has more than its header
abbrev pub holds : Standing → Bool
holds standing = is_some standing.epoch && nat_lt 16 standing.end

-- A look was taken at what is held. That is no record, and nothing was asked; or the primary was asked about all of it, and may be followed.
abbrev pub MayBegin : Bool → List Inquiry → List Inquiry → Type 0
MayBegin uncompared old new =
    (standing : Standing) × (((holds standing ≡ false) × (new ≡ Looked standing ∷ old)) ⊎ ((question : Summary) × (question.end ≡ standing.end) × MayFollow uncompared question (Looked standing ∷ old) new))
