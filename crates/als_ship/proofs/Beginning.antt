-- How a session begins, and why it does not.
use Rattle.std.proofs.Common.{◌≡◌, ◌≢◌, ◌<◌, ◌≤◌, ◌-◌, ◌^◌, ℕ, List, [], ◌++◌, length, take, Option, Ok, Err, refl, sym, ap, subst, ◌∙◌, inl, inr, arith}
use Rattle.std.specs.Io.KnownBytes.{Consumes, Appends}
use Rattle.als_record.specs.declared.header.LogHeader.{LogHeader}
use Rattle.als_record.specs.declared.lsn.Lsn.{Lsn}
use Rattle.als_record.specs.LogText.{header_bytes}
use Rattle.als_record.proofs.HeaderLaws.{one_header}
use Rattle.als_epochs.specs.Histories.{IsHistory}
use Rattle.als_epochs.specs.declared.fault.Fault.{Fault as EpochFault}
use Rattle.als_epochs.specs.declared.fault.Fault.TheVariants as judged
use Rattle.als_epochs.specs.declared.step.Step.{Step}
use Rattle.als_epochs.specs.Judging.{Judges}
use Rattle.als_wire.specs.declared.tag.Tag.TheVariants as tag
use Rattle.als_wire.specs.declared.fault.Fault.{Fault as WireFault}
use Rattle.als_wire.specs.declared.fault.Fault.TheVariants as wire
use Rattle.als_wire.specs.Frames.{resume_bytes, epochs_bytes}
use Rattle.als_wire.specs.Reading.{FailsToRead, IsHeader}
use Rattle.als_wire.specs.Sending.{Puts}
use Rattle.als_ship.specs.declared.fault.Fault.{Fault}
use Rattle.als_ship.specs.declared.fault.Fault.TheVariants.{BadHeader, Memory, Gap, BadFrame, Diverged, Cut, Stream, OtherEpoch, Refused}
use Rattle.als_ship.specs.Faults.{of_wire, of_epochs}
use Rattle.als_ship.specs.Wire.{FailsToAsk, FailsToServe, FailsToPour, IsNotAdmitted, IsMet, Pours, Ships}
use Rattle.als_ship.specs.Meeting.{IsHeaderOf, MeetsOne, MeetsInVain}
use Rattle.als_ship.proofs.Pieces.{Answered, no_answer, puts_none, puts_all}

-- ---- the header

-- a text has one header
pub same_header : (text : List ℕ) (h k : LogHeader) → take 16 text ≡ header_bytes h.pages → take 16 text ≡ header_bytes k.pages → h.pages ≤ 4096 → k.pages ≤ 4096 → h ≡ k
same_header text h k first second low high =
    ap (λ (n : ℕ). record { pages = n }) (one_header h.pages k.pages [] [] (omega (arith, low)) (omega (arith, high)) (ap (λ (xs : List ℕ). xs ++ []) (sym first ∙ second))).0

-- ---- a follower that is asked

-- no Resume frame was read
pub asks_in_vain : (header : LogHeader) (f : WireFault) (old new : Option (List ℕ)) → FailsToRead tag.Resume f old new → FailsToAsk header (of_wire f) old new
asks_in_vain header wire.BadHeader old new fails = inl fails
asks_in_vain header wire.Memory old new fails = cc fails.1.for_data
asks_in_vain header wire.BadFrame old new fails = fails
asks_in_vain header wire.Cut old new fails = tt
asks_in_vain header wire.Stream old new fails = tt

-- it has another header
pub asks_another : (header theirs : LogHeader) (from : ℕ) (seals : List ℕ) (old new : Option (List ℕ)) → IsHeader theirs → theirs.pages ≢ header.pages → Consumes old new (resume_bytes from theirs.pages seals) → FailsToAsk header BadHeader old new
asks_another header theirs from seals old new is other read = inr (from, theirs, seals, is, other, read)

-- so it is not served
pub serves_unasked : (header : LogHeader) (own : List ℕ) (end : ℕ) (f : Fault) (old new : Option (List ℕ)) → FailsToAsk header f old new → FailsToServe header own end f old
serves_unasked header own end BadHeader old new fails = (new, fails)
serves_unasked header own end BadFrame old new fails = inl (new, fails)
serves_unasked header own end Cut old new fails = tt
serves_unasked header own end Stream old new fails = tt
serves_unasked header own end Memory old new fails = absurd fails
serves_unasked header own end Gap old new fails = absurd fails
serves_unasked header own end (Diverged seal) old new fails = absurd fails
serves_unasked header own end (OtherEpoch epoch) old new fails = absurd fails
serves_unasked header own end (Refused cause) old new fails = absurd fails

-- ---- a follower that is judged

-- the histories part
pub admits_no_history : (theirs own : List ℕ) (from end : ℕ) (f : EpochFault) → Judges theirs own from (Err f) → IsNotAdmitted theirs own from end (of_epochs f)
admits_no_history theirs own from end (judged.OtherEpoch epoch) judges = judges
admits_no_history theirs own from end (judged.Diverged seal) judges = judges

pub serves_not : (header : LogHeader) (theirs own : List ℕ) (from end : ℕ) (f : Fault) (old new : Option (List ℕ)) → IsHistory theirs → Consumes old new (resume_bytes from header.pages theirs) → IsNotAdmitted theirs own from end f → FailsToServe header own end f old
serves_not header theirs own from end (OtherEpoch epoch) old new history read not = (new, (from, theirs, history, not, read))
serves_not header theirs own from end (Diverged seal) old new history read not = (new, (from, theirs, history, not, read))
serves_not header theirs own from end Gap old new history read not = (new, (from, theirs, history, not.0, not.1, not.2, read))
serves_not header theirs own from end BadHeader old new history read not = absurd not
serves_not header theirs own from end Memory old new history read not = absurd not
serves_not header theirs own from end BadFrame old new history read not = absurd not
serves_not header theirs own from end Cut old new history read not = absurd not
serves_not header theirs own from end Stream old new history read not = absurd not
serves_not header theirs own from end (Refused cause) old new history read not = absurd not

-- ---- the way

-- once the follower was met
pub serves_unanswered : (header : LogHeader) (own theirs : List ℕ) (from end : ℕ) (f : Fault) (old new : Option (List ℕ)) → IsHistory theirs → Consumes old new (resume_bytes from header.pages theirs) → FailsToPour f new → FailsToServe header own end f old
serves_unanswered header own theirs from end BadFrame old new history read fails = inr (record { from = from; seals = theirs; history = history; between = new; read = read; none = fails })
serves_unanswered header own theirs from end Memory old new history read fails = tt
serves_unanswered header own theirs from end Cut old new history read fails = tt
serves_unanswered header own theirs from end Stream old new history read fails = tt
serves_unanswered header own theirs from end BadHeader old new history read fails = absurd fails
serves_unanswered header own theirs from end Gap old new history read fails = absurd fails
serves_unanswered header own theirs from end (Diverged seal) old new history read fails = absurd fails
serves_unanswered header own theirs from end (OtherEpoch epoch) old new history read fails = absurd fails
serves_unanswered header own theirs from end (Refused cause) old new history read fails = absurd fails

-- the own history was not told
serves_untold : (header : LogHeader) (own : List ℕ) (end : ℕ) (f : WireFault) (old : Option (List ℕ)) → f ≡ wire.Stream → FailsToServe header own end (of_wire f) old
serves_untold header own end f old is = subst (λ (x : WireFault). FailsToServe header own end (of_wire x) old) (sym is) tt

-- no answer was read
pub way_answer : (text : List ℕ) (epoch from at : ℕ) (written sent asked old new : Option (List ℕ)) (kept : Option Lsn) (f : WireFault) → Answered text epoch from at written sent asked old kept → FailsToRead tag.Acknowledged f old new → FailsToPour (of_wire f) asked
way_answer text epoch from at written sent asked old new kept wire.BadHeader a fails = cc fails.1.for_resume
way_answer text epoch from at written sent asked old new kept wire.Memory a fails = tt
way_answer text epoch from at written sent asked old new kept wire.BadFrame a fails = no_answer text epoch from at written sent asked old new kept a fails
way_answer text epoch from at written sent asked old new kept wire.Cut a fails = tt
way_answer text epoch from at written sent asked old new kept wire.Stream a fails = tt

pub way_stream : (f : WireFault) (asked : Option (List ℕ)) → f ≡ wire.Stream → FailsToPour (of_wire f) asked
way_stream f asked is = subst (λ (x : WireFault). FailsToPour (of_wire x) asked) (sym is) tt

pub way_of : (f : Fault) (asked : Option (List ℕ)) → f ≡ Stream → FailsToPour f asked
way_of f asked is = subst (λ (x : Fault). FailsToPour x asked) (sym is) tt

pub way_memory : (f : Fault) (asked : Option (List ℕ)) → f ≡ Memory → FailsToPour f asked
way_memory f asked is = subst (λ (x : Fault). FailsToPour x asked) (sym is) tt

-- ---- meeting

pub header_of : (text : List ℕ) (header : LogHeader) → take 16 text ≡ header_bytes header.pages → IsHeader header → IsHeaderOf text header
header_of text header begins range = record { begins = begins; range = range }

-- it was not asked, or nothing of it was written yet
pub vain_unasked : (text own : List ℕ) (header : LogHeader) (f : Fault) (old new written : Option (List ℕ)) → IsHeaderOf text header → FailsToAsk header f old new → MeetsInVain text own f old written written
vain_unasked text own header f old new written is fails = (header, is, serves_unasked header own (length text) f old new fails, puts_none (epochs_bytes own) written)

-- the own history was not written
pub vain_untold : (text own : List ℕ) (header : LogHeader) (f : WireFault) (old written more : Option (List ℕ)) → IsHeaderOf text header → f ≡ wire.Stream → Puts (epochs_bytes own) written more → MeetsInVain text own (of_wire f) old written more
vain_untold text own header f old written more is failed puts =
    (header, is, serves_untold header own (length text) f old failed, puts)

-- it is not admitted
pub vain_judged : (text own theirs : List ℕ) (header : LogHeader) (from end : ℕ) (f : Fault) (old new written more : Option (List ℕ)) → IsHeaderOf text header → end ≡ length text → IsHistory theirs → Consumes old new (resume_bytes from header.pages theirs)
    → IsNotAdmitted theirs own from end f → Appends written more (epochs_bytes own) → MeetsInVain text own f old written more
vain_judged text own theirs header from end f old new written more is whole history read not told =
    (header, is, subst (λ (n : ℕ). FailsToServe header own n f old) whole (serves_not header theirs own from end f old new history read not), puts_all (epochs_bytes own) written more told)

pub meets : (text own theirs : List ℕ) (header : LogHeader) (from end : ℕ) (step : Step) (old new written more : Option (List ℕ)) → IsHeaderOf text header → end ≡ length text → IsHistory theirs → Consumes old new (resume_bytes from header.pages theirs)
    → Judges theirs own from (Ok step) → from < 2 ^ 64 → from ≤ end → Appends written more (epochs_bytes own) → MeetsOne text own from old new written more
meets text own theirs header from end step old new written more is whole history read judges fits within told =
    (header, is, record { theirs = theirs; history = history; step = step; judged = judges; fits = fits; range = is.range; within = omega (arith, within, whole); heard = read; told = told })

-- ---- a whole session

pub ships_all : (text own : List ℕ) (header : LogHeader) (from n : ℕ) (asked between behind old then new : Option (List ℕ)) (kept : Option Lsn) → take 16 text ≡ header_bytes header.pages → header.pages ≤ 4096 → MeetsOne text own from asked between old then
    → Pours text (length own) from between behind then new kept → n ≡ length text - from → Ships text own header asked behind old new n kept
ships_all text own header from n asked between behind old then new kept begins small (mine, is, met) pours count =
    record {
      from = from;
      between = between;
      then = then;
      met = subst (λ (h : LogHeader). IsMet text own from h.pages asked between old then) (same_header text mine header is.begins begins is.range.1 small) met;
      pours = pours;
      count = count;
    }

-- and one that ended before any log byte
pub served_in_vain : (text own : List ℕ) (header : LogHeader) (f : Fault) (asked old new : Option (List ℕ)) → take 16 text ≡ header_bytes header.pages → header.pages ≤ 4096 → MeetsInVain text own f asked old new → FailsToServe header own (length text) f asked
served_in_vain text own header f asked old new begins small (mine, is, fails, puts) =
    subst (λ (h : LogHeader). FailsToServe h own (length text) f asked) (same_header text mine header is.begins begins is.range.1 small) fails

-- and one that ended once the follower was met
pub served_part : (text own : List ℕ) (header : LogHeader) (from : ℕ) (f : Fault) (asked between old then : Option (List ℕ)) → take 16 text ≡ header_bytes header.pages → header.pages ≤ 4096 → MeetsOne text own from asked between old then → FailsToPour f between
    → FailsToServe header own (length text) f asked
served_part text own header from f asked between old then begins small (mine, is, met) fails =
    subst (λ (h : LogHeader). FailsToServe h own (length text) f asked) (same_header text mine header is.begins begins is.range.1 small) (serves_unanswered mine own met.theirs from (length text) f asked between met.history met.heard fails)
