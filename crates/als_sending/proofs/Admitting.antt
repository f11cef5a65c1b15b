-- A follower that is turned away, one that is admitted, and answers that do not come.
use Rattle.std.proofs.Common.{◌≡◌, ℕ, ◌≤◌, List, [], ◌∷◌, ◌++◌, length, Option, refl, subst, sym, append-nil, arith}
use Rattle.std.specs.Io.KnownBytes.{Appends, Consumes}
use Rattle.std.proofs.KnownBytes.{Consumes-nil}
use Rattle.als_record.specs.declared.header.LogHeader.{LogHeader}
use Rattle.als_epochs.specs.Histories.{IsHistory}
use Rattle.als_wire.specs.declared.fault.Fault.{Fault as WireFault}
use Rattle.als_wire.specs.declared.fault.Fault.TheVariants as wire
use Rattle.als_wire.specs.declared.tag.Tag.TheVariants as tag
use Rattle.als_wire.specs.Frames.{data_bytes, resume_bytes, epochs_bytes}
use Rattle.als_wire.specs.Reading.{FailsToRead}
use Rattle.als_wire.specs.Sending.{Puts}
use Rattle.als_ship.specs.declared.fault.Fault.{Fault}
use Rattle.als_ship.specs.Faults.{of_wire}
use Rattle.als_ship.specs.Wire.{FailsToAsk, FailsToPour, IsNotAdmitted}
use Rattle.als_ship.proofs.Beginning.{serves_unasked, serves_not}
use Rattle.als_ship.proofs.Pieces.{puts_none, puts_all}
use Rattle.als_sending.specs.Reads.{Read}
use Rattle.als_sending.specs.Stepping.{SendsPart}
use Rattle.als_sending.specs.Meeting.{IsTurnedAway}

-- it was not asked, or has another header
pub turned_unasked : (header : LogHeader) (pages : ℕ) (own : List ℕ) (end : ℕ) (f : Fault) (old new written : Option (List ℕ)) → header.pages ≡ pages → FailsToAsk header f old new → IsTurnedAway pages own end f old written written
turned_unasked header pages own end f old new written is fails =
    subst (λ (k : ℕ). IsTurnedAway k own end f old written written) is (serves_unasked header own end f old new fails, puts_none (epochs_bytes own) written)

-- it is not admitted
pub turned_judged : (header : LogHeader) (pages : ℕ) (own seals theirs : List ℕ) (from end shown : ℕ) (f : Fault) (old new written more : Option (List ℕ)) → header.pages ≡ pages → own ≡ seals → shown ≡ end → IsHistory theirs → Consumes old new (resume_bytes from header.pages theirs)
    → IsNotAdmitted theirs own from end f → Appends written more (epochs_bytes own) → IsTurnedAway pages seals shown f old written more
turned_judged header pages own seals theirs from end shown f old new written more is same told history read not sent =
    let found : IsTurnedAway header.pages own end f old written more = (serves_not header theirs own from end f old new history read not, puts_all (epochs_bytes own) written more sent) in
    subst (λ (k : ℕ). IsTurnedAway k seals shown f old written more) is
    (subst (λ (xs : List ℕ). IsTurnedAway header.pages xs shown f old written more) same
    (subst (λ (k : ℕ). IsTurnedAway header.pages own k f old written more) (sym told) found))

-- no answer was read
pub fails_answer : (f : WireFault) (old new : Option (List ℕ)) → FailsToRead tag.Acknowledged f old new → FailsToPour (of_wire f) old
fails_answer wire.BadHeader old new fails = cc fails.1.for_resume
fails_answer wire.Memory old new fails = tt
fails_answer wire.BadFrame old new fails = record { answers = []; between = old; behind = new; heard = Consumes-nil old; fails = fails }
fails_answer wire.Cut old new fails = tt
fails_answer wire.Stream old new fails = tt

-- bytes were read, and a front of their frame was sent
pub part_read : (epoch at : ℕ) (bytes : List ℕ) (reads reads_now : List Read) (old new : Option (List ℕ)) → length bytes ≤ 65536 → reads_now ≡ reads ++ record { at = at; bytes = bytes } ∷ [] → Puts (data_bytes epoch at bytes) old new → SendsPart epoch at reads reads_now old new
part_read epoch at bytes reads reads_now old new few are puts =
    let r : Read = record { at = at; bytes = bytes } in
    record {
      next = r ∷ [];
      one = omega arith;
      there = ((refl, few), tt);
      are = are;
      more = subst (λ (bs : List ℕ). Puts bs old new) (sym (append-nil (data_bytes epoch at bytes))) puts;
    }
