-- How the sessions ended, one after another.
use Rattle.std.specs.Prelude.{◌≡◌, ℕ, List, [], ◌∷◌, Option, Some, None, Result, Err, false, true}
use Rattle.std.proofs.Common.{refl, sym, ap, ◌∙◌}
use Rattle.std.proofs.lemmas.Bool.{true≢false}
use Rattle.als_ship.specs.declared.fault.Fault.{Fault as SessionFault}
use Rattle.als_ship.specs.declared.fault.Fault.TheVariants as session
use Rattle.als_operate.specs.declared.fault.Fault.{Fault}
use Rattle.als_operate.specs.declared.fault.Fault.TheVariants.{Memory, Stream, Folder, Session as OfSession, Refused, OtherLog}
use Rattle.als_operate.specs.FaultNames.{kind_of}
use Rattle.als_service.specs.Endings.{is_final, ends_it}
use Rattle.als_service.specs.Losses.{IsLost}
use Rattle.als_service.specs.Sessions.{Session, begins, ends, refuses, EndsOne, GoesOnAll, EndsLast}

-- one that began, and then ended so
pub ends_one : (ended : Option (Result (Unit {0}) Fault)) (told after : Option (List ℕ)) (start came gone : List Session)
    → came ≡ begins told start → gone ≡ ends after ended came → EndsOne ended start gone
ends_one ended told after start came gone comes_first goes_then =
    (record { told = told; after = after; ended = Some ended }, goes_then ∙ ap (ends after ended) comes_first, refl)

-- one that did not begin
pub ends_unbegun : (fault : Fault) (start gone : List Session) → gone ≡ refuses fault start → EndsOne (Some (Err fault)) start gone
ends_unbegun fault start gone e = (record { told = None; after = None; ended = Some (Some (Err fault)) }, e, refl)

pub goes_on_none : (met : List Session) → GoesOnAll met met
goes_on_none met = ([], refl, tt)

-- one more, after which it goes on
pub goes_on_more : (ended : Option (Result (Unit {0}) Fault)) (start mid new : List Session) → GoesOnAll start mid → EndsOne ended mid new
    → ends_it ended ≡ false → GoesOnAll start new
goes_on_more ended start mid new all one goes =
    (one.0 ∷ all.0, one.1 ∙ ap (λ (met : List Session). one.0 ∷ met) all.1, ((ended, one.2, goes), all.2))

-- one more, which ends all
pub ends_last : (fault : Fault) (ended : Option (Result (Unit {0}) Fault)) (start mid new : List Session) → GoesOnAll start mid
    → EndsOne ended mid new → ended ≡ Some (Err fault) → is_final (kind_of fault) ≡ true → EndsLast fault start new
ends_last fault ended start mid new all one so final =
    (one.0, all.0, one.1 ∙ ap (λ (met : List Session). one.0 ∷ met) all.1, one.2 ∙ ap Some so, final, all.2)

-- a session whose connection was lost does not end all
lost_session : (fault : SessionFault) → is_final (kind_of (OfSession fault)) ≡ true → IsLost (OfSession fault) → ⊥
lost_session session.BadHeader final lost = lost
lost_session session.Memory final lost = lost
lost_session session.Gap final lost = lost
lost_session session.BadFrame final lost = lost
lost_session (session.Diverged seal) final lost = lost
lost_session session.Cut final lost = true≢false (sym final)
lost_session session.Stream final lost = true≢false (sym final)
lost_session (session.OtherEpoch epoch) final lost = lost
lost_session (session.Refused cause) final lost = lost

pub final_is_not_lost : (fault : Fault) → is_final (kind_of fault) ≡ true → IsLost fault → ⊥
final_is_not_lost Memory final lost = lost
final_is_not_lost Stream final lost = true≢false (sym final)
final_is_not_lost (Folder fault) final lost = lost
final_is_not_lost (OfSession fault) final lost = lost_session fault final lost
final_is_not_lost (Refused cause) final lost = lost
final_is_not_lost OtherLog final lost = lost
