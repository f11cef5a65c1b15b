-- Visits of a shipper, one after another.
use Rattle.std.proofs.Common.{◌≡◌, ◌≤◌, ◌⊎◌, ℕ, List, [], ◌∷◌, take, Option, refl, sym, ap, subst, ◌∙◌, inl, inr}
use Rattle.std.specs.Io.KnownBytes.{Appends}
use Rattle.als_record.specs.declared.header.LogHeader.{LogHeader}
use Rattle.als_record.specs.declared.lsn.Lsn.{Lsn}
use Rattle.als_record.specs.LogText.{header_bytes}
use Rattle.als_ship.specs.declared.fault.Fault.{Fault as AnyFault}
use Rattle.als_operate.specs.declared.fault.Fault.{Fault}
use Rattle.als_operate.specs.declared.fault.Fault.TheVariants.{Session}
use Rattle.als_operate.specs.FaultNames.{IsOfReader}
use Rattle.als_shipper.specs.Lines.{sent_line, Tells, TellsLast, TellsTo}
use Rattle.als_shipper.specs.Visits.{Visit, comes, goes, PassesLast, PassesOver, SendsLast, SendsTrueTo, EndsLast, EndsServingTo}

-- what a printer is refused by is no fault of the session
pub no_session : (P : Type 0) (fault : Fault) (cause : AnyFault) → IsOfReader fault → fault ≡ Session cause → P
no_session P fault cause (inl memory) is = cc (sym memory ∙ is)
no_session P fault cause (inr stream) is = cc (sym stream ∙ is)

-- the streams of a visit are those of the last who came
pub tells_last : (text seals : List ℕ) (header : LogHeader) (asked behind told after printed line : Option (List ℕ)) (start came gone : List Visit) → came ≡ comes asked told start → gone ≡ goes behind after came → Tells text seals header asked behind told after printed line → TellsLast text seals header start gone printed line
tells_last text seals header asked behind told after printed line start came gone comes_first goes_then tells = (
  tells.0,
  tells.1,
  (record { asked = asked; behind = behind; told = told; after = after }, goes_then ∙ ap (goes behind after) comes_first, tells.2),
  tells.3,
)

pub passes_none : (met : List Visit) → PassesOver met met
passes_none met = ([], refl, tt)

pub passes_more : (start mid new : List Visit) → PassesOver start mid → PassesLast mid new → PassesOver start new
passes_more start mid new over last = (last.0 ∷ over.0, last.1 ∙ ap (λ (met : List Visit). last.0 ∷ met) over.1, (last.2, over.2))

pub served : (text now seals own : List ℕ) (header : LogHeader) (start mid new : List Visit) (printed so_far after : Option (List ℕ)) → now ≡ text → own ≡ seals → so_far ≡ printed → PassesOver start mid → (take 16 now ≡ header_bytes header.pages → header.pages ≤ 4096 → TellsLast now own header mid new so_far after)
    → take 16 text ≡ header_bytes header.pages → header.pages ≤ 4096 → TellsTo text seals header start new printed after
served text now seals own header start mid new printed so_far after same kept quiet over last begins few =
    let tells : TellsLast now own header mid new so_far after = last (ap (take 16) same ∙ begins) few in
    let of_text : TellsLast text own header mid new so_far after = subst (λ (t : List ℕ). TellsLast t own header mid new so_far after) same tells in
    let of_seals : TellsLast text seals header mid new so_far after = subst (λ (h : List ℕ). TellsLast text h header mid new so_far after) kept of_text in
    let all : TellsLast text seals header mid new printed after = subst (λ (o : Option (List ℕ)). TellsLast text seals header mid new o after) quiet of_seals in
    (all.0, all.1, (mid, over, all.2), all.3)

pub told_line : (printed so_far after : Option (List ℕ)) → so_far ≡ printed → ((n : ℕ) × Appends so_far after (sent_line n)) → (n : ℕ) × Appends printed after (sent_line n)
told_line printed so_far after quiet line = subst (λ (o : Option (List ℕ)). (n : ℕ) × Appends o after (sent_line n)) quiet line

pub sends_true : (text now seals own : List ℕ) (start mid new : List Visit) → now ≡ text → own ≡ seals → PassesOver start mid → (new ≡ mid) ⊎ SendsLast now own mid new → SendsTrueTo text seals start new
sends_true text now seals own start mid new same kept over sends =
    let of_text = subst (λ (t : List ℕ). (new ≡ mid) ⊎ SendsLast t own mid new) same sends in
    (mid, over, subst (λ (h : List ℕ). (new ≡ mid) ⊎ SendsLast text h mid new) kept of_text)

pub ends_serving : (text now seals own : List ℕ) (start mid new : List Visit) → now ≡ text → own ≡ seals → PassesOver start mid → ((kept : Option Lsn) × EndsLast now own mid new kept) → (kept : Option Lsn) × EndsServingTo text seals start new kept
ends_serving text now seals own start mid new same kept over ends =
    let of_text = subst (λ (t : List ℕ). (last : Option Lsn) × EndsLast t own mid new last) same ends in
    let of_seals = subst (λ (h : List ℕ). (last : Option Lsn) × EndsLast text h mid new last) kept of_text in
    (of_seals.0, (mid, over, of_seals.1))
