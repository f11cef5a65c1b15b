-- What ends a shipper.
use Rattle.std.proofs.Common.{◌≡◌, sym, ◌∙◌, inl, inr}
use Rattle.als_engine.specs.declared.fault.Fault.TheVariants.{BadConfig}
use Rattle.als_operate.specs.declared.fault.Fault.{Fault}
use Rattle.als_operate.specs.declared.fault.Fault.TheVariants.{Refused}
use Rattle.als_shipper.specs.Faults.{IsOfShipping}

-- nothing of that is a number out of its range
pub no_config : (P : Type 0) (fault : Fault) → IsOfShipping fault → fault ≡ Refused BadConfig → P
no_config P fault (inl (inl memory)) is = cc (sym memory ∙ is)
no_config P fault (inl (inr stream)) is = cc (sym stream ∙ is)
no_config P fault (inr session) is = cc (sym session.1 ∙ is)
