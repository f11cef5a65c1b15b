-- The range of a mark.
use Rattle.std.proofs.Common.{◌≡◌, ◌≤◌, Result, Ok, Err, IfOk, subst}
use Rattle.als_ckpt.specs.declared.control_state.ControlState.{ControlState}
use Rattle.als_inspect.specs.declared.fault.Fault.{Fault}
use Rattle.als_inspect.specs.declared.log_text.Database.{Database}

-- the mark of a database is that of its control state
pub mark_in_range : (r : Result Database Fault) (control : Result ControlState Fault) → IfOk r (λ (d : Database). control ≡ Ok d.state)
    → IfOk control (λ (s : ControlState). (16 ≤ s.mark.0) × (s.mark.0 ≤ 2147483648)) → IfOk r (λ (d : Database). (16 ≤ d.state.mark.0) × (d.state.mark.0 ≤ 2147483648))
mark_in_range (Ok d) control is range = subst (λ (c : Result ControlState Fault). IfOk c (λ (s : ControlState). (16 ≤ s.mark.0) × (s.mark.0 ≤ 2147483648))) is range
mark_in_range (Err f) control is range = tt
