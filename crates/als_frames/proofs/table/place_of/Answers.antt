use Rattle.std.proofs.Common.{◌≡◌, ℕ, nat_eq, slice_get, Some, sym, subst}
use Rattle.std.proofs.lemmas.Bool.{eqb-true}
use Rattle.std.proofs.lemmas.Map.Made.{lookup_key_passes}
use Rattle.als_frames.proofs.table.place_of.Goals as goal

pub returns-clause-some : goal.returns-clause-some
returns-clause-some c =
    let es = c.args.frames.now.entries in
    let f = c.in_ok-i.field-0-2.now in
    let same : c.args.page ≡ c.in_ok-i.field-0-1.now = eqb-true c.args.page c.in_ok-i.field-0-1.now (lookup_key_passes (nat_eq c.args.page) es c.in_ok-i.field-0-1.now (sym c.in_ok-i.ensures.key)) in (
      f,
      record {
        here = subst (λ (p : ℕ). slice_get es c.in_ok-i.i ≡ Some (p, f)) (sym same) c.in_ok-i.ensures.entry;
        found = sym c.in_ok-i.ensures.value;
      },
    )
