use Rattle.std.proofs.Common.{◌≡◌, ℕ, nat_eq, slice_get, Some, sym, subst}
use Rattle.std.specs.Map.{lookup}
use Rattle.als_frames.proofs.table.hinted_place.Goals as goal

pub returns-then-found-page : goal.returns-then-found-page
returns-then-found-page c =
    let es = c.args.frames.now.entries in
    let f = c.in_ok-found.field-0-1.now in
    let same : c.in_ok-found.found.now ≡ c.args.page = c.if-found-page.true in (
      f,
      record {
        here = subst (λ (p : ℕ). slice_get es c.of-i.result ≡ Some (p, f)) same (sym c.in_ok-found.ensures.entry);
        found = subst (λ (p : ℕ). lookup (nat_eq p) es ≡ Some f) same c.in_ok-found.ensures.value;
      },
    )
