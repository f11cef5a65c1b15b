use Rattle.std.proofs.Common.{◌≡◌, ◌<◌, length, Option, None, Some, refl, subst, get_or-set_other, get_or-set_same, length-set, List}
use Rattle.als_quorum.specs.declared.row.Row.{Row}
use Rattle.als_quorum.specs.Rows.{row_of}
use Rattle.als_quorum.proofs.roll.Roll.join.Goals as goal

pub returns-clause-joins : goal.returns-clause-joins
returns-clause-joins c =
    let rows = c.args.self.now.rows.items in
    let at = c.in_ok-at.at in
    let same = c.as_slice-rows.ensures.value in
    let free = c.in_ok-at.ensures.free in
    let lt : at < length rows = subst (λ (l : List (Option Row)). at < length l) same free.0 in
    let none : row_of rows at ≡ None = subst (λ (l : List (Option Row)). row_of l at ≡ None) same free.1 in
    let own : Row = record { peer = c.to_canonical.result; id = c.args.id; acknowledged = record { 0 = 0 }; round = 0; connected = c.args.now; heard = None } in (
      none,
      (
        own,
        (c.to_canonical.ensures, refl, refl, refl, refl, refl),
        (get_or-set_same rows at (Some own) None lt, (λ other ne. get_or-set_other rows at other (Some own) None ne), length-set rows at (Some own)),
      ),
    )
