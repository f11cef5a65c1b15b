use Rattle.std.proofs.Common.{◌≤◌, Option, List, subst, sym, arith}
use Rattle.std.proofs.lemmas.Grind.{common_steps}
use Rattle.als_quorum.specs.declared.row.Row.{Row}
use Rattle.als_quorum.specs.Enough.{HasEnough, AreVouchers}
use Rattle.als_quorum.proofs.Choosing.{enough-fewer}
use Rattle.als_quorum.proofs.roll.Roll.has_enough.Goals as goal

pub returns : goal.returns
returns c =
    let rows = c.args.self.now.rows.items in
    let wanted = c.args.wanted in
    let blocks = c.args.allowed.now.blocks.items in
    let found = c.count_names.result in
    let same = c.as_slice.ensures.value in (
      λ yes. let le : c.args.count ≤ found = grind (arith, common_steps) in
          enough-fewer blocks rows wanted found c.args.count le
          (subst (λ (l : List (Option Row)). HasEnough blocks l found wanted) same c.count_names.ensures.some),
      λ e. let most = c.count_names.ensures.most e.0 (subst (λ (l : List (Option Row)). AreVouchers blocks l wanted e.0) (sym same) e.2) in
          let many = e.1 in
          let le : c.args.count ≤ found = omega arith in
          grind (arith, common_steps),
    )
