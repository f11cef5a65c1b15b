use Rattle.std.proofs.Common.{◌<◌, ◌≤◌, ◌+◌, ℕ, length, take, Option, List, subst, sym, arith}
use Rattle.std.proofs.lemmas.List.{take_all}
use Rattle.als_callers.specs.declared.block.Block.{Block}
use Rattle.als_quorum.specs.declared.row.Row.{Row}
use Rattle.als_quorum.specs.declared.wanted.Wanted.{Wanted}
use Rattle.als_quorum.proofs.Choosing.{IsChoice, choice-next-kept, choice-next-more, choice-most}
use Rattle.als_quorum.proofs.counting.count_names.Goals as goal
use Rattle.als_quorum.proofs.counting.count_names.Goals.{then-is_first, else-is_first}

pub loop-at-preserved : goal.loop-at-preserved
loop-at-preserved c =
    let rows = c.args.rows.now in
    let at = c.loop-at.at in
    let wanted = c.args.wanted in
    let blocks = c.args.allowed.now.blocks.items in
    let lt : at < length rows = c.loop-at-test.true in
    elim c.if-is_first.branch [
      | then-is_first w ↦
          let first = c.is_first.ensures.first w.if-is_first.true in
          let few : c.if-is_first.count ≤ at + 1 = omega arith in
          let choice : IsChoice blocks (take (at + 1) rows) wanted c.if-is_first.count =
          subst (IsChoice blocks (take (at + 1) rows) wanted) (sym w.count-is)
          (choice-next-more blocks rows at first.0 wanted c.loop-at.count lt first.1 first.2 first.3 c.loop-at.invariant.choice) in
          record { few = few; choice = choice }
      | else-is_first w ↦
          let few : c.if-is_first.count ≤ at + 1 = omega arith in
          let choice : IsChoice blocks (take (at + 1) rows) wanted c.if-is_first.count =
          subst (IsChoice blocks (take (at + 1) rows) wanted) (sym w.count-is)
          (choice-next-kept blocks rows at wanted c.loop-at.count lt (c.is_first.ensures.other w.if-is_first.false) c.loop-at.invariant.choice) in
          record { few = few; choice = choice }
    ]

-- all seats are gone through
all_rows : (blocks : List Block) (rows : List (Option Row)) (at : ℕ) (wanted : Wanted) (count : ℕ) → length rows ≤ at → IsChoice blocks (take at rows) wanted count → IsChoice blocks rows wanted count
all_rows blocks rows at wanted count le c = subst (λ (l : List (Option Row)). IsChoice blocks l wanted count) (take_all at rows le) c

pub returns-clause-some : goal.returns-clause-some
returns-clause-some c =
    let all = all_rows c.args.allowed.now.blocks.items c.args.rows.now c.loop-at.at c.args.wanted c.loop-at.count (omega arith) c.loop-at.invariant.choice in
    (all.0, all.1, all.2)

pub returns-clause-most : goal.returns-clause-most
returns-clause-most c = λ chosen h.
    let all = all_rows c.args.allowed.now.blocks.items c.args.rows.now c.loop-at.at c.args.wanted c.loop-at.count (omega arith) c.loop-at.invariant.choice in
    choice-most c.args.allowed.now.blocks.items c.args.rows.now c.args.wanted c.loop-at.count chosen all h
