use Rattle.std.proofs.Common.{nat_lt, arith, rules}
use Rattle.std.proofs.lemmas.Bool.{ltb-true, ltb-false}
use Rattle.std.proofs.lemmas.List.Sorted.{IsPartitionedBy-ltb, IsPartitionPoint-from_clause}
use Rattle.als_analysis.specs.declared.open_row.OpenRow.{OpenRow}
use Rattle.als_analysis.proofs.KeptSteps.{rising-sorted}
use Rattle.als_analysis.proofs.trans_table.search.Goals as goal

pub returns : goal.returns
returns c =
    let parted = IsPartitionedBy-ltb (λ (o : OpenRow). o.row.trans.0) c.args.entries.now c.args.trans.0 (rising-sorted c.args.entries.now c.requires) in
    let point = IsPartitionPoint-from_clause (λ (o : OpenRow). nat_lt o.row.trans.0 c.args.trans.0) _ _ c.partition_point.ensures.partitioned parted (λ a r q k. search rules) in
    record { within = c.partition_point.ensures.bound; below = λ k d l. ltb-true _ _ (point.0 k d (omega arith) l); above = λ k d l m. ltb-false _ _ (point.1 k d l m) }
