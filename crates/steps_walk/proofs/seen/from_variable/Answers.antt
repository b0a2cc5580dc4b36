use Rattle.std.proofs.Common.{ltb, ltb-true, rules}
use Rattle.std.proofs.lemmas.List.Sorted.{IsPartitionPoint-from_clause, IsPartitionedBy-ltb}
use Rattle.steps_walk.proofs.Seeing.{of_see}
use Rattle.steps_walk.proofs.seen.from_variable.Goals as goal

pub returns-clause-before : goal.returns-clause-before
returns-clause-before c =
    let parted = IsPartitionedBy-ltb of_see _ c.args.number c.requires in
    let point = IsPartitionPoint-from_clause (λ see. ltb (of_see see) c.args.number) _ _ c.partition_point.ensures.partitioned parted (λ a r q k. search rules) in
    λ k d l h. ltb-true _ _ (point.0 k d l h)
