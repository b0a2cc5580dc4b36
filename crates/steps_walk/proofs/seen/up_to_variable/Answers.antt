use Rattle.std.proofs.Common.{leb, leb-false, rules}
use Rattle.std.proofs.lemmas.List.Sorted.{IsPartitionPoint-from_clause, IsPartitionedBy-leb}
use Rattle.steps_walk.proofs.Seeing.{of_see}
use Rattle.steps_walk.proofs.seen.up_to_variable.Goals as goal

pub returns-clause-behind : goal.returns-clause-behind
returns-clause-behind c =
    let parted = IsPartitionedBy-leb of_see _ c.args.number c.requires in
    let point = IsPartitionPoint-from_clause (λ see. leb (of_see see) c.args.number) _ _ c.partition_point.ensures.partitioned parted (λ a r q k. search rules) in
    λ k d l h. leb-false _ _ (point.1 k d l h)
