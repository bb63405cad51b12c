use Rattle.std.proofs.Common.{rules, get_or, ltb}
use Rattle.std.proofs.lemmas.Bool.{ltb-true, ltb-false}
use Rattle.std.proofs.lemmas.List.Sorted.{IsPartitionedBy-ltb, IsPartitionPoint-from_clause}
use Rattle.ods_remains.proofs.nearest.count_below.Goals as goal

pub returns-clause-point : goal.returns-clause-point
returns-clause-point c =
    let keys = c.args.keys.now in
    let key = c.args.key in
    let at = IsPartitionPoint-from_clause (λ y. ltb y key) keys c.partition_point.result c.partition_point.ensures.partitioned (IsPartitionedBy-ltb (λ x. x) keys key c.requires) (λ a r f called. search rules) in
    (λ k d low high. ltb-true (get_or keys k d) key (at.0 k d low high), λ k d low high. ltb-false (get_or keys k d) key (at.1 k d low high))
