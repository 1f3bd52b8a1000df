use Rattle.std.proofs.Common.{ltb, ltb-true, ltb-false, arith, rules}
use Rattle.std.proofs.lemmas.List.Sorted.{IsPartitionPoint-from_clause, IsPartitionedBy-ltb}
use Rattle.slot_pool.specs.declared.key.SlotKey.{SlotKey}
use Rattle.slot_pool.proofs.finding.place.Goals as goal

pub returns-clause-before : goal.returns-clause-before
returns-clause-before c =
    let parted = IsPartitionedBy-ltb (λ (key : SlotKey). key.number) _ c.args.number c.requires in
    let point = IsPartitionPoint-from_clause (λ (key : SlotKey). ltb key.number c.args.number) _ _
    c.partition_point.ensures.partitioned parted (λ a r q k. search rules) in
    λ k d h. ltb-true _ _ (point.0 k d (omega arith) h)

pub returns-clause-behind : goal.returns-clause-behind
returns-clause-behind c =
    let parted = IsPartitionedBy-ltb (λ (key : SlotKey). key.number) _ c.args.number c.requires in
    let point = IsPartitionPoint-from_clause (λ (key : SlotKey). ltb key.number c.args.number) _ _
    c.partition_point.ensures.partitioned parted (λ a r q k. search rules) in
    λ k d from inside. ltb-false _ _ (point.1 k d from inside)
