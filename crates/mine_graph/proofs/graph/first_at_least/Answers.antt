-- Where targets do not fall, the test "less than p" parts them at the place that the binary search answers.
use Rattle.std.proofs.Common.{ℕ, ltb, get_or, arith, rules}
use Rattle.std.proofs.lemmas.Bool.{ltb-true, ltb-false}
use Rattle.std.proofs.lemmas.List.Sorted.{IsNonDecreasingBy-from_default, IsPartitionPoint-from_clause, IsPartitionedBy-ltb}
use Rattle.csr.specs.Shared.{target_after}
use Rattle.mine_graph.proofs.graph.first_at_least.Goals as goal

pub returns-clause-before : goal.returns-clause-before
returns-clause-before c i l =
    let rising = IsNonDecreasingBy-from_default (target_after c.args.block) c.args.differences.now 0 c.requires in
    let parted = IsPartitionedBy-ltb (target_after c.args.block) c.args.differences.now c.args.p rising in
    let point = IsPartitionPoint-from_clause (λ (x : ℕ). ltb (target_after c.args.block x) c.args.p) _ _ c.partition_point.ensures.partitioned parted (λ a r q k. search rules) in
    ltb-true (target_after c.args.block (get_or c.args.differences.now i 0)) c.args.p (point.0 i 0 (omega arith) l)

pub returns-clause-after : goal.returns-clause-after
returns-clause-after c i l m =
    let rising = IsNonDecreasingBy-from_default (target_after c.args.block) c.args.differences.now 0 c.requires in
    let parted = IsPartitionedBy-ltb (target_after c.args.block) c.args.differences.now c.args.p rising in
    let point = IsPartitionPoint-from_clause (λ (x : ℕ). ltb (target_after c.args.block x) c.args.p) _ _ c.partition_point.ensures.partitioned parted (λ a r q k. search rules) in
    ltb-false (target_after c.args.block (get_or c.args.differences.now i 0)) c.args.p (point.1 i 0 l m)
