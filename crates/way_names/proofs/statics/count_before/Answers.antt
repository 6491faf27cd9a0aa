use Rattle.std.proofs.Common.{rules, ℕ}
use Rattle.std.proofs.lemmas.List.Sorted.{IsPartitionPoint-from_clause}
use Rattle.c_core.specs.TextOrder.{is_before}
use Rattle.c_core.specs.declared.number.Spot.{Spot}
use Rattle.way_names.proofs.StaticLaws.{front_to_point}
use Rattle.way_names.proofs.statics.count_before.Goals as goal

pub returns-clause-front : goal.returns-clause-front
returns-clause-front c =
    front_to_point c.args.spot c.args.statics.now c.partition_point.result c.partition_point.ensures.bound
    (IsPartitionPoint-from_clause (λ (s : Spot × ℕ). is_before s.0 c.args.spot) _ _ c.partition_point.ensures.partitioned c.requires (λ a r q k. search rules))
