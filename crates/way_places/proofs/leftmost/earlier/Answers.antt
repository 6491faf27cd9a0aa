use Rattle.std.proofs.Common.{rules}
use Rattle.std.proofs.lemmas.List.Sorted.{IsPartitionPoint-from_clause}
use Rattle.c_core.specs.TextOrder.{is_before}
use Rattle.way_places.proofs.TextLaws.{parted}
use Rattle.way_places.proofs.leftmost.earlier.Goals as goal

pub returns-clause-point : goal.returns-clause-point
returns-clause-point c =
    IsPartitionPoint-from_clause (λ s. is_before s c.args.from) _ _ c.partition_point.ensures.partitioned (parted (λ s. s) c.args.from c.args.spots.now c.requires) (λ a r q k. search rules)
