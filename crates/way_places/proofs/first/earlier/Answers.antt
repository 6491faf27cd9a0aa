use Rattle.std.proofs.Common.{rules}
use Rattle.std.proofs.lemmas.List.Sorted.{IsPartitionPoint-from_clause}
use Rattle.c_core.specs.TextOrder.{is_before}
use Rattle.way_places.proofs.TextLaws.{parted}
use Rattle.way_places.proofs.first.earlier.Goals as goal

pub returns-clause-point : goal.returns-clause-point
returns-clause-point g c =
    IsPartitionPoint-from_clause (λ e. is_before e.0 c.args.spot) _ _ c.partition_point.ensures.partitioned (parted (λ e. e.0) c.args.spot c.args.all.now c.requires) (λ a r q k. search rules)
