use Rattle.std.proofs.Common.{rules}
use Rattle.std.proofs.lemmas.List.Sorted.{IsPartitionPoint-from_clause}
use Rattle.c_meaning.specs.Duties.{is_less}
use Rattle.sym_invariants.proofs.Numbering.{parted}
use Rattle.sym_invariants.proofs.numbers.earlier.Goals as goal

pub returns-clause-point : goal.returns-clause-point
returns-clause-point c =
    IsPartitionPoint-from_clause (λ x. is_less x c.args.duty.now) _ _ c.partition_point.ensures.partitioned (parted c.args.duties.now c.requires c.args.duty.now) (λ a r q k. search rules)
