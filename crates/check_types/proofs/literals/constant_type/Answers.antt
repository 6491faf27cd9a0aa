use Rattle.std.proofs.Common.{arith, ◌≡◌, ◌++◌, [], refl}
use Rattle.c_core.specs.declared.number.IntType.TheVariants.{Long, ULong, LongLong, ULongLong}
use Rattle.check_rules.specs.Constants.{of_rank}
use Rattle.check_types.proofs.literals.constant_type.Goals as goal

pub returns : goal.returns
returns c =
    let none : c.args.longs ≡ 0 = omega (arith, c.if-longs-gt2.false, c.if-longs-eq2.false, c.if-longs-eq1.false) in
    let last = of_rank c.args.decimal c.args.unsigned (record { signed = LongLong; unsigned = ULongLong }) ++ [] in
    let next = of_rank c.args.decimal c.args.unsigned (record { signed = Long; unsigned = ULong }) ++ last in
    rw none (c.of_rank.ensures next (c.of_rank-long.ensures last (c.of_rank-long_long.ensures [] refl)))
