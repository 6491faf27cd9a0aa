use Rattle.std.proofs.Common.{rules, arith, ◌≡◌, ◌∙◌, FitsSigned}
use Rattle.std.specs.Int.{w128}
use Rattle.std.proofs.lemmas.Int.{ints, to_z-of_z}
use Rattle.c_core.specs.Types.{residue, wrapped}
use Rattle.c_core.proofs.types.wrap.Goals as goal

pub returns-then-signed : goal.returns-then-signed
unfolding wrapped
returns-then-signed c =
    let f = c.ranges.v in
    let e : c.low_bits-low.result ≡ residue c.args.bits c.args.v = simp to_z-of_z at c.low_bits-low.ensures.value in
    let g : FitsSigned w128 c.in_twos_complement.result = search rules in
    rw (c.if-signed.true, ← e) (to_z-of_z w128 _ g ∙ c.in_twos_complement.ensures)

pub returns-else-signed : goal.returns-else-signed
unfolding wrapped
returns-else-signed c =
    let f = c.ranges.v in
    let e : c.low_bits-low.result ≡ residue c.args.bits c.args.v = simp to_z-of_z at c.low_bits-low.ensures.value in
    rw (c.if-signed.false, ← e) (omega (arith, ints))
